-- What is left to do of a batch, member by member: of the shares, and of the answers.
use mathlib.Core.Path.{◌≡◌, refl, ap, sym, ◌∙◌}
use mathlib.Core.List.{List, [], ◌∷◌, ◌++◌, append_assoc}
use native.Mathlib.Omega.{arith}
use native.Mathlib.Nat.{zero-mul, suc-mul}
use native.Mathlib.Numerals.{add-one}
use Prim.Native.Nat.{ℕ, suc, ◌+◌, ◌*◌, ◌≤◌, ◌<◌}
use lib.ListN.{length, get_or, take, drop, length-append, length-drop, drop_of_length-le, take-append-drop}
use lib.Seq.{sets, take_at, drop_at, drop-drop, length-take-le}
use Rattle.kit.proofs.Laws.{drop_next, sets_append}
use Rattle.rules.specs.Versions.{Setting}
use Rattle.rules.specs.Rows.{bytes}
use Rattle.rules.specs.Rules.{Env}
use Rattle.rules.specs.Answer.{output_inside}
use Rattle.rules.proofs.Laws.Output.OutBytes.{bytes_length}
use Rattle.rules.proofs.Laws.InputLaws.{Usual}
use Rattle.read_form.proofs.Laws.OutputLength.{output_length}
use Rattle.batching.specs.Batch.{inside_answer, inside_output, member_answers, member_outputs}
use Rattle.batching.specs.BatchBytes.{packed, answers_bytes}

-- one share more
pub next_share : (i share : ℕ) → (i + 1) * share ≡ i * share + share
next_share i share = let q = suc-mul i share in rw add-one (omega (arith, q))

next_eight : (i : ℕ) → 8 * (i + 1) ≡ 8 * i + 8
next_eight i = omega arith

module _ (s : Setting) (root : Env) (share : ℕ) (forms : List (List ℕ)) where
  -- ---- the shares

  -- the buffer, once the members from the i-th on have written theirs
  abbrev pub outs_from : (i : ℕ) (outs : List ℕ) → List ℕ
  outs_from i outs = take (i * share) outs ++ member_outputs s root share (drop i forms) (drop (i * share) outs)

  pub outs_start : (outs : List ℕ) → outs_from 0 outs ≡ member_outputs s root share forms outs
  outs_start outs = rw (zero-mul share)

  pub outs_turn : Usual s → (i : ℕ) (outs front outs' : List ℕ) → i < length forms → i * share + share ≤ length outs
      → front ≡ inside_output s root (get_or forms i []) (take share (drop (i * share) outs)) ++ drop share (drop (i * share) outs)
      → outs' ≡ take (i * share) outs ++ front
      → outs_from (i + 1) outs' ≡ outs_from i outs
  unfolding member_outputs
  outs_turn u i outs front outs' h fits e f =
      let at = i * share in
      let before = take at outs in
      let new = inside_output s root (get_or forms i []) (take share (drop at outs)) in
      let rest = drop share (drop at outs) in
      let l = length-drop at outs in
      let a : length before ≡ at = length-take-le at outs (omega arith) in
      let b : length new ≡ share = output_length (root ∷ []) (s ∷ []) (u, tt) (get_or forms i []) (take share (drop at outs)) ∙ length-take-le share (drop at outs) (omega arith) in
      let c : length (before ++ new) ≡ (i + 1) * share = length-append before new ∙ (omega (arith, a, b, next_share i share)) in
      let all : outs' ≡ (before ++ new) ++ rest = f ∙ (ap (λ (l : List ℕ). before ++ l) e ∙ sym (append_assoc before new rest)) in
      rw (all, take_at (before ++ new) rest ((i + 1) * share) c, drop_at (before ++ new) rest ((i + 1) * share) c, drop_next forms i [] h)
      (append_assoc before new (member_outputs s root share (drop (i + 1) forms) rest))

  pub outs_end : (i : ℕ) (outs : List ℕ) → length forms ≤ i → outs_from i outs ≡ outs
  unfolding member_outputs
  outs_end i outs h = rw (drop_of_length-le forms h) (take-append-drop (i * share) outs)

  -- ---- the answers

  -- the buffer, once the members from the i-th on are answered
  abbrev pub answers_from : (i : ℕ) (answers : List ℕ) → List ℕ
  answers_from i answers = sets answers (8 * i) (answers_bytes (member_answers s root share (drop i forms)))

  pub answers_turn : (i r : ℕ) (answers answers' : List ℕ) → i < length forms → r ≡ packed (inside_answer s root (get_or forms i []) share) → answers' ≡ sets answers (8 * i) (bytes 8 r)
      → answers_from (i + 1) answers' ≡ answers_from i answers
  unfolding answers_bytes member_answers
  answers_turn i r answers answers' h e f =
      rw (f, e, drop_next forms i [] h, next_eight i)
      (sym (sets_append answers (8 * i) (bytes 8 (packed (inside_answer s root (get_or forms i []) share))) (answers_bytes (member_answers s root share (drop (i + 1) forms)))
      ∙ rw (bytes_length 8 (packed (inside_answer s root (get_or forms i []) share)))))

  pub answers_end : (i : ℕ) (answers : List ℕ) → length forms ≤ i → answers_from i answers ≡ answers
  unfolding answers_bytes member_answers
  answers_end i answers h = rw (drop_of_length-le forms h)
