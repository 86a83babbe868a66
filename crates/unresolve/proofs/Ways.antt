-- Each way through the code but the last comparison.
use Rattle.std.specs.Prelude.{Result, Ok, ℕ}
use mathlib.Core.Path.{◌≡◌, refl, sym, ap, ◌∙◌, subst}
use mathlib.Core.Bool.{Bool, true, false, ◌&&◌}
use mathlib.Core.List.{List, [], ◌∷◌, ◌++◌, append-nil}
use native.Mathlib.Omega.{arith}
use native.Mathlib.Nat.{sub-zero}
use Prim.Native.Nat.{ℕ, zero, suc, ◌+◌, ◌-◌, ◌*◌, ◌/◌, ◌≤◌, ◌<◌}
use lib.Dec.{eqb, ltb}
use lib.ListN.{length, get_or, set, take, drop, replicate, length-drop, length-replicate, drop_of_length-le}
use lib.Seq.{sets, take_all, drop-length, set_out}
use borrow.Author.Rules.{rules}
use borrow.Author.Tests.{eq-eqb, ne_eqb, lt-ltb, le-ltb}
use Rattle.kit.specs.Pick.{pick}
use Rattle.kit.specs.Out.{◌&◌}
use Rattle.kit.proofs.Laws.{left_suc, drop_next}
use Rattle.rules.specs.Answer.{same_numbers, header_bytes, output}
use Rattle.rules.specs.Versions.{base}
use Rattle.limits.specs.declared.Limits.{Limits}
use Rattle.limits.specs.Held.{setting_in, limits_of, setting}
use Rattle.limits.proofs.Laws.{few_rows, stand_for}
use Rattle.names.specs.Table.{Slot, empty_slot}
use Rattle.index.specs.Indexed.{Holds}
use Rattle.index.proofs.Storey.{holds_none}
use Rattle.claim_rows.specs.Left.{rows_at}
use Rattle.back_notes.specs.Note.{Note}
use Rattle.back_notes.specs.Number.{notes_t}
use Rattle.back_notes.specs.Names.{names_t}
use Rattle.back_rows.specs.Below.{below}
use Rattle.back_rows.specs.Write.{start_t, write_back_t}
use Rattle.unresolve.specs.Restored.{noted_t, restore_rows_t, headed_t, restore_t}
use Rattle.unresolve.specs.Run.{refused_t, give_t}
use Rattle.refusal.specs.declared.Refused.{Refused}

-- ---- restore_rows, restore_first

pub empty_holds : Holds (replicate 1024 empty_slot) (replicate 2048 0) 0
empty_holds =
    let l = length-replicate 1024 empty_slot in
    let n : 2048 ≡ 1024 + length (replicate 1024 empty_slot) = omega arith in
    subst (λ (k : ℕ). Holds (replicate 1024 empty_slot) (replicate k 0) 0) (sym n) (holds_none (replicate 1024 empty_slot) (replicate 2048 0) (omega arith))

pub rows_restored : (slots : ℕ) (rows out o : List ℕ) (n₀ n₁ n₂ : List Note) (r : ℕ) → n₁ ≡ sets n₀ 0 (notes_t 0 [] [] (rows_at rows 0)) → n₂ ≡ names_t slots rows n₁
    → (r & o) ≡ write_back_t (below rows n₂ (length rows / 16)) (start_t (length out / 16)) out → (r & o) ≡ restore_rows_t slots n₀ rows out
unfolding restore_rows_t noted_t
rows_restored slots rows out o n₀ n₁ n₂ r p q w = rw (q, p) at w

-- ---- most_rows, restore

module _ (i : ℕ) (l : Limits) (e : l ≡ limits_of (setting i)) where
  pub rows_are : l.rows ≡ (setting i).version.rows
  rows_are = ap (λ (x : Limits). x.rows) e

  pub rows_few : l.rows ≤ 16383
  rows_few = omega (arith, rows_are, few_rows i)

behind : (k : ℕ) (l : List ℕ) → take (length l - k) (drop k l) ≡ drop k l
behind k l = take_all (length l - k) (drop k l) (simp length-drop (omega arith))

nothing_behind : (k : ℕ) (l : List ℕ) → drop (length l - k) (drop k l) ≡ []
nothing_behind k l = rw (← length-drop k l) (drop-length (drop k l))

-- the part behind the first bytes is lent, and comes back as `body`
abbrev put_back : (k : ℕ) (front body : List ℕ) → List ℕ
put_back k front body = take k front ++ (body ++ drop (length front - k) (drop k front))

put_back_is : (k : ℕ) (front body : List ℕ) → put_back k front body ≡ take k front ++ body
put_back_is k front body = rw (nothing_behind k front, append-nil)

headed : (i : ℕ) (front : List ℕ) (to : ℕ) (body o : List ℕ) (most count at : ℕ) → most ≡ (setting i).version.rows → count ≡ most - to → at ≡ 16 * (most - count)
    → o ≡ sets (drop at (front ++ body)) 0 (header_bytes (setting i) count) → (at & take at (front ++ body) ++ o) ≡ headed_t i front (to & body)
unfolding headed_t
headed i front to body o most count at m c a e = rw (e, a, c, m)

module _ (i slots : ℕ) (noted : List Note) (rows area body o : List ℕ) (header most to count : ℕ) (l : Limits) (is-header : header ≡ (setting i).version.header) (is-most : most ≡ (setting i).version.rows) where
  pub restored_whole : (to & body) ≡ restore_rows_t slots noted rows (take (length area - header) (drop header area)) → count ≡ most - to → l ≡ limits_of (setting i)
      → o ≡ sets (take (length (put_back header area body) - 16 * (most - count)) (drop (16 * (most - count)) (put_back header area body))) 0 (header_bytes (setting_in l) count)
      → (16 * (most - count) & put_back (16 * (most - count)) (put_back header area body) o) ≡ restore_t i slots noted rows area
  unfolding restore_t
  restored_whole w c e p =
      let at = 16 * (most - count) in
      let a = put_back header area body in
      let is = put_back_is header area body in
      let o_is : o ≡ sets (drop at (take header area ++ body)) 0 (header_bytes (setting i) count) = p ∙ rw (behind at a, is, e, stand_for i) in
      let w' : (to & body) ≡ restore_rows_t slots noted rows (drop header area) = w ∙ ap (restore_rows_t slots noted rows) (behind header area) in
      let put : (at & put_back at a o) ≡ headed_t i (take header area) (to & body) = rw (put_back_is at a o, is) (headed i (take header area) to body o most count at is-most c refl o_is) in
      put ∙ ap (headed_t i (take header area)) w' ∙ ap (λ (h : ℕ). headed_t i (take h area) (restore_rows_t slots noted rows (drop h area))) is-header

pub ruleset restoring = (rows_restored, restored_whole, rules)

-- ---- begins_with

pub same_length : (a b : List ℕ) → (length a ≡ length b → ⊥) → false ≡ same_numbers a b
unfolding same_numbers
same_length [] [] h = absurd (h refl)
same_length [] (y ∷ b) h = refl
same_length (x ∷ a) [] h = refl
same_length (x ∷ a) (y ∷ b) h = go (eqb x y) (same_length a b (λ e. h (ap suc e)))
  where
    go : (t : Bool) → false ≡ same_numbers a b → false ≡ t && same_numbers a b
    go true e = e
    go false e = refl

module _ (bytes front : List ℕ) where
  pub begins_short : length bytes < length front → false ≡ same_numbers (take (length front) bytes) front
  begins_short h = same_length (take (length front) bytes) front (λ e. let t = take_all (length front) bytes (omega arith) in omega (arith, ap length t))

  pub begins_start : same_numbers (take (length front - 0) (drop 0 bytes)) (drop 0 front) ≡ same_numbers (take (length front) bytes) front
  begins_start = rw sub-zero

  module _ (k : ℕ) (T : Bool) (inv : same_numbers (take (length front - k) (drop k bytes)) (drop k front) ≡ T) where
    module _ (h : k < length front) (l : length front ≤ length bytes) where
      pub begins_turn : get_or bytes k 0 ≡ get_or front k 0 → same_numbers (take (length front - (k + 1)) (drop (k + 1) bytes)) (drop (k + 1) front) ≡ T
      unfolding same_numbers
      begins_turn e = (rw (left_suc k (length front) h, drop_next bytes k 0 (omega arith), drop_next front k 0 h, eq-eqb (get_or bytes k 0) (get_or front k 0) e) at inv)

      pub begins_not : (get_or bytes k 0 ≡ get_or front k 0 → ⊥) → false ≡ T
      unfolding same_numbers
      begins_not e = (rw (left_suc k (length front) h, drop_next bytes k 0 (omega arith), drop_next front k 0 h, ne_eqb (get_or bytes k 0) (get_or front k 0) e) at inv)

    pub begins_end : length front ≤ k → true ≡ T
    unfolding same_numbers
    begins_end h = let z : length front - k ≡ 0 = omega arith in (rw (z, drop_of_length-le front {i = k} h) at inv)

pub ruleset beginning = (begins_short, begins_start, begins_turn, begins_not, begins_end, rules)

-- ---- resolves_to

pub resolves_said : (input claim again a₁ a₂ : List ℕ) (r : Bool) → a₁ ≡ set again 0 0 → a₂ ≡ output base input a₁ → r ≡ same_numbers (take (length claim) a₂) claim
    → r ≡ same_numbers (take (length claim) (output base input (set again 0 0))) claim
resolves_said input claim again a₁ a₂ r p q e = rw (q, p) at e

-- ---- unmark, give, clear

pub unmark_none : (l : List ℕ) → length l ≤ 0 → l ≡ set l 0 0
unmark_none l h = sym (set_out l 0 0 h)

module _ (i : ℕ) (input out : List ℕ) where
  pub give_short : (r : Result ℕ Refused) → length out < length input → r ≡ refused_t 3 → (r & out) ≡ give_t i input out
  unfolding give_t pick
  give_short r h e = rw (e, lt-ltb (length out) (length input) h)

  pub give_all : (header : ℕ) (o : List ℕ) → header ≡ (setting i).version.header → length input ≤ length out → o ≡ sets out 0 input → (Ok ((length input - header) / 16) & o) ≡ give_t i input out
  unfolding give_t pick
  give_all header o q h e = rw (e, q, le-ltb (length out) (length input) h)

pub ruleset giving = (give_short, give_all, unmark_none, rules)
