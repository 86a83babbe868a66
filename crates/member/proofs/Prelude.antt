-- An accepted prelude: its resolved tree, and its rows in the bytes of its output.
use mathlib.Core.Path.{◌≡◌, refl, sym, ap, ◌∙◌, subst}
use mathlib.Core.Bool.{Bool, true, false}
use mathlib.Core.Option.{Option, none, some}
use mathlib.Core.List.{List, [], ◌∷◌, ◌++◌, append_assoc}
use native.Mathlib.Omega.{arith}
use Prim.Native.Nat.{ℕ, ◌+◌, ◌*◌, ◌≤◌}
use lib.ListN.{length, take, drop}
use lib.Seq.{take_at, drop_at}
use Rattle.rules.specs.Tools.{only, ◌or_else◌}
use Rattle.rules.specs.Versions.{Setting, as_claimed}
use Rattle.rules.specs.Rows.{Row, encode}
use Rattle.rules.specs.Tree.{Scope, scope, flatten}
use Rattle.rules.specs.Good.{GoodScope}
use Rattle.rules.specs.Readings.{fields_of}
use Rattle.rules.specs.Answer as rules
use Rattle.rules.specs.Answer.{AnswerOf, refused, accepted, map_answer, has_header, setting_of, row_count, answer, answer_inside, form_in, form_bytes, rows_bytes, header_bytes, output_after, written, output, output_inside}
use Rattle.rules.specs.Laws.RowLaws.{Bytes}
use Rattle.rules.proofs.Laws.InputLaws.{Accepted, readings}
use Rattle.rules.proofs.Laws.Output.OutBytes.{header_length}
use Rattle.read_form.specs.ReadForm.{read_form}
use Rattle.read_form.proofs.Laws.ReadFormLaws.{read_exactly, ours_read}
use Rattle.read_form.proofs.Laws.OutputLength.{rows_length}
use Rattle.batching.specs.Batch.{Prelude, root_of, prelude_in, prelude_of}
use Rattle.batching.proofs.Laws.InPrelude.{few_declared}
use Rattle.parts.specs.PartsAt.{parts_at}
use Rattle.parts.specs.declared.Parts.{Parts}
use Rattle.claim_laws.specs.RowParts as row_parts_lem
use Rattle.claim_laws.specs.OnBytes.{rows_are, rows_stand}
use Rattle.agree.specs.Fit.Spaces.{Spaces}
use Rattle.agree.specs.Fit.GoodSpaces.{good_spaces}
use Rattle.resolver.proofs.Root.{Able}
use Rattle.resolver.proofs.Admits.{output_one}
use Rattle.inside.specs.Run.{RootIn}

-- ---- the prelude's answer is that of a form by itself

pub prelude_answer_lem : (settings : List Setting) (prelude : List ℕ) (room : ℕ) → map_answer (λ (q : Prelude). flatten q.resolved) (prelude_of settings prelude room) ≡ answer settings prelude room
unfolding prelude_in answer answer_inside rules.answer_for rules.answer_in map_answer
prelude_answer_lem settings prelude room = go (setting_of settings prelude)
  where
    also : (s : Setting) (a : AnswerOf Scope) → map_answer (λ (q : Prelude). flatten q.resolved) (map_answer (λ t. record { setting = s; resolved = t }) a) ≡ map_answer flatten a
    also s (refused n p c) = refl
    also s (accepted t) = refl

    go : (o : Option Setting) → map_answer (λ (q : Prelude). flatten q.resolved) (prelude_in o prelude room) ≡ rules.answer_for [] o prelude room
    go none = refl
    go (some s) = also s (form_in [] s prelude room)

-- ---- one that is accepted

-- its tree, and the rows of its output
pub record Resolved (s : Setting) (input old : List ℕ) (rows : ℕ) : Type 0 where
  pub tree : Scope
  pub is : prelude_of (s ∷ []) input (length old) ≡ accepted (record { setting = s; resolved = tree })
  pub count_is : rows ≡ length (flatten tree)
  pub root : RootIn s.version tree (take (16 * rows) (drop s.version.header (output (s ∷ []) input old)))

module _ (s : Setting) (able : Able s) where
  -- there is no other setting
  only_one : (input : List ℕ) (x : Setting) → setting_of (s ∷ []) input ≡ some x → x ≡ s
  unfolding setting_of only ◌or_else◌
  only_one input x e = go (has_header s input) e
    where
      go : (b : Bool) → (only b s or_else none) ≡ some x → x ≡ s
      go true q = cc
      go false q = let z : ◌≡◌ {A = ℕ} 0 1 = cc in absurd (omega arith)

  -- the bytes behind the header, this many rows
  body_of : (rs : List Row) (size : ℕ) (old : List ℕ) → take (16 * length rs) (drop s.version.header (written size (form_bytes s rs) old)) ≡ drop s.version.header (form_bytes s rs)
  unfolding written form_bytes
  body_of rs size old =
      let h : length (header_bytes s (length rs)) ≡ s.version.header = header_length s (length rs) [] able.usual.header in
      let r : length (rows_bytes rs) ≡ 16 * length rs = rows_length rs in
      rw (
        append_assoc (header_bytes s (length rs)) (rows_bytes rs) _,
        drop_at (header_bytes s (length rs)) (rows_bytes rs ++ _) s.version.header h,
        take_at (rows_bytes rs) _ (16 * length rs) r,
        drop_at (header_bytes s (length rs)) (rows_bytes rs) s.version.header h,
      )

  module _ (t : Scope) (l : List ℕ) (e : read_form (as_claimed s) l ≡ accepted t) where
    tree_spaces : Spaces (fields_of t)
    tree_spaces = go t ((read_exactly (as_claimed s) l t).0 e).is_form.good
      where
        go : (x : Scope) → GoodScope s.rules x → Spaces (fields_of x)
        go (scope kind name fs) g = good_spaces s.rules fs kind able.heap g

    tree_name : (parts_at (drop s.version.header l) 0).x ≡ (root_of t).name
    tree_name = go t (rows_stand (as_claimed s) l t e)
      where
        go : (x : Scope) → row_parts_lem.Stands (parts_at (drop s.version.header l)) 0 (flatten x) → (parts_at (drop s.version.header l) 0).x ≡ (root_of x).name
        go (scope kind name fs) h = unfold flatten row_parts_lem.as_parts encode root_of in ap (λ (p : Parts). p.x) h.0

  resolved_as : (input old : List ℕ) (rs : List Row) → Bytes input → (a : Accepted (s ∷ []) input old rs) → answer (s ∷ []) input (length old) ≡ accepted rs → a.setting ≡ s → Resolved s input old (length rs)
  unfolding prelude_in map_answer output_after
  resolved_as input old rs bs a e is =
      let f : form_in [] s input (length old) ≡ accepted a.after = subst (λ (x : Setting). form_in [] x input (length old) ≡ accepted a.after) is a.forms in
      let asks : setting_of (s ∷ []) input ≡ some s = a.asked_for ∙ ap some is in
      let claim : read_form (as_claimed s) (form_bytes s rs) ≡ accepted a.after = subst (λ (x : Setting). read_form (as_claimed x) (form_bytes x rs) ≡ accepted a.after) is (ours_read (s ∷ []) input old rs a) in
      let size = s.version.header + 64 * row_count s.version input in
      let left : output (s ∷ []) input old ≡ written size (form_bytes s rs) old = output_one s input old ∙ rw e in
      let bytes : take (16 * length rs) (drop s.version.header (output (s ∷ []) input old)) ≡ drop s.version.header (form_bytes s rs) =
      ap (λ (o : List ℕ). take (16 * length rs) (drop s.version.header o)) left ∙ body_of rs size old in
      let few = few_declared a.setting.rules a.before (a.after, a.next) a.low a.resolves in
      let rows_few : length (flatten a.before) ≤ s.version.rows = subst (λ (x : Setting). length (flatten a.before) ≤ x.version.rows) is a.few in
      let counted : row_count s.version input ≤ s.version.rows = subst (λ (x : Setting). row_count x.version input ≤ x.version.rows) is a.counted in
      let four : length rs ≤ 4 * row_count s.version input = subst (λ (x : Setting). length rs ≤ 4 * row_count x.version input) is a.four in
      let same : length (flatten a.after) ≡ length rs = ap length a.of_tree in
      record {
        tree = a.after;
        is = rw (asks, f);
        count_is = sym same;
        root = subst (RootIn s.version a.after) (sym bytes)
            (record {
              rows = rows_are (as_claimed s) (form_bytes s rs) a.after claim;
              name = tree_name a.after (form_bytes s rs) claim;
              spaces = tree_spaces a.after (form_bytes s rs) claim;
              few = omega arith;
              short = omega arith;
            });
      }

  pub prelude_resolved : (input old : List ℕ) (rs : List Row) → Bytes input → answer (s ∷ []) input (length old) ≡ accepted rs → Resolved s input old (length rs)
  prelude_resolved input old rs bs e =
      let a = readings (s ∷ []) (able.usual, tt) input old bs rs e in
      resolved_as input old rs bs a e (only_one input a.setting a.asked_for)
