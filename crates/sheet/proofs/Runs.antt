-- A run of the resolver in the working area, under the settings in force: what is written there is the rules' run, if there is one.
use Rattle.std.specs.Prelude.{Result}
use mathlib.Core.Path.{◌≡◌, refl, ap, sym, ◌∙◌, subst}
use mathlib.Core.Bool.{Bool, true, false}
use mathlib.Core.Option.{Option, none, some}
use mathlib.Core.List.{List, ◌++◌}
use native.Mathlib.Omega.{arith}
use Prim.Native.Nat.{ℕ, ◌+◌, ◌*◌, ◌≤◌}
use lib.Dec.{eqb}
use lib.ListN.{length, get_or, take}
use lib.Seq.{take_at}
use mir.Syntax.{w8}
use mir.Val.{Fits}
use Rattle.kit.specs.Pick.{pick}
use Rattle.kit.proofs.Laws.{tests}
use Rattle.rules.specs.Tools.{only, ◌or_else◌}
use Rattle.rules.specs.Versions.{Setting, base, version1, today}
use Rattle.rules.specs.Rows.{Row}
use Rattle.rules.specs.Tree.{Scope, scope, flatten}
use Rattle.rules.specs.Answer.{AnswerOf, refused, accepted, has_header, setting_of, same_numbers, answer, output, form_bytes}
use Rattle.rules.specs.Laws.RowLaws.{Bytes}
use Rattle.rules.specs.Laws.Results.{some_same, no_option}
use Rattle.rules.proofs.Laws.InputLaws.{AllUsual}
use Rattle.moving.proofs.Laws.Lists.{same_lists}
use Rattle.binding.specs.Sheet.{Run, run_of, area_of, first_of, work_size}
use Rattle.binding.proofs.Laws.Runs.{Made, Agree, run_agrees}
use Rattle.reading_laws.specs.OnBytes
use Rattle.reading_laws.specs.OnBytes.{AllWithin, begins, form_long}
use Rattle.resolver.specs.Meaning.{Said, meaning, ruled}
use Rattle.resolver.proofs.Bytes.{all_bytes}
use Rattle.sheet.specs.Run.{rows_written, is_output}
use Rattle.refusal.specs.declared.Refused.{Refused}

-- ---- the one setting in force

abbrev pub one : Setting
one = record { version = version1; rules = today }

pub is_one_lem : (input : List ℕ) (v : Setting) → setting_of base input ≡ some v → one ≡ v
unfolding setting_of only ◌or_else◌
is_one_lem input v e = go (has_header one input) e
  where
    go : (b : Bool) → (only b one or_else none) ≡ some v → one ≡ v
    go true e = some_same _ v e
    go false e = no_option v e

-- its working area
pub area_is : (input : List ℕ) → work_size base input ≡ 65480
unfolding work_size area_of first_of setting_of only ◌or_else◌
area_is input = go (has_header one input)
  where
    go : (b : Bool) → area_of ((only b one or_else none) or_else some one) ≡ 65480
    go true = refl
    go false = refl

-- ---- what is written

open_first : (s : Scope) → 1 ≤ length (flatten s)
unfolding flatten
open_first (scope kind name fs) = omega arith

-- under any settings, by the header that a form of theirs has
module _ (settings : List Setting) (usual : AllUsual settings) (within : AllWithin settings) (form : List ℕ) (head : ℕ) (heads : (v : Setting) → setting_of settings form ≡ some v → head ≡ v.version.header) (o : List ℕ) (bs : Bytes form) (long : work_size settings form ≤ length o) where
  pub agrees : Agree settings form (run_of settings form) (answer settings form (length o))
  agrees = run_agrees settings form (length o) long

  -- this many rows were written, and the area begins with the run's bytes
  pub record Wrote (run : Run) (rows : ℕ) : Type 0 where
    pub some_rows : 1 ≤ rows
    pub size : length run.bytes ≡ head + 16 * rows
    pub front : take (head + 16 * rows) (output settings form o) ≡ run.bytes

  wrote : (run : Run) (rs : List Row) → answer settings form (length o) ≡ accepted rs → Made settings form run rs → Wrote run (length rs)
  wrote run rs e M =
      let T = OnBytes.trees settings usual within form o bs rs e in
      let v = T.setting in
      let same : M.setting ≡ v = some_same _ _ (sym M.asked_for ∙ T.asked_for) in
      let B = begins settings form o v T.after T.asked_for T.forms in
      let bytes_are_lem : run.bytes ≡ form_bytes v rs = M.bytes ∙ ap (λ (u : Setting). form_bytes u rs) same in
      let size : length run.bytes ≡ head + 16 * length rs = ap length bytes_are_lem ∙ (form_long v rs T.usual.header ∙ ap (λ (n : ℕ). n + 16 * length rs) (sym (heads v T.asked_for))) in
      let out : output settings form o ≡ run.bytes ++ B.0 = B.1 ∙ ap (λ (x : List ℕ). x ++ B.0) (ap (form_bytes v) T.of_tree ∙ sym bytes_are_lem) in
      record {
        some_rows = subst (λ (l : List Row). 1 ≤ length l) M.rows (open_first run.after);
        size = size;
        front = ap (take (head + 16 * length rs)) out ∙ take_at run.bytes B.0 (head + 16 * length rs) size;
      }

  -- what the code knows of the run by the rows
  abbrev pub Known : (rows : ℕ) → Option Run → Type 0
  Known rows none = rows ≡ 0
  Known rows (some run) = Wrote run rows

  pub known : (x : Result ℕ Refused) → meaning x ≡ ruled (answer settings form (length o)) → (rows : ℕ) → rows ≡ rows_written (meaning x).plain → Known rows (run_of settings form)
  unfolding rows_written pick
  known x said rows is = go (run_of settings form) (answer settings form (length o)) refl agrees (is ∙ ap (λ (w : Said). rows_written w.plain) said)
    where
      go : (r : Option Run) (a : AnswerOf (List Row)) → answer settings form (length o) ≡ a → Agree settings form r a → rows ≡ rows_written (ruled a).plain → Known rows r
      go none (refused n z c) e g w = let t : eqb n 0 ≡ false = omega (tests, g) in rw t at w
      go (some run) (accepted rs) e g w = subst (Wrote run) (sym w) (wrote run rs e g)
      go none (accepted rs) e g w = elim g [ ]
      go (some run) (refused n z c) e g w = elim g [ ]

-- ---- the comparison

lengths_differ : (xs ys : List ℕ) → (length xs ≡ length ys → ⊥) → false ≡ same_numbers xs ys
lengths_differ xs ys n = go (same_numbers xs ys) refl
  where
    go : (b : Bool) → same_numbers xs ys ≡ b → false ≡ same_numbers xs ys
    go true e = absurd (n (ap length (same_lists xs ys e)))
    go false e = sym e

module _ (settings : List Setting) (usual : AllUsual settings) (within : AllWithin settings) (form : List ℕ) (head : ℕ) (heads : (v : Setting) → setting_of settings form ≡ some v → head ≡ v.version.header) (resolved o : List ℕ) (fits : (i : ℕ) → Fits w8 (get_or form i 0)) (long : work_size settings form ≤ length o)
    (x : Result ℕ Refused) (said : meaning x ≡ ruled (answer settings form (length o))) (rows : ℕ) (is : rows ≡ rows_written (meaning x).plain) where
  abbrev Here : Option Run → Type 0
  Here r = Known settings usual within form head heads o (all_bytes form fits) long rows r

  abbrev here : Here (run_of settings form)
  here = known settings usual within form head heads o (all_bytes form fits) long x said rows is

  pub none_written : rows ≡ 0 → false ≡ is_output (run_of settings form) resolved
  unfolding is_output
  none_written e = go (run_of settings form) here
    where
      go : (r : Option Run) → Here r → false ≡ is_output r resolved
      go none k = refl
      go (some run) k = let some_rows = k.some_rows in absurd (omega (arith, e, some_rows))

  pub other_length : (length resolved ≡ head + 16 * rows → ⊥) → false ≡ is_output (run_of settings form) resolved
  unfolding is_output
  other_length n = go (run_of settings form) here
    where
      go : (r : Option Run) → Here r → false ≡ is_output r resolved
      go none k = refl
      go (some run) k = lengths_differ resolved run.bytes (λ e. n (e ∙ k.size))

  pub bytes_compared : (rows ≡ 0 → ⊥) → length resolved ≡ head + 16 * rows → (o' : List ℕ) → o' ≡ output settings form o → (b : Bool) → b ≡ same_numbers resolved (take (length resolved) o') → b ≡ is_output (run_of settings form) resolved
  unfolding is_output
  bytes_compared n size o' left b e = go (run_of settings form) here
    where
      go : (r : Option Run) → Here r → b ≡ is_output r resolved
      go none k = absurd (n k)
      go (some run) k = e ∙ ap (same_numbers resolved) (ap (λ (l : ℕ). take l o') size ∙ (ap (take (head + 16 * rows)) left ∙ k.front))

-- ---- version 1

pub one_header : (form : List ℕ) (v : Setting) → setting_of base form ≡ some v → 8 ≡ v.version.header
one_header form v e = ap (λ (u : Setting). u.version.header) (is_one_lem form v e)

pub one_long : (form o : List ℕ) → 65480 ≤ length o → work_size base form ≤ length o
one_long form o h = let a = area_is form in omega (arith, a, h)
