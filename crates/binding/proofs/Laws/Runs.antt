-- The run of an input is what document 01 answers where there is room for the longest output: there is one exactly if the input is accepted,
-- and then its bytes are those that are written.
use Rattle.std.specs.Prelude.{◌≡◌, Bool, true, false, ◌||◌, eqb, leb, ltb, length}
use Rattle.std.proofs.Math.Path.{refl}
use Rattle.std.proofs.Common.{ap, sym, ◌∙◌, le-ltb}
use Rattle.std.proofs.Math.Bool.{not}
use Rattle.std.proofs.Math.Option.{Option, none, some}
use mathlib.Core.List.{List, []}
use Prim.Native.Nat.{ℕ, ◌+◌, ◌*◌, ◌≤◌}
use native.Mathlib.Omega.{arith}
use Rattle.rules.specs.Tools.{when◌then◌else◌, between, ◌then◌, ◌or_else◌}
use Rattle.rules.specs.Versions.{RuleSet, Setting}
use Rattle.rules.specs.Rows.{Row}
use Rattle.rules.specs.Tree.{Scope, flatten, RowsRead, bad, deep, form}
use Rattle.rules.specs.Reader.{read}
use Rattle.rules.specs.Rules
use Rattle.rules.specs.Rules.{number_of, Result, ok, resolve}
use Rattle.rules.specs.Answer
use Rattle.rules.specs.Answer.{AnswerOf, refused, accepted, map_answer, setting_of, row_count, rows_in, form_bytes, answer}
use Rattle.rules.specs.Laws.ToolLaws.{and_right, leb_le}
use Rattle.rules.proofs.Laws.Refusals.{OfSteps, steps_refuse}
use Rattle.binding.specs.Sheet.{Run, form_of, result_of, run_in, run_of, area_of, first_of, work_size}

-- the steps on a tree that was read, and what is written of it
pub record Made (settings : List Setting) (input : List ℕ) (run : Run) (rs : List Row) : Type 0 where
  pub setting : Setting
  pub asked_for : setting_of settings input ≡ some setting
  pub reads : read setting.rules setting.version.scopes (rows_in setting input) ≡ form run.before
  pub next : ℕ
  pub resolves : resolve setting.rules run.before ≡ ok (run.after, next)
  pub rows : flatten run.after ≡ rs
  pub bytes : run.bytes ≡ form_bytes setting rs

-- none, and a refusal; or a run, and its rows
abbrev pub Agree : (settings : List Setting) (input : List ℕ) → Option Run → AnswerOf (List Row) → Type 0
Agree settings input none (refused number place carried) = 1 ≤ number
Agree settings input none (accepted rs) = ⊥
Agree settings input (some run) (refused number place carried) = ⊥
Agree settings input (some run) (accepted rs) = Made settings input run rs

few_rows : (a b : Bool) → not a || b ≡ false → a ≡ true
few_rows true b e = refl
few_rows false b e = sym e

module _ (settings : List Setting) (input : List ℕ) (v : Setting) (asked : setting_of settings input ≡ some v) where
  steps_agree : (s : Scope) → read v.rules v.version.scopes (rows_in v input) ≡ form s
      → Agree settings input (result_of (resolve v.rules s) then λ t. some (record { before = s; after = t; bytes = form_bytes v (flatten t) })) (map_answer flatten (Answer.resolved (resolve v.rules s)))
  unfolding result_of map_answer Answer.resolved ◌then◌ resolve
  steps_agree s q = go (resolve v.rules s) refl (steps_refuse v.rules [] s)
    where
      go : (m : Result (Scope × ℕ)) → resolve v.rules s ≡ m → OfSteps m
          → Agree settings input (result_of m then λ t. some (record { before = s; after = t; bytes = form_bytes v (flatten t) })) (map_answer flatten (Answer.resolved m))
      go (Result.refused why place) e o = omega (arith, o.0)
      go (ok (t, k)) e o = record { setting = v; asked_for = asked; reads = q; next = k; resolves = e; rows = refl; bytes = refl }

  reading_agrees : (r : RowsRead) → read v.rules v.version.scopes (rows_in v input) ≡ r
      → Agree settings input (form_of r then λ s. result_of (resolve v.rules s) then λ t. some (record { before = s; after = t; bytes = form_bytes v (flatten t) })) (map_answer flatten (Answer.after_reading [] v.rules r))
  unfolding form_of Answer.after_reading map_answer ◌then◌ resolve
  reading_agrees (bad place) q = omega arith
  reading_agrees (deep place) q = omega arith
  reading_agrees (form s) q = steps_agree s q

  setting_agrees : (room : ℕ) → area_of (some v) ≤ room → Agree settings input (run_in v input) (Answer.answer_in [] v input room)
  unfolding run_in Answer.answer_in Answer.form_in area_of map_answer when◌then◌else◌
  setting_agrees room roomy = go (not (between 1 v.version.rows n) || not (eqb (length input) (v.version.header + 16 * n))) refl
    where
      n : ℕ
      n = row_count v.version input

      ran : Option Run
      ran = form_of (read v.rules v.version.scopes (rows_in v input)) then λ s. result_of (resolve v.rules s) then λ t. some (record { before = s; after = t; bytes = form_bytes v (flatten t) })

      go : (b : Bool) → (not (between 1 v.version.rows n) || not (eqb (length input) (v.version.header + 16 * n))) ≡ b
          → Agree settings input (when b then none else ran)
          (map_answer flatten (when b then refused 2 0 [] else when ltb room (v.version.header + 64 * n) then refused 3 0 [] else Answer.after_reading [] v.rules (read v.rules v.version.scopes (rows_in v input))))
      go true e = omega arith
      go false e =
          let few = leb_le n v.version.rows (and_right (leb 1 n) (leb n v.version.rows) (few_rows (between 1 v.version.rows n) _ e)) in
          let room_there : ltb room (v.version.header + 64 * n) ≡ false = le-ltb room (v.version.header + 64 * n) (omega (arith, roomy, few)) in
          rw room_there (reading_agrees (read v.rules v.version.scopes (rows_in v input)) refl)

-- Whatever the input, with room for the longest output of its version.
pub run_agrees : (settings : List Setting) (input : List ℕ) (room : ℕ) → work_size settings input ≤ room → Agree settings input (run_of settings input) (answer settings input room)
unfolding run_of answer Answer.answer_inside Answer.answer_for work_size ◌then◌ ◌or_else◌
run_agrees settings input room roomy = go (setting_of settings input) refl roomy
  where
    go : (o : Option Setting) → setting_of settings input ≡ o → area_of (o or_else first_of settings) ≤ room → Agree settings input (o then λ v. run_in v input) (Answer.answer_for [] o input room)
    go none q h = omega arith
    go (some v) q h = setting_agrees settings input v q room h
