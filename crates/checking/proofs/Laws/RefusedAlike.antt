-- "An input that 01 refuses is answered with that refusal": the verdict is a refusal exactly if the answer is, where the output has room.
use Rattle.std.specs.Prelude.{◌≡◌, refl, Bool, ◌||◌, not, ◌↔◌, ℕ, suc, ◌+◌, ◌*◌, ◌≤◌, eqb, ltb, length}
use Rattle.std.proofs.Math.Bool.{true, false}
use Rattle.std.proofs.Math.Option.{Option, none, some}
use mathlib.Core.List.{List, []}
use Rattle.std.proofs.Common.{arith}
use Rattle.rules.specs.Tools.{when◌then◌else◌, between}
use Rattle.rules.specs.Versions.{RuleSet, Setting, as_claimed}
use Rattle.rules.specs.Rows.{Row}
use Rattle.rules.specs.Tree.{Scope, flatten, RowsRead, bad, deep, form}
use Rattle.rules.specs.Reader.{read}
use Rattle.rules.specs.Rules.{number_of, carried_by, Result, ok, resolve}
use Rattle.rules.specs.Answer
use Rattle.rules.specs.Answer.{AnswerOf, accepted, map_answer, Answer, has_header, setting_of, row_count, rows_in, answer}
use Rattle.read_form.specs.ReadForm.{as_answer, read_form}
use Rattle.checking.specs.Check
use Rattle.checking.specs.Check.{Verdict, no, yes, verdict}
use Rattle.rules.specs.Laws.ToolLaws.{leb-false}
use Rattle.read_form.proofs.Laws.ReadFormLaws.{asks_header}

-- both refuse with the same number, place and what is carried, or neither refuses
abbrev Alike : Answer → Verdict → Type 0
Alike a v = (n p : ℕ) (c : List ℕ) → (a ≡ AnswerOf.refused n p c) ↔ (v ≡ Verdict.refused n p c)

both_refuse : (n p : ℕ) (c : List ℕ) → Alike (AnswerOf.refused n p c) (Verdict.refused n p c)
both_refuse n p c m q d = (λ e. cc, λ e. cc)

abbrev Unrefused : Verdict → Type 0
Unrefused v = (n p : ℕ) (c : List ℕ) → ¬ (v ≡ Verdict.refused n p c)

none_refuses : (rs : List Row) (v : Verdict) → Unrefused v → Alike (accepted rs) v
none_refuses rs v u n p c = (λ e. let z : ◌≡◌ {A = ℕ} 0 1 = cc in absurd (omega arith), λ e. absurd (u n p c e))

not_refused : (condition row : ℕ) → Unrefused (no condition row)
not_refused condition row n p c e = let z : ◌≡◌ {A = ℕ} 0 1 = cc in omega arith

yes_not_refused : Unrefused yes
yes_not_refused n p c e = let z : ◌≡◌ {A = ℕ} 0 1 = cc in omega arith

unless_not_refused : (c : ℕ) (o : Option ℕ) (v : Verdict) → Unrefused v → Unrefused (Check.unless c o v)
unfolding Check.unless
unless_not_refused c none v u = u
unless_not_refused c (some row) v u = not_refused c row

claim_not_refused : (s : Scope) (x : AnswerOf Scope) → Unrefused (Check.of_claim s x)
unfolding Check.of_claim Check.conditions
claim_not_refused s (AnswerOf.refused n p c) = not_refused 1 p
claim_not_refused s (accepted c) = unless_not_refused 2 (Check.condition2 s c) _ (unless_not_refused 3 (Check.condition3 c) _ (unless_not_refused 4 (Check.condition4 s c) yes yes_not_refused))

steps_alike : (s : Scope) (m : Result (Scope × ℕ)) (x : AnswerOf Scope) → Alike (map_answer flatten (Answer.resolved m)) (Check.of_steps m s x)
unfolding Answer.resolved map_answer Check.of_steps
steps_alike s (Result.refused why p) x = both_refuse (number_of why) p (carried_by why)
steps_alike s (ok r) x = none_refuses _ (Check.of_claim s x) (claim_not_refused s x)

module _ (rules : RuleSet) where
  reading_alike : (r : RowsRead) (x : AnswerOf Scope) → Alike (map_answer flatten (Answer.after_reading [] rules r)) (Check.of_input rules (as_answer r) x)
  unfolding Answer.after_reading map_answer Check.of_input as_answer resolve
  reading_alike (bad p) x = both_refuse 4 p []
  reading_alike (deep p) x = both_refuse 5 p []
  reading_alike (form s) x = steps_alike s (resolve rules s) x

  sized_alike : (b : Bool) (r : RowsRead) (x : AnswerOf Scope)
      → Alike (map_answer flatten (when b then AnswerOf.refused 2 0 [] else Answer.after_reading [] rules r)) (Check.of_input rules (when b then AnswerOf.refused 2 0 [] else as_answer r) x)
  unfolding when◌then◌else◌
  sized_alike true r x = unfold Check.of_input map_answer in both_refuse 2 0 []
  sized_alike false r x = reading_alike r x

enough_room : (room need : ℕ) → need ≤ room → ltb room need ≡ false
enough_room room need h = leb-false (suc room) need (omega arith)

setting_alike : (v : Setting) (input : List ℕ) (room : ℕ) (x : AnswerOf Scope) → has_header v input ≡ true → v.version.header + 64 * row_count v.version input ≤ room
    → Alike (Answer.answer_in [] v input room) (Check.of_input v.rules (read_form v input) x)
unfolding Answer.answer_in Answer.form_in read_form when◌then◌else◌
setting_alike v input room x e roomy =
    rw (e, enough_room room (v.version.header + 64 * row_count v.version input) roomy)
    (sized_alike v.rules (not (between 1 v.version.rows (row_count v.version input)) || not (eqb (length input) (v.version.header + 16 * row_count v.version input)))
    (read v.rules v.version.scopes (rows_in v input)) x)

-- For all settings, where the output has room for what the input's header says, whatever is claimed.
pub refused_alike : (settings : List Setting) (input claim : List ℕ) (room : ℕ) → ((v : Setting) → setting_of settings input ≡ some v → v.version.header + 64 * row_count v.version input ≤ room)
    → (n p : ℕ) (c : List ℕ) → (answer settings input room ≡ AnswerOf.refused n p c) ↔ (verdict settings input claim ≡ Verdict.refused n p c)
unfolding answer verdict Answer.answer_inside Answer.answer_for Check.verdict_for
refused_alike settings input claim room roomy = go (setting_of settings input) refl
  where
    go : (o : Option Setting) → setting_of settings input ≡ o → Alike (Answer.answer_for [] o input room) (Check.verdict_for o input claim)
    go none e = both_refuse 1 0 []
    go (some v) e = setting_alike v input room (read_form (as_claimed v) claim) (asks_header settings input v e) (roomy v e)
