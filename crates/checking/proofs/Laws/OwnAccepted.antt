-- "Whatever our resolver writes must be accepted": the verdict on the form that is written for an accepted input is yes.
use Rattle.std.specs.Prelude.{◌≡◌, List, [], ℕ, length, replicate}
use Rattle.std.proofs.Common.{ap, sym, ◌∙◌, subst}
use Rattle.std.proofs.Math.Option.{none, some}
use Rattle.std.proofs.lemmas.List.{length-replicate}
use Rattle.rules.specs.Versions.{RuleSet, Setting, as_claimed}
use Rattle.rules.specs.Rows.{Row}
use Rattle.rules.specs.Tree.{Scope}
use Rattle.rules.specs.Good.{GoodScope}
use Rattle.rules.specs.Rules.{ok, resolve}
use Rattle.rules.specs.Answer.{accepted, setting_of, answer, form_bytes}
use Rattle.read_form.specs.ReadForm.{read_form}
use Rattle.checking.specs.Check
use Rattle.checking.specs.Check.{yes, unless, conditions, verdict}
use Rattle.rules.specs.Laws.RowLaws.{Bytes}
use Rattle.rules.specs.Laws.Results.{some_same}
use Rattle.rules.specs.Laws.Meaning.Names.{LowScope, low_scope}
use Rattle.rules.proofs.Laws.Output.Kept.{kept}
use Rattle.rules.proofs.Laws.Output.Numbers.{numbers}
use Rattle.rules.proofs.Laws.InputLaws.{AllUsual, readings}
use Rattle.read_form.proofs.Laws.ReadFormLaws.{read_exactly, asks_header, input_read, ours_read}
use Rattle.checking.proofs.Laws.SameFields.{numbered_scope_bare, passes_2}
use Rattle.checking.proofs.Laws.OwnAliases.{passes_3}
use Rattle.checking.proofs.Laws.OwnOperands.{passes_4}

-- ---- on trees

pub all_pass : (s c : Scope) → Check.condition2 s c ≡ none → Check.condition3 c ≡ none → Check.condition4 s c ≡ none → conditions s c ≡ yes
unfolding conditions unless
all_pass s c e₂ e₃ e₄ = rw (e₂, e₃, e₄)

-- conditions 2 to 4 hold of what the steps make of a good tree
pub own_conditions : (rules : RuleSet) (s : Scope) (r : Scope × ℕ) → LowScope s → GoodScope rules s → resolve rules s ≡ ok r → conditions s r.0 ≡ yes
unfolding resolve
own_conditions rules s r low g e =
    let K = kept rules [] s r (low_scope s low) e in
    let N = numbers rules [] s r g e in
    all_pass s r.0 (passes_2 s r.0 (numbered_scope_bare r.0 N) K.same) (passes_3 rules s r (low_scope s low) e K.aliases N) (passes_4 rules s r low g e)

-- ---- on bytes

pub verdict_is : (settings : List Setting) (input claim : List ℕ) (v : Setting) (s c : Scope) (r : Scope × ℕ) → setting_of settings input ≡ some v → read_form v input ≡ accepted s
    → resolve v.rules s ≡ ok r → read_form (as_claimed v) claim ≡ accepted c → verdict settings input claim ≡ conditions s c
unfolding verdict Check.verdict_for Check.of_input Check.of_steps Check.of_claim
verdict_is settings input claim v s c r e₁ e₂ e₃ e₄ = rw (e₁, e₂, e₃, e₄)

-- For all usual settings and every input that is accepted, the verdict on the form that is written is yes.
pub own_accepted : (settings : List Setting) → AllUsual settings → (input : List ℕ) → Bytes input → (room : ℕ) (out : List Row) (v : Setting)
    → setting_of settings input ≡ some v → answer settings input room ≡ accepted out → verdict settings input (form_bytes v out) ≡ yes
unfolding resolve
own_accepted settings l input bs room out v asks e =
    let old : List ℕ = replicate room 0 in
    let a = readings settings l input old bs out (ap (answer settings input) (length-replicate {A = ℕ} room 0) ∙ e) in
    let is-v : a.setting ≡ v = some_same a.setting v (sym a.asked_for ∙ asks) in
    let in-read = input_read a.setting input (length old) a.before a.after (asks_header settings input a.setting a.asked_for) a.forms a.reads in
    let good = ((read_exactly a.setting input a.before).0 in-read).is_form.good in
    subst (λ (x : Setting). verdict settings input (form_bytes x out) ≡ yes) is-v
    (verdict_is settings input (form_bytes a.setting out) a.setting a.before a.after (a.after, a.next) a.asked_for in-read a.resolves (ours_read settings input old out a)
    ∙ own_conditions a.setting.rules a.before (a.after, a.next) a.low good a.resolves)
