-- "R-4 must accept it before it is written": the checker says yes to every form that the planner proposes, so that the check before
-- writing never refuses. With `yes_agrees` the two readings agree in it; and it has at most four times the input's rows.
use Rattle.std.specs.Prelude.{◌≡◌, refl, List, [], ℕ, ◌*◌, ◌≤◌, length, replicate}
use Rattle.std.proofs.Common.{ap, sym, ◌∙◌, subst, arith}
use Rattle.std.proofs.Math.Option.{Option, none, some}
use Rattle.std.proofs.lemmas.List.{length-replicate}
use Rattle.rules.specs.Versions.{RuleSet, Setting}
use Rattle.rules.specs.Rows.{Row}
use Rattle.rules.specs.Tree.{Scope, flatten}
use Rattle.rules.specs.Good.{GoodScope}
use Rattle.rules.specs.Rules.{Result, ok, resolve}
use Rattle.rules.specs.Answer
use Rattle.rules.specs.Answer.{Answer, accepted, map_answer, setting_of, answer, form_bytes}
use Rattle.read_form.specs.ReadForm.{read_form, ◌and_then◌}
use Rattle.checking.specs.Check.{yes, condition4, conditions, verdict}
use Rattle.sharing.specs.Sharing
use Rattle.sharing.specs.Sharing.{mark, propose, shared}
use Rattle.rules.specs.Laws.ToolLaws.{done}
use Rattle.rules.specs.Laws.RowLaws.{Bytes}
use Rattle.rules.specs.Laws.Results.{holds_of, some_same}
use Rattle.rules.specs.Laws.Meaning.Names.{LowScope, low_scope}
use Rattle.rules.proofs.Laws.Output.FourTimes.{four_times}
use Rattle.rules.proofs.Laws.Output.Well.{reads_again}
use Rattle.rules.proofs.Laws.Output.Kept.{kept}
use Rattle.rules.proofs.Laws.Output.Numbers.{numbers}
use Rattle.rules.proofs.Laws.Output.OutFits.{out_fits}
use Rattle.rules.proofs.Laws.InputLaws.{AllUsual, readings}
use Rattle.read_form.proofs.Laws.ReadFormLaws.{no_answer, read_exactly, asks_header, input_read, read_written, written_read}
use Rattle.checking.proofs.Laws.SameFields.{numbered_scope_bare, passes_2}
use Rattle.checking.proofs.Laws.OwnAliases.{passes_3}
use Rattle.checking.proofs.Laws.OwnAccepted.{all_pass, verdict_is}
use Rattle.checking.proofs.Laws.YesAgrees.{Agreeing, yes_agrees}
use Rattle.sharing.proofs.Laws.Marks
use Rattle.sharing.proofs.Laws.Marks.{marked_like}
use Rattle.sharing.proofs.Laws.OneAlias.{DistinctScope, AskedScope}
use Rattle.sharing.proofs.Laws.SharedOperands.{shared_4, shared_distinct, shared_asked}

-- ---- on trees

pub shared_conditions : (rules : RuleSet) (s : Scope) (r : Scope × ℕ) → LowScope s → GoodScope rules s → propose rules s ≡ ok r → conditions s r.0 ≡ yes
unfolding propose resolve
shared_conditions rules s r low g e =
    let L = marked_like s in
    let good = Marks.like_well _ rules s (mark s) L g in
    let decl = Marks.like_declared _ s (mark s) L (low_scope s low) in
    let K = kept rules [] (mark s) r decl e in
    let N = numbers rules [] (mark s) r good e in
    all_pass s r.0 (passes_2 s r.0 (numbered_scope_bare r.0 N) (K.same ∙ Marks.like_blank _ s (mark s) L)) (passes_3 rules (mark s) r decl e K.aliases N) (shared_4 rules s r low good e)

-- "exactly one inserted outer alias per scope and outer declaration reached by a walked name": no two in a scope denote the same, each is
-- asked for by a walked name of the scope, and by condition 4 each such name reaches one
pub shared_once : (rules : RuleSet) (s : Scope) (r : Scope × ℕ) → LowScope s → GoodScope rules s → propose rules s ≡ ok r → DistinctScope r.0 × AskedScope r.0 [] s
unfolding propose
shared_once rules s r low g e =
    let good = Marks.like_well _ rules s (mark s) (marked_like s) g in
    (shared_distinct rules s r low good e, shared_asked rules s r low good e)

-- every walked name that is found further out reaches an added outer alias of that declaration
pub shared_reaches : (rules : RuleSet) (s : Scope) (r : Scope × ℕ) → LowScope s → GoodScope rules s → propose rules s ≡ ok r → condition4 s r.0 ≡ none
unfolding propose
shared_reaches rules s r low g e = shared_4 rules s r low (Marks.like_well _ rules s (mark s) (marked_like s) g) e

-- at most four times the rows
pub shared_four : (rules : RuleSet) (s : Scope) (r : Scope × ℕ) → propose rules s ≡ ok r → length (flatten r.0) ≤ 4 * length (flatten s)
unfolding propose resolve
shared_four rules s r e =
    let four = holds_of (λ (x : Scope × ℕ). length (flatten x.0) ≤ 4 * length (flatten (mark s))) _ r (four_times rules [] (mark s)) e in
    omega (arith, four, Marks.like_rows _ s (mark s) (marked_like s))

-- ---- on bytes

-- an answer that has rows is made for an input that is accepted
record Proposed (settings : List Setting) (input : List ℕ) (room : ℕ) (out : List Row) : Type 0 where
  own : List Row
  answers : answer settings input room ≡ accepted own
  proposes : Sharing.proposed (setting_of settings input) input ≡ accepted out

proposed : (settings : List Setting) (input : List ℕ) (room : ℕ) (out : List Row) → shared settings input room ≡ accepted out → Proposed settings input room out
unfolding shared Sharing.shared_after
proposed settings input room out e = go (answer settings input room) refl e
  where
    go : (a : Answer) → answer settings input room ≡ a → Sharing.shared_after a settings input ≡ accepted out → Proposed settings input room out
    go (Answer.refused number place carried) q p = no_answer number place carried out p
    go (accepted own) q p = record { own = own; answers = q; proposes = p }

-- the tree that is proposed
record Made (rules : RuleSet) (s : Scope) (out : List Row) : Type 0 where
  r : Scope × ℕ
  makes : propose rules s ≡ ok r
  rows_are : flatten r.0 ≡ out

made : (rules : RuleSet) (s : Scope) (out : List Row) → map_answer flatten (Answer.resolved (propose rules s)) ≡ accepted out → Made rules s out
unfolding Answer.resolved map_answer
made rules s out e = go (propose rules s) refl e
  where
    go : (m : Result (Scope × ℕ)) → propose rules s ≡ m → map_answer flatten (Answer.resolved m) ≡ accepted out → Made rules s out
    go (Result.refused why z) q a = let c : ◌≡◌ {A = ℕ} 0 1 = cc in absurd (omega arith)
    go (ok r) q a = record { r = r; makes = q; rows_are = cc }

proposed_in : (v : Setting) (input : List ℕ) (o : Option Setting) (s : Scope) (out : List Row) → o ≡ some v → read_form v input ≡ accepted s → Sharing.proposed o input ≡ accepted out → Made v.rules s out
unfolding Sharing.proposed ◌and_then◌
proposed_in v input o s out a t e = made v.rules s out (rw (a, t) at e)

-- For all usual settings and every input: the verdict on the form that the planner proposes is yes.
pub shared_accepted : (settings : List Setting) → AllUsual settings → (input : List ℕ) → Bytes input → (room : ℕ) (out : List Row) (v : Setting)
    → setting_of settings input ≡ some v → shared settings input room ≡ accepted out → verdict settings input (form_bytes v out) ≡ yes
unfolding resolve propose
shared_accepted settings l input bs room out v asks e =
    let P = proposed settings input room out e in
    let old : List ℕ = replicate room 0 in
    let a = readings settings l input old bs P.own (ap (answer settings input) (length-replicate {A = ℕ} room 0) ∙ P.answers) in
    let is-v : a.setting ≡ v = some_same a.setting v (sym a.asked_for ∙ asks) in
    let in-read = input_read a.setting input (length old) a.before a.after (asks_header settings input a.setting a.asked_for) a.forms a.reads in
    let T = (read_exactly a.setting input a.before).0 in-read in
    let M = proposed_in a.setting input (setting_of settings input) a.before out a.asked_for in-read P.proposes in
    let L = marked_like a.before in
    let u = a.usual in
    let few : length (flatten (mark a.before)) ≤ a.setting.version.rows = omega (arith, a.few, Marks.like_rows _ a.before (mark a.before) L) in
    let good = Marks.like_well _ a.setting.rules a.before (mark a.before) L T.is_form.good in
    let fits = Marks.like_fits _ (omega (arith, a.few, u.few)) a.before (mark a.before) L (read_written a.setting input a.before u bs in-read) in
    subst (λ (x : Setting). verdict settings input (form_bytes x out) ≡ yes) is-v
    (subst (λ (rs : List Row). verdict settings input (form_bytes a.setting rs) ≡ yes) M.rows_are
    (verdict_is settings input (form_bytes a.setting (flatten M.r.0)) a.setting a.before M.r.0 (a.after, a.next) a.asked_for in-read a.resolves
    (written_read a.setting M.r.0 u (omega (arith, shared_four a.setting.rules a.before M.r M.makes, a.few))
    (out_fits a.setting.version.rows a.setting.rules [] (mark a.before) M.r (omega (arith, u.few)) (omega (arith, few)) done fits M.makes)
    (reads_again a.setting.rules u.heap a.setting.version.scopes [] (mark a.before) M.r (Marks.like_kind _ a.before (mark a.before) L ∙ T.is_form.component) good
    (omega (arith, T.low, Marks.like_height _ a.before (mark a.before) L)) M.makes))
    ∙ shared_conditions a.setting.rules a.before M.r a.low T.is_form.good M.makes))

-- So demand 3 holds of it.
pub shared_agrees : (settings : List Setting) → AllUsual settings → (input : List ℕ) → Bytes input → (room : ℕ) (out : List Row) (v : Setting)
    → setting_of settings input ≡ some v → shared settings input room ≡ accepted out → Agreeing settings input (form_bytes v out)
shared_agrees settings l input bs room out v asks e = yes_agrees settings l input (form_bytes v out) (shared_accepted settings l input bs room out v asks e)

-- It refuses what the answer refuses, and with that.
pub shared_refuses : (settings : List Setting) (input : List ℕ) (room number place : ℕ) (carried : List ℕ) → answer settings input room ≡ Answer.refused number place carried
    → shared settings input room ≡ Answer.refused number place carried
unfolding shared Sharing.shared_after
shared_refuses settings input room number place carried e = rw e
