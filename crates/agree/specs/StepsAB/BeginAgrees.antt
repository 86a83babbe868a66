-- Steps A and B together: on the rows of a scope, the walk's `begin_scope_t` does what the rules' `prepare` says.
use Rattle.std.specs.Prelude.{◌≡◌, refl, true, List, [], ◌∷◌, ◌++◌, ℕ, ◌+◌, ◌/◌, ◌≤◌, ◌<◌, length, take, Result as CodeResult, Ok, Err}
use Rattle.std.proofs.Common.{arith}
use Rattle.kit.specs.Out.{Out, ◌&◌}
use Rattle.rules.specs.Versions.{RuleSet}
use Rattle.rules.specs.Rows.{Close}
use Rattle.rules.specs.Tree.{Declaration, Fields, fields_rows}
use Rattle.rules.specs.Good.{GoodFields}
use Rattle.rules.specs.Rules.{Entry, table_of, Outside, Result, refused, ok, ◌>>=◌, Env, declarations, distinct, expand_fields, prepare}
use Rattle.rules.specs.Laws.Meaning.Names.{LowFields}
use Rattle.rules.proofs.Laws.Output.Counts.{own}
use Rattle.refusal.specs.declared.Refusal.{Refusal as Said}
use Rattle.refusal.specs.declared.Told.{Told}
use Rattle.names.specs.Table.{Slot, between}
use Rattle.names.specs.Stands.{Stands, Envs, Below}
use Rattle.plan.specs.Enter.{row_number, enter_fields_t}
use Rattle.plan.specs.Insertions as plan
use Rattle.plan.specs.declared.insertions.PlanState.{PlanState}
use Rattle.write.specs.declared.alias.WriteState.{WriteState}
use Rattle.walk.specs.Scopes.{with_tables_t, planned_t, begin_scope_t}
use Rattle.agree.specs.Refusals.Carried.{said_of, told_of}
use Rattle.agree.specs.Tables.Sizes.{most, Sizes, Fits}
use Rattle.agree.specs.Rows.At.{At}
use Rattle.form.specs.Ends.{Ends}
use Rattle.agree.specs.Rows.AtLaws.{at_behind, row_number_lem}
use Rattle.agree.specs.Tables.Slots.{fields_slots}
use Rattle.agree.specs.StepsAB.EnterAgrees.{EnteredAs, EnterIs, distinct_ok, enter_agrees, entered_known}
use Rattle.agree.specs.Fit.GoodSpaces.{good_spaces}
use Rattle.agree.specs.Tables.Earlier.{Timed}
use Rattle.agree.specs.StepsAB.PlanAgrees.{PlanIs, plan_agrees}
use Rattle.refusal.specs.declared.Refused.{Refused}

pub record BeginStopped (sizes : Sizes) (first : ℕ) (names₀ : List Slot) (n : Said) (z : Told) (o : Out (CodeResult PlanState Refused) (Out (List Slot) (List Slot))) : Type 0 where
  pub entered : List Slot
  pub names : List Slot
  pub answer : o ≡ (Err (record { refusal = n; told = z }) & entered & names)
  pub room : length entered ≡ sizes.entered
  pub size : length names ≡ sizes.names
  pub kept : take first names ≡ take first names₀

pub record BeginDone (sizes : Sizes) (first : ℕ) (names₀ slots : List Slot) (ds : List Declaration) (k : ℕ) (o : Out (CodeResult PlanState Refused) (Out (List Slot) (List Slot))) : Type 0 where
  pub plan : PlanState
  pub entered : List Slot
  pub names : List Slot
  pub answer : o ≡ (Ok plan & entered & names)
  pub used : (plan).used ≡ first + length slots
  pub fresh : (plan).fresh ≡ 2147483648 + k
  pub room : length entered ≡ sizes.entered
  pub size : length names ≡ sizes.names
  pub kept : take first names ≡ take first names₀
  pub holds : between first (plan).used names ≡ slots
  pub stands : Stands [] slots ds

-- what steps A and B come to, where the rules say this: from `first` on the table holds `slots`
abbrev pub BeginIs : (sizes : Sizes) (first : ℕ) (names₀ slots : List Slot) → Result (Env × ℕ) → Out (CodeResult PlanState Refused) (Out (List Slot) (List Slot)) → Type 0
BeginIs sizes first names₀ slots (refused n z) o = BeginStopped sizes first names₀ (said_of n z) (told_of n) o
BeginIs sizes first names₀ slots (ok r) o = BeginDone sizes first names₀ slots (table_of r.0) r.1 o

-- step B, seen beside the table of entered names
beside_is : (sizes : Sizes) (first : ℕ) (names₀ slots : List Slot) (name : ℕ) (m : Result (List Entry × ℕ)) (entered : List Slot) (o : Out (CodeResult PlanState Refused) (List Slot)) → length entered ≡ sizes.entered → PlanIs sizes.names first names₀ slots m o → BeginIs sizes first names₀ slots (m >>= λ r. ok (record { name = name; entries = r.0; before = [] }, r.1)) (with_tables_t entered o)
unfolding ◌>>=◌ with_tables_t
beside_is sizes first names₀ slots name (refused n z) entered o s p = record { entered = entered; names = p.names; answer = rw p.answer; room = s; size = p.size; kept = p.kept }
beside_is sizes first names₀ slots name (ok r) entered o s p =
    record {
      plan = p.plan;
      entered = entered;
      names = p.names;
      answer = rw p.answer;
      used = p.used;
      fresh = p.fresh;
      room = s;
      size = p.size;
      kept = p.kept;
      holds = p.holds;
      stands = p.stands;
    }

-- step A, and then step B of what it accepts
planned_is : (sizes : Sizes) (m : Result (List Declaration)) (o : Out (CodeResult ℕ Refused) (List Slot)) (f : List Declaration → Result (Env × ℕ)) (rows ends : List ℕ) (names : List Slot) (scopes : List (List ℕ)) (s : WriteState) (slots : List Slot) → length names ≡ sizes.names → EnterIs sizes.entered m o → ((ds : List Declaration) (t : List Slot) → m ≡ ok ds → length t ≡ sizes.entered → EnteredAs (between 0 (length ds) t) ds → BeginIs sizes s.used names slots (f ds) (with_tables_t t (plan.plan_scope_t rows ends t names scopes (record { at = row_number s.at 1; entered = length ds; depth = s.depth; used = s.used; fresh = s.fresh; first = s.used; before = s.before; early = s.early })))) → BeginIs sizes s.used names slots (m >>= f) (planned_t o rows ends names scopes s)
unfolding ◌>>=◌ planned_t
planned_is sizes (refused n z) o f rows ends names scopes s slots l e g = record { entered = e.table; names = names; answer = rw e.answer; room = e.size; size = l; kept = refl }
planned_is sizes (ok ds) o f rows ends names scopes s slots l e g = rw e.answer (g ds e.table refl e.size e.holds)

-- STEPS A AND B of a scope whose OPEN is row s.at, with the scopes `outside` open
pub begin_agrees : (rules : RuleSet) → rules.heap < 13 → (sizes : Sizes) (rows ends : List ℕ) (name kind k : ℕ) (fs : Fields) (outside : Outside) (entered names : List Slot) (scopes : List (List ℕ)) (s : WriteState) → Fits sizes rows → At rows (s.at + 1) (fields_rows fs ++ (Close ∷ [])) → Ends fs ends (s.at + 1) → GoodFields rules fs kind → Timed outside.early s.early names scopes s.before s.depth outside.scopes → outside.before.decls ≡ [] → (s.early ≡ true → LowFields fs) → Envs names scopes s.depth outside.scopes → Below s.used scopes s.depth → s.depth ≤ most → length entered ≡ sizes.entered → length names ≡ sizes.names → s.used + own fs ≤ sizes.names → k + own fs ≤ most → s.fresh ≡ 2147483648 + k → BeginIs sizes s.used names (fields_slots (declarations fs) outside [] k (s.at + 1) fs) (prepare name fs outside k) (begin_scope_t rows ends entered names scopes s)
unfolding begin_scope_t prepare
begin_agrees rules heap sizes rows ends name kind k fs outside entered names scopes s short a en good timed starts low envs below shallow el nl b h f =
    let w = at_behind rows (s.at + 1) (fields_rows fs) Close a in
    let q : row_number s.at 1 ≡ s.at + 1 = row_number_lem s.at 1 (omega arith) in
    planned_is sizes (distinct [] (declarations fs)) (enter_fields_t rows ends entered (row_number s.at 1) 0 (length rows / 16)) _ rows ends names scopes s _ nl
    (rw q (enter_agrees sizes.entered rows ends fs (s.at + 1) entered (length rows / 16) (omega arith) short.short a en (omega arith) el))
    (λ ds t o l e.
    let same : ds ≡ declarations fs = distinct_ok [] (declarations fs) ds o in
    beside_is sizes s.used names (fields_slots (declarations fs) outside [] k (s.at + 1) fs) name (expand_fields ds outside k fs) t _ l
    (rw (q, f, ← same)
    (plan_agrees sizes.names rows ends fs (s.at + 1) k s.used (length ds) s.depth s.before s.early ds outside t names scopes (omega arith) short.names a en (good_spaces rules fs kind heap good) (entered_known ds t e) timed starts low envs below shallow nl b h)))
