-- The answer of the planner, for every input: the input's refusal, or rows that the checker accepts, no more than the resolver writes.
use Rattle.std.specs.Prelude.{◌≡◌, refl, List, [], ℕ, ◌≤◌, length, replicate}
use Rattle.std.proofs.Common.{ap, ◌∙◌, arith}
use Rattle.std.proofs.Math.Option.{none, some}
use Rattle.std.proofs.lemmas.List.{length-replicate}
use Rattle.rules.specs.Versions.{Setting}
use Rattle.rules.specs.Rows.{Row}
use Rattle.rules.specs.Tree.{Scope, flatten}
use Rattle.rules.specs.Rules.{ok, resolve}
use Rattle.rules.specs.Answer
use Rattle.rules.specs.Answer.{accepted, map_answer, setting_of, answer, form_bytes}
use Rattle.read_form.specs.ReadForm.{read_form, ◌and_then◌}
use Rattle.checking.specs.Check.{yes, condition4, verdict}
use Rattle.sharing.specs.Sharing
use Rattle.sharing.specs.Sharing.{propose, shared}
use Rattle.rules.specs.Laws.RowLaws.{Bytes}
use Rattle.rules.proofs.Laws.InputLaws.{AllUsual, readings}
use Rattle.read_form.proofs.Laws.ReadFormLaws.{read_exactly, asks_header, input_read}
use Rattle.sharing.proofs.Laws.OneAlias.{DistinctScope, AskedScope}
use Rattle.sharing.proofs.Laws.SharedAccepted.{shared_accepted, shared_agrees, shared_once, shared_reaches}
use Rattle.checking.proofs.Laws.YesAgrees.{Agreeing}
use Rattle.sharing.proofs.Laws.FewerRows.{fewer_rows}
use Rattle.sharing.proofs.Laws.Goes.{propose_goes}

pub record Planned (settings : List Setting) (input : List ℕ) (room : ℕ) (own : List Row) : Type 0 where
  pub setting : Setting
  pub asked_for : setting_of settings input ≡ some setting
  pub out : List Row
  pub answers : shared settings input room ≡ accepted out
  -- "R-4 must accept it before it is written"
  pub checked : verdict settings input (form_bytes setting out) ≡ yes
  pub fewer : length out ≤ length own
  -- demand 3
  pub agrees : Agreeing settings input (form_bytes setting out)
  -- the trees of the input and of what is written
  pub before : Scope
  pub after : Scope
  pub reads : read_form setting input ≡ accepted before
  pub rows_are : flatten after ≡ out
  -- "exactly one inserted outer alias per scope and outer declaration reached by a walked name": no two in a scope denote the same, each is
  -- asked for by a walked name of the scope, and every walked name that is found further out reaches one (condition 4)
  pub distinct : DistinctScope after
  pub asked : AskedScope after [] before
  pub reached : condition4 before after ≡ none

answers_with : (settings : List Setting) (input : List ℕ) (room : ℕ) (own : List Row) (v : Setting) (s : Scope) (q : Scope × ℕ) → answer settings input room ≡ accepted own → setting_of settings input ≡ some v
    → read_form v input ≡ accepted s → propose v.rules s ≡ ok q → shared settings input room ≡ accepted (flatten q.0)
unfolding shared Sharing.shared_after Sharing.proposed Answer.resolved map_answer ◌and_then◌
answers_with settings input room own v s q e a t p = rw (e, a, t, p)

-- For all usual settings and every input that is accepted with the rows `own`.
pub planned : (settings : List Setting) → AllUsual settings → (input : List ℕ) → Bytes input → (room : ℕ) (own : List Row) → answer settings input room ≡ accepted own → Planned settings input room own
unfolding resolve
planned settings l input bs room own e =
    let old : List ℕ = replicate room 0 in
    let a = readings settings l input old bs own (ap (answer settings input) (length-replicate {A = ℕ} room 0) ∙ e) in
    let tree = input_read a.setting input (length old) a.before a.after (asks_header settings input a.setting a.asked_for) a.forms a.reads in
    let good = ((read_exactly a.setting input a.before).0 tree).is_form.good in
    let Q = propose_goes a.setting.rules a.before (a.after, a.next) a.low good a.resolves in
    let answers = answers_with settings input room own a.setting a.before Q.0 e a.asked_for tree Q.1 in
    let rows : length (flatten a.after) ≡ length own = ap length a.of_tree in
    let once = shared_once a.setting.rules a.before Q.0 a.low good Q.1 in
    record {
      setting = a.setting;
      asked_for = a.asked_for;
      out = flatten Q.0.0;
      answers = answers;
      checked = shared_accepted settings l input bs room (flatten Q.0.0) a.setting a.asked_for answers;
      fewer = omega (arith, rows, fewer_rows a.setting.rules a.before (a.after, a.next) Q.0 a.low a.resolves Q.1);
      agrees = shared_agrees settings l input bs room (flatten Q.0.0) a.setting a.asked_for answers;
      before = a.before;
      after = Q.0.0;
      reads = tree;
      rows_are = refl;
      distinct = once.0;
      asked = once.1;
      reached = shared_reaches a.setting.rules a.before Q.0 a.low good Q.1;
    }
