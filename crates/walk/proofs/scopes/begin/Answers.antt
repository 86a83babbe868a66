-- `walk::scopes::begin` meets its contract.
use Rattle.walk.proofs.ScopesLaws.{begins, begin_done}
use Rattle.walk.proofs.Opens.{opens, begun_by}
use Rattle.walk.proofs.scopes.begin.Goals as goal

pub row_number-first-requires : goal.row_number-first-requires
row_number-first-requires c = search opens

pub enter_fields-requires : goal.enter_fields-requires
enter_fields-requires c = search opens

pub plan_scope-requires : goal.plan_scope-requires
plan_scope-requires c = search opens

pub leave-requires : goal.leave-requires
leave-requires c = search opens

pub returns-in_err-count : goal.returns-in_err-count
returns-in_err-count c = (search begins, search opens)

pub returns-in_err-p : goal.returns-in_err-p
returns-in_err-p c = (search begins, search opens)

pub returns : goal.returns
returns c = (begin_done _ _ _ _ _ _ _ c.row_number-first.ensures _ _ c.enter_fields.ensures.0 _ c.in_ok-count.was _ _ c.plan_scope.ensures.0 _ c.in_ok-p.was, begun_by _ _ _ _ _ _ c.args.s _ _ c.in_ok-p.was c.plan_scope.ensures.1 c.leave.ensures)
