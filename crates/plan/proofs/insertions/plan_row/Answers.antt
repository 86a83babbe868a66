-- `plan::insertions::plan_row` meets its contract.
use Rattle.plan.proofs.Grows.{grows}
use Rattle.plan.proofs.PlanRow.{row_way}
use Rattle.plan.proofs.insertions.plan_row.Goals as goal

pub referring-requires : goal.referring-requires
referring-requires c = search grows

pub plan_ref-requires : goal.plan_ref-requires
plan_ref-requires c = search grows

pub returns : goal.returns
returns c = (search row_way, search grows)
