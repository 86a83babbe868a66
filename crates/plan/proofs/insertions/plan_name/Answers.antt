-- `plan::insertions::plan_name` meets its contract.
use Rattle.plan.proofs.Grows.{grows}
use Rattle.plan.proofs.InsertionsLaws.{ways}
use Rattle.plan.proofs.insertions.plan_name.Goals as goal

pub is_here-requires : goal.is_here-requires
is_here-requires c = search grows

pub is_late_here-requires : goal.is_late_here-requires
is_late_here-requires c = search grows

pub returns-then-is_late_here : goal.returns-then-is_late_here
returns-then-is_late_here c = (search ways, search grows)

pub returns-then-is_here : goal.returns-then-is_here
returns-then-is_here c = (search ways, search grows)

pub outward-requires : goal.outward-requires
outward-requires c = search grows

pub plan_outer-requires : goal.plan_outer-requires
plan_outer-requires c = search grows

pub returns-in-None : goal.returns-in-None
returns-in-None c = (search ways, search grows)

pub returns-in-Some : goal.returns-in-Some
returns-in-Some c = (search ways, search grows)
