-- `plan::insertions::plan_outer` meets its contract.
use Rattle.plan.proofs.Grows.{grows}
use Rattle.plan.proofs.InsertionsLaws.{ways}
use Rattle.plan.proofs.insertions.plan_outer.Goals as goal

pub is_late_out-requires : goal.is_late_out-requires
is_late_out-requires c = search grows

pub returns-then-is_late_out : goal.returns-then-is_late_out
returns-then-is_late_out c = (search ways, search grows)

pub has-requires : goal.has-requires
has-requires c = search grows

pub returns-then-not-has : goal.returns-then-not-has
returns-then-not-has c = (search ways, search grows)

pub insert-requires : goal.insert-requires
insert-requires c = search grows

pub returns : goal.returns
returns c = (search ways, search grows)
