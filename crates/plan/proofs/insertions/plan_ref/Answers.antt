-- `plan::insertions::plan_ref` meets its contract.
use Rattle.plan.proofs.Grows.{grows}
use Rattle.plan.proofs.InsertionsLaws.{ways}
use Rattle.plan.proofs.insertions.plan_ref.Goals as goal

pub returns-then-r-eq-CORE_TYPE : goal.returns-then-r-eq-CORE_TYPE
returns-then-r-eq-CORE_TYPE c = (search ways, search grows)

pub returns-then-r-eq-CORE_INSTANCE_WIDE : goal.returns-then-r-eq-CORE_INSTANCE_WIDE
returns-then-r-eq-CORE_INSTANCE_WIDE c = (search ways, search grows)

pub plan_paths-requires : goal.plan_paths-requires
plan_paths-requires c = search grows

pub returns-then-r-gt0 : goal.returns-then-r-gt0
returns-then-r-gt0 c = (search ways, search grows)

pub plan_name-requires : goal.plan_name-requires
plan_name-requires c = search grows

pub returns-in-Number : goal.returns-in-Number
returns-in-Number c = (search ways, search grows)

pub returns-in-Name : goal.returns-in-Name
returns-in-Name c = (search ways, search grows)
