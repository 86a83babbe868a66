-- `plan::insertions::plan_scope` meets its contract.
use Rattle.plan.proofs.Grows.{grows}
use Rattle.plan.proofs.InsertionsLaws.{ways}
use Rattle.plan.proofs.insertions.plan_scope.Goals as goal

pub plan_fields-requires : goal.plan_fields-requires
plan_fields-requires c = search grows

pub returns : goal.returns
returns c = (search ways, search grows)
