-- `plan::insertions::plan_field` meets its contract.
use Rattle.std.proofs.Common.{◌-◌}
use Rattle.plan.proofs.Grows.{grows}
use Rattle.plan.proofs.InsertionsLaws.{ways}
use Rattle.plan.proofs.insertions.plan_field.Goals as goal

pub plan_insertions-planned-requires : goal.plan_insertions-planned-requires
plan_insertions-planned-requires c = search grows

pub plan_decls-requires : goal.plan_decls-requires
plan_decls-requires c = search grows

pub returns-in-Err : goal.returns-in-Err
returns-in-Err c = (search ways, search grows)

pub returns-in-Ok : goal.returns-in-Ok
returns-in-Ok c = (search ways, search grows)
