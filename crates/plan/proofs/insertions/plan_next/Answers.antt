-- `plan::insertions::plan_next` meets its contract.
use Rattle.std.proofs.Common.{◌-◌}
use Rattle.plan.proofs.Grows.{grows}
use Rattle.plan.proofs.InsertionsLaws.{ways}
use Rattle.plan.proofs.insertions.plan_next.Goals as goal

pub field_rows-field-requires : goal.field_rows-field-requires
field_rows-field-requires c = search grows

pub plan_field-planned-requires : goal.plan_field-planned-requires
plan_field-planned-requires c = search grows

pub row_number-requires : goal.row_number-requires
row_number-requires c = search grows

pub moved-requires : goal.moved-requires
moved-requires c = search grows

pub returns-in-Ok : goal.returns-in-Ok
returns-in-Ok c = (search ways, search grows)

pub returns-in-Err : goal.returns-in-Err
returns-in-Err c = (search ways, search grows)
