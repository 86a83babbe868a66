-- `plan::enter::enter_fields` meets its contract.
use Rattle.std.proofs.Common.{rules}
use Rattle.plan.proofs.Grows.{grows}
use Rattle.plan.proofs.EnterLaws.{ways}
use Rattle.plan.proofs.enter.enter_fields.Goals as goal

pub code_at-requires : goal.code_at-requires
code_at-requires c = search grows

pub returns-then-code_at-ne-FIELD : goal.returns-then-code_at-ne-FIELD
returns-then-code_at-ne-FIELD c = (search ways, search grows)

pub field_rows-field-requires : goal.field_rows-field-requires
field_rows-field-requires c = search grows

pub enter_field-requires : goal.enter_field-requires
enter_field-requires c = search grows

pub row_number-next-requires : goal.row_number-next-requires
row_number-next-requires c = search grows

pub loop-turns-preserved : goal.loop-turns-preserved
loop-turns-preserved c = (search ways, search grows, search rules, search rules)

pub returns-in_err-count : goal.returns-in_err-count
returns-in_err-count c = (search ways, search grows)

pub returns : goal.returns
returns c = (search ways, search grows)
