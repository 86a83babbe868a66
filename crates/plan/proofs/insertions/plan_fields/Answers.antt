-- `plan::insertions::plan_fields` meets its contract.
use Rattle.std.proofs.Common.{◌-◌, rules}
use Rattle.plan.proofs.Grows.{grows}
use Rattle.plan.proofs.InsertionsLaws.{fields_other, fields_turn, fields_stop, fields_end}
use Rattle.plan.proofs.insertions.plan_fields.Goals as goal

pub loop-turns-init : goal.loop-turns-init
loop-turns-init c = (search rules, search grows, search rules, search rules, search rules)

pub code_at-requires : goal.code_at-requires
code_at-requires c = search grows

pub returns-then-code_at-ne-FIELD : goal.returns-then-code_at-ne-FIELD
returns-then-code_at-ne-FIELD c = (fields_other _ _ _ _ _ _ _ _ _ c.loop-turns.invariant.0 c.loop-turns-test.true _ c.code_at.ensures c.if-code_at-ne-FIELD.true, search grows)

pub plan_next-planned-requires : goal.plan_next-planned-requires
plan_next-planned-requires c = search grows

pub loop-turns-preserved : goal.loop-turns-preserved
loop-turns-preserved c = (search fields_turn, search grows, search rules, search rules, search rules)

pub returns-in-Err : goal.returns-in-Err
returns-in-Err c = (search fields_stop, search grows)

pub returns : goal.returns
returns c = (search fields_end, search grows)
