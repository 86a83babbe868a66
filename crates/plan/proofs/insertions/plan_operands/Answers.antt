-- `plan::insertions::plan_operands` meets its contract.
use Rattle.std.proofs.Common.{rules}
use Rattle.plan.proofs.Grows.{grows}
use Rattle.plan.proofs.InsertionsLaws.{operands_turn, operands_other, operands_stop, operands_open, operands_end}
use Rattle.plan.proofs.insertions.plan_operands.Goals as goal

pub loop-i-init : goal.loop-i-init
loop-i-init c = (search rules, search grows, search rules, search rules, search rules)

pub ref_or_open_at-requires : goal.ref_or_open_at-requires
ref_or_open_at-requires c = search grows

pub plan_row-planned-requires : goal.plan_row-planned-requires
plan_row-planned-requires c = search grows

pub loop-i-preserved-in-Ok : goal.loop-i-preserved-in-Ok
loop-i-preserved-in-Ok c = (search operands_turn, search grows, search rules, search rules, search rules)

pub returns-in-Err : goal.returns-in-Err
returns-in-Err c = (search operands_stop, search grows)

pub returns-in-Open : goal.returns-in-Open
returns-in-Open c = (search operands_open, search grows)

pub loop-i-preserved : goal.loop-i-preserved
loop-i-preserved c = (search operands_other, search grows, search rules, search rules, search rules)

pub returns : goal.returns
returns c = (search operands_end, search grows)
