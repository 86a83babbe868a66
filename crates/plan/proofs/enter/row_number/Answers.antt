-- `plan::enter::row_number` meets its contract.
use Rattle.plan.specs.Enter.{row_number}
use Rattle.std.proofs.Common.{rules}
use Rattle.plan.proofs.enter.row_number.Goals as goal

pub overflow_add-result : goal.overflow_add-result
unfolding row_number
overflow_add-result c = search rules

pub overflow_cast-result : goal.overflow_cast-result
unfolding row_number
overflow_cast-result c = search rules

pub returns : goal.returns
unfolding row_number
returns c = search rules
