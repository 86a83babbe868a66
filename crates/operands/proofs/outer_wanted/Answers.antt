-- `operands::outer_wanted` meets its contract.
use Rattle.operands.proofs.Laws.{operand_ways}
use Rattle.operands.proofs.outer_wanted.Goals as goal

pub returns-then-e : goal.returns-then-e
returns-then-e c = search operand_ways

pub returns-else-e : goal.returns-else-e
returns-else-e c = search operand_ways
