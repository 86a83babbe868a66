-- `operands::key_of` meets its contract.
use Rattle.operands.proofs.Laws.{operand_ways}
use Rattle.operands.proofs.key_of.Goals as goal

pub returns-then-e_at-eq0 : goal.returns-then-e_at-eq0
returns-then-e_at-eq0 c = search operand_ways

pub returns-else-e_at-eq0 : goal.returns-else-e_at-eq0
returns-else-e_at-eq0 c = search operand_ways
