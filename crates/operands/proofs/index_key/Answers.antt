-- `operands::index_key` meets its contract.
use Rattle.operands.proofs.Laws.{operand_ways}
use Rattle.operands.proofs.index_key.Goals as goal

pub returns-then-e-lt2 : goal.returns-then-e-lt2
returns-then-e-lt2 c = search operand_ways

pub returns-else-e-lt2 : goal.returns-else-e-lt2
returns-else-e-lt2 c = search operand_ways
