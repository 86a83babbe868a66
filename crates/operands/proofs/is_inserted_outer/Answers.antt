-- `operands::is_inserted_outer` meets its contract.
use Rattle.operands.proofs.Laws.{operand_ways}
use Rattle.operands.proofs.is_inserted_outer.Goals as goal

pub returns : goal.returns
returns c = search operand_ways
