-- `operands::is_walked` meets its contract.
use Rattle.operands.proofs.Laws.{operand_ways}
use Rattle.operands.proofs.is_walked.Goals as goal

pub returns : goal.returns
returns c = search operand_ways
