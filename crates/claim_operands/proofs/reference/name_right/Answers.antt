-- `claim_operands::reference::name_right` meets its contract.
use Rattle.claim_operands.proofs.Ways.{naming}
use Rattle.claim_operands.proofs.reference.name_right.Goals as goal

pub returns-in-Some : goal.returns-in-Some
returns-in-Some c = search naming

pub returns-in-None : goal.returns-in-None
returns-in-None c = search naming
