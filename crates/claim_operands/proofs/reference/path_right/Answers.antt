-- `claim_operands::reference::path_right` meets its contract.
use Rattle.claim_operands.proofs.Ways.{pathing}
use Rattle.claim_operands.proofs.reference.path_right.Goals as goal

pub returns-in-Some : goal.returns-in-Some
returns-in-Some c = search pathing

pub returns-in-None : goal.returns-in-None
returns-in-None c = search pathing
