-- `claim_operands::reference::is_met` meets its contract.
use Rattle.claim_operands.proofs.Ways.{meeting}
use Rattle.claim_operands.proofs.reference.is_met.Goals as goal

pub returns-in-Some-Some : goal.returns-in-Some-Some
returns-in-Some-Some c = search meeting

pub returns-in_default : goal.returns-in_default
returns-in_default c = search meeting

pub returns-in_default-2 : goal.returns-in_default-2
returns-in_default-2 c = search meeting
