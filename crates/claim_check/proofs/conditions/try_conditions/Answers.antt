-- `claim_check::conditions::try_conditions` meets its contract.
use Rattle.claim_check.proofs.Ways.{seconds}
use Rattle.claim_check.proofs.conditions.try_conditions.Goals as goal

pub returns-in-Ok : goal.returns-in-Ok
returns-in-Ok c = search seconds

pub returns-in-Err : goal.returns-in-Err
returns-in-Err c = search seconds
