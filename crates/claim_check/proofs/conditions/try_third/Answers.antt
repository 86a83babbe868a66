-- `claim_check::conditions::try_third` meets its contract.
use Rattle.claim_check.proofs.Ways.{thirds}
use Rattle.claim_check.proofs.conditions.try_third.Goals as goal

pub try_aliases-requires : goal.try_aliases-requires
try_aliases-requires c = search thirds

pub returns-in-Ok : goal.returns-in-Ok
returns-in-Ok c = search thirds

pub returns-in-Err : goal.returns-in-Err
returns-in-Err c = search thirds
