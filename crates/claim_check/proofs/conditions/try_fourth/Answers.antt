-- `claim_check::conditions::try_fourth` meets its contract.
use Rattle.claim_check.proofs.Ways.{fourths}
use Rattle.claim_check.proofs.conditions.try_fourth.Goals as goal

pub enter_all-used-requires : goal.enter_all-used-requires
enter_all-used-requires c = search fourths

pub returns-in-Ok : goal.returns-in-Ok
returns-in-Ok c = search fourths

pub returns-in-Err : goal.returns-in-Err
returns-in-Err c = search fourths
