-- `check_with::try_steps` meets its contract.
use Rattle.check_with.proofs.Ways.{steps_ways}
use Rattle.check_with.proofs.try_steps.Goals as goal

pub returns-in-Ok : goal.returns-in-Ok
returns-in-Ok c = search steps_ways

pub returns-in-Err : goal.returns-in-Err
returns-in-Err c = search steps_ways
