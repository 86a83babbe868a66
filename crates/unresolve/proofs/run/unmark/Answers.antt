-- `unresolve::run::unmark` meets its contract.
use Rattle.unresolve.proofs.Ways.{giving}
use Rattle.unresolve.proofs.run.unmark.Goals as goal

pub returns-else-area-gt0 : goal.returns-else-area-gt0
returns-else-area-gt0 c = search giving
