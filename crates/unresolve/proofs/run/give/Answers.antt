-- `unresolve::run::give` meets its contract.
use Rattle.unresolve.proofs.Ways.{giving}
use Rattle.unresolve.proofs.run.give.Goals as goal

pub returns-then-out-input : goal.returns-then-out-input
returns-then-out-input c = search giving

pub returns : goal.returns
returns c = search giving
