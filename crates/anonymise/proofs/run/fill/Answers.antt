-- `anonymise::run::fill` meets its contract.
use Rattle.anonymise.proofs.Ways.{runs}
use Rattle.anonymise.proofs.run.fill.Goals as goal

pub returns : goal.returns
returns c = search runs
