-- `resolver_with::run::run_cleared` meets its contract.
use Rattle.resolver_with.proofs.Runs.{zeroed_as}
use Rattle.resolver_with.proofs.run.run_cleared.Goals as goal

pub returns : goal.returns
returns c = (c.run_in-answer.ensures, zeroed_as _ _ _ _ _ _ _ _ _ _ _ _ _ _ _ c.entered-1.given c.names-1.given c.known-1.given c.chains-1.given c.ends-1.given c.clear.ensures)
