-- `resolver_with::run::is_exact` meets its contract.
use Rattle.resolver_with.proofs.Runs.{ways}
use Rattle.resolver_with.proofs.run.is_exact.Goals as goal

pub returns : goal.returns
returns c = search ways
