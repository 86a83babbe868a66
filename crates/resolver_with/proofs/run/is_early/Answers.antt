-- `resolver_with::run::is_early` meets its contract.
use Rattle.resolver_with.proofs.Runs.{ways}
use Rattle.resolver_with.proofs.run.is_early.Goals as goal

pub returns : goal.returns
returns c = search ways
