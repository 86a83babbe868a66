-- `resolver::run::finish` meets its contract.
use Rattle.resolver.proofs.Laws.{ways}
use Rattle.resolver.proofs.run.finish.Goals as goal

pub returns : goal.returns
returns c = search ways
