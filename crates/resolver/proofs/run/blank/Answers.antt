-- `resolver::run::blank` meets its contract.
use Rattle.resolver.proofs.Laws.{ways}
use Rattle.resolver.proofs.run.blank.Goals as goal

pub returns : goal.returns
returns c = search ways
