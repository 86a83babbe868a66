-- `resolver::run::admitted` meets its contract.
use Rattle.resolver.proofs.Admits.{ways}
use Rattle.resolver.proofs.run.admitted.Goals as goal

pub returns-then-is_short : goal.returns-then-is_short
returns-then-is_short c = search ways

pub returns : goal.returns
returns c = search ways
