-- `resolver::run::fill` meets its contract.
use Rattle.resolver.proofs.Laws.{ways}
use Rattle.resolver.proofs.run.fill.Goals as goal

pub returns-then-front-lt-HEADER : goal.returns-then-front-lt-HEADER
returns-then-front-lt-HEADER c = search ways

pub returns-in-Err : goal.returns-in-Err
returns-in-Err c = search ways

pub returns-in-Ok : goal.returns-in-Ok
returns-in-Ok c = search ways
