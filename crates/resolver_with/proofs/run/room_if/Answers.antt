-- `resolver_with::run::room_if` meets its contract.
use Rattle.resolver_with.proofs.Runs.{ways}
use Rattle.resolver_with.proofs.run.room_if.Goals as goal

pub returns-then-enough : goal.returns-then-enough
returns-then-enough c = search ways

pub returns-else-enough : goal.returns-else-enough
returns-else-enough c = search ways
