-- `command::status::worse` meets its contract.
use Rattle.command.proofs.Laws.{ways}
use Rattle.command.proofs.status.worse.Goals as goal

pub returns-then-one-other : goal.returns-then-one-other
returns-then-one-other c = search ways

pub returns-else-one-other : goal.returns-else-one-other
returns-else-one-other c = search ways
