-- `command::forms::talk_beside` meets its contract.
use Rattle.command.proofs.Laws.{ways}
use Rattle.command.proofs.forms.talk_beside.Goals as goal

pub returns-then-is_dash : goal.returns-then-is_dash
returns-then-is_dash c = search ways

pub returns-else-is_dash : goal.returns-else-is_dash
returns-else-is_dash c = search ways
