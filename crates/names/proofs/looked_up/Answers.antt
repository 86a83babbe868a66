-- `names::looked_up` meets its contract.
use Rattle.names.proofs.Laws.{ways}
use Rattle.names.proofs.looked_up.Goals as goal

pub returns-then-p-eq0 : goal.returns-then-p-eq0
returns-then-p-eq0 c = search ways

pub returns-else-p-eq0 : goal.returns-else-p-eq0
returns-else-p-eq0 c = search ways
