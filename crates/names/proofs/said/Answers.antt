-- `names::said` meets its contract.
use Rattle.names.proofs.Laws.{ways}
use Rattle.names.proofs.said.Goals as goal

pub returns-then-p-eq0 : goal.returns-then-p-eq0
returns-then-p-eq0 c = search ways

pub returns : goal.returns
returns c = search ways
