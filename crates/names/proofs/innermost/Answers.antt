-- `names::innermost` meets its contract.
use Rattle.names.proofs.Laws.{ways}
use Rattle.names.proofs.innermost.Goals as goal

pub returns-then-depth-eq0 : goal.returns-then-depth-eq0
returns-then-depth-eq0 c = search ways

pub returns : goal.returns
returns c = search ways
