-- `late::scope_around` meets its contract.
use Rattle.late.proofs.Laws.{ways}
use Rattle.late.proofs.scope_around.Goals as goal

pub returns : goal.returns
returns c = search ways
