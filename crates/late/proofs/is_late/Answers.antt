-- `late::is_late` meets its contract.
use Rattle.late.proofs.Laws.{ways}
use Rattle.late.proofs.is_late.Goals as goal

pub find-requires : goal.find-requires
find-requires c = search ways

pub returns : goal.returns
returns c = search ways
