-- `index::is_meant` meets its contract.
use Rattle.index.proofs.Laws.{ways}
use Rattle.index.proofs.is_meant.Goals as goal

pub returns : goal.returns
returns c = search ways
