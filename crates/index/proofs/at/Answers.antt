-- `index::at` meets its contract.
use Rattle.index.proofs.Laws.{ways}
use Rattle.index.proofs.at.Goals as goal

pub returns-else-i-index : goal.returns-else-i-index
returns-else-i-index c = search ways
