-- `index::link_at` meets its contract.
use Rattle.index.proofs.Laws.{ways}
use Rattle.index.proofs.link_at.Goals as goal

pub returns : goal.returns
returns c = search ways
