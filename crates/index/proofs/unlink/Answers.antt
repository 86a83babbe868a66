-- `index::unlink` meets its contract.
use Rattle.index.proofs.Laws.{ways}
use Rattle.index.proofs.unlink.Goals as goal

pub returns-then-heads-chain : goal.returns-then-heads-chain
returns-then-heads-chain c = search ways

pub returns : goal.returns
returns c = search ways
