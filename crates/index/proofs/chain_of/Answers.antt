-- `index::chain_of` meets its contract.
use Rattle.index.proofs.Laws.{ways}
use Rattle.index.proofs.chain_of.Goals as goal

pub returns-then-name-eq0 : goal.returns-then-name-eq0
returns-then-name-eq0 c = search ways

pub returns-then-name-ge-FIRST_FRESH : goal.returns-then-name-ge-FIRST_FRESH
returns-then-name-ge-FIRST_FRESH c = search ways

pub returns-then-heads-lt-MANY : goal.returns-then-heads-lt-MANY
returns-then-heads-lt-MANY c = search ways

pub returns : goal.returns
returns c = search ways
