-- `index::either` meets its contract.
use Rattle.index.proofs.Laws.{ways}
use Rattle.index.proofs.either.Goals as goal

pub returns-then-test : goal.returns-then-test
returns-then-test c = search ways

pub returns-else-test : goal.returns-else-test
returns-else-test c = search ways
