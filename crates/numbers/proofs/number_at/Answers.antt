-- `numbers::number_at` meets its contract.
use Rattle.numbers.proofs.Ways.{ways}
use Rattle.numbers.proofs.number_at.Goals as goal

pub returns-then-code-eq-OUTER : goal.returns-then-code-eq-OUTER
returns-then-code-eq-OUTER c = search ways

pub returns : goal.returns
returns c = search ways
