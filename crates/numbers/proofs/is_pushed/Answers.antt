-- `numbers::is_pushed` meets its contract.
use Rattle.numbers.proofs.Ways.{ways}
use Rattle.numbers.proofs.is_pushed.Goals as goal

pub returns-in-Some : goal.returns-in-Some
returns-in-Some c = search ways

pub returns-in-None : goal.returns-in-None
returns-in-None c = search ways
