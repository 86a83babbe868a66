-- `numbers::is_written` meets its contract.
use Rattle.numbers.proofs.Ways.{ways}
use Rattle.numbers.proofs.is_written.Goals as goal

pub returns : goal.returns
returns c = search ways
