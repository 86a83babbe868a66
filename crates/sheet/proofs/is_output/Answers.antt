-- `sheet::is_output` meets its contract.
use Rattle.sheet.proofs.Ways.{ways}
use Rattle.sheet.proofs.is_output.Goals as goal

pub returns : goal.returns
returns c = search ways
