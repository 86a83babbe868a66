-- `sheet::rows_written` meets its contract.
use Rattle.sheet.proofs.Ways.{ways}
use Rattle.sheet.proofs.rows_written.Goals as goal

pub returns-in-Ok : goal.returns-in-Ok
returns-in-Ok c = search ways

pub returns-then-refusal-eq0 : goal.returns-then-refusal-eq0
returns-then-refusal-eq0 c = search ways

pub returns-else-refusal-eq0 : goal.returns-else-refusal-eq0
returns-else-refusal-eq0 c = search ways
