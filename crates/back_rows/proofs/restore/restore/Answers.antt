-- `back_rows::restore::restore` meets its contract.
use Rattle.back_rows.proofs.Ways.{restoring}
use Rattle.back_rows.proofs.restore.restore.Goals as goal

pub returns-then-a-eq-OUTER : goal.returns-then-a-eq-OUTER
returns-then-a-eq-OUTER c = search restoring

pub returns : goal.returns
returns c = search restoring
