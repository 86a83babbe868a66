-- `unresolve::restore::restore_rows` meets its contract.
use Rattle.unresolve.proofs.Ways.{restoring}
use Rattle.unresolve.proofs.restore.restore_rows.Goals as goal

pub returns : goal.returns
returns c = search restoring
