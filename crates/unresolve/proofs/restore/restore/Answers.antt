-- `unresolve::restore::restore` meets its contract.
use Rattle.unresolve.proofs.Ways.{restoring}
use borrow.Author.Rules.{rules}
use Rattle.unresolve.proofs.restore.restore.Goals as goal

pub returns : goal.returns
returns c = (search restoring, search rules)
