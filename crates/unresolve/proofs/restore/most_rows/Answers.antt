-- `unresolve::restore::most_rows` meets its contract.
use Rattle.unresolve.proofs.Ways.{rows_are, rows_few}
use borrow.Author.Rules.{rules}
use Rattle.unresolve.proofs.restore.most_rows.Goals as goal

pub returns : goal.returns
returns c = search (rows_are, rows_few, rules)
