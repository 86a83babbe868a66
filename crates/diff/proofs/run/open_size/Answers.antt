-- `diff::run::open_size` meets its contract.
use borrow.Author.Rules.{rules}
use Rattle.diff.proofs.Runs.{open_same, open_other}
use Rattle.diff.proofs.run.open_size.Goals as goal

pub returns-then-same : goal.returns-then-same
returns-then-same c = (search (open_same, rules), search rules)

pub returns-else-same : goal.returns-else-same
returns-else-same c = (search (open_other, rules), search rules)
