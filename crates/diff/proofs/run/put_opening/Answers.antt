-- `diff::run::put_opening` meets its contract.
use borrow.Author.Rules.{rules}
use Rattle.diff.proofs.Runs.{opening_put}
use Rattle.diff.proofs.run.put_opening.Goals as goal

pub returns : goal.returns
returns c = search (opening_put, rules)
