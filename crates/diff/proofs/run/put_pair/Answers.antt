-- `diff::run::put_pair` meets its contract.
use borrow.Author.Rules.{rules}
use Rattle.diff.proofs.Runs.{pair_put}
use Rattle.diff.proofs.run.put_pair.Goals as goal

pub returns : goal.returns
returns c = search (pair_put, rules)
