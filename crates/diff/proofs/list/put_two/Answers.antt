-- `diff::list::put_two` meets its contract.
use borrow.Author.Rules.{rules}
use Rattle.diff.proofs.Ways.{two_put}
use Rattle.diff.proofs.list.put_two.Goals as goal

pub returns : goal.returns
returns c = search (two_put, rules)
