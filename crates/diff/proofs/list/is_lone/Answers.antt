-- `diff::list::is_lone` meets its contract.
use borrow.Author.Rules.{rules}
use Rattle.diff.proofs.Ways.{lone_none, lone_there}
use Rattle.diff.proofs.list.is_lone.Goals as goal

pub returns-then-to-from : goal.returns-then-to-from
returns-then-to-from c = search (lone_none, rules)

pub returns : goal.returns
returns c = search (lone_there, rules)
