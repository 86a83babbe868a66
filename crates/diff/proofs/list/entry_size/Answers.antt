-- `diff::list::entry_size` meets its contract.
use borrow.Author.Rules.{rules}
use Rattle.diff.proofs.Ways.{size_carried, size_alone}
use Rattle.diff.proofs.list.entry_size.Goals as goal

pub returns-then-carried : goal.returns-then-carried
returns-then-carried c = (search (size_carried, rules), search rules)

pub returns-else-carried : goal.returns-else-carried
returns-else-carried c = (search (size_alone, rules), search rules)
