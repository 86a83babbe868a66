-- `diff::list::put_entry` meets its contract.
use borrow.Author.Rules.{rules}
use Rattle.diff.proofs.Ways.{entry_put}
use Rattle.diff.proofs.list.put_entry.Goals as goal

pub returns : goal.returns
returns c = search (entry_put, rules)
