-- `mend_list::put_change` meets its contract.
use Rattle.mend_list.proofs.Laws.{change_put, change_end}
use borrow.Author.Rules.{rules}
use Rattle.mend_list.proofs.put_change.Goals as goal

pub returns : goal.returns
returns c = search (change_put, change_end, rules)
