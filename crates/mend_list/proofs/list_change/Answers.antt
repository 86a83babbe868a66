-- `mend_list::list_change` meets its contract.
use Rattle.mend_list.proofs.Laws.{change_listed}
use borrow.Author.Rules.{rules}
use Rattle.mend_list.proofs.list_change.Goals as goal

pub returns : goal.returns
returns c = search (change_listed, rules)
