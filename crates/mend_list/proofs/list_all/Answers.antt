-- `mend_list::list_all` meets its contract.
use Rattle.mend_list.proofs.Laws.{all_listed}
use borrow.Author.Rules.{rules}
use Rattle.mend_list.proofs.list_all.Goals as goal

pub returns : goal.returns
returns c = search (all_listed, rules)
