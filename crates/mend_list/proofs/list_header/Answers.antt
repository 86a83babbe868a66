-- `mend_list::list_header` meets its contract.
use Rattle.mend_list.proofs.Laws.{head_listed}
use borrow.Author.Rules.{rules}
use Rattle.mend_list.proofs.list_header.Goals as goal

pub returns : goal.returns
returns c = search (head_listed, rules)
