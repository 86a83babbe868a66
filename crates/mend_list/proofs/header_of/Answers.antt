-- `mend_list::header_of` meets its contract.
use Rattle.mend_list.proofs.Laws.{head_made}
use borrow.Author.Rules.{rules}
use Rattle.mend_list.proofs.header_of.Goals as goal

pub returns : goal.returns
returns c = search (head_made, rules)
