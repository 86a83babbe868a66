-- `mend_list::list_mended` meets its contract.
use Rattle.mend_list.proofs.Laws.{mended_listed, mended_wide}
use borrow.Author.Rules.{rules}
use Rattle.mend_list.proofs.list_mended.Goals as goal

pub list_row-requires : goal.list_row-requires
list_row-requires c = search (mended_wide, rules)

pub returns : goal.returns
returns c = search (mended_listed, rules)
