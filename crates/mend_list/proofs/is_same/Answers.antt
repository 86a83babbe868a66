-- `mend_list::is_same` meets its contract.
use borrow.Author.Rules.{rules}
use Rattle.mend_list.proofs.Laws.{same_slices}
use Rattle.mend_list.proofs.is_same.Goals as goal

pub returns : goal.returns
returns c = search (same_slices, rules)
