-- `put::copy_row` meets its contract.
use Rattle.put.proofs.Laws.{copy_none, copy_full, copy_done}
use borrow.Author.Rules.{rules}
use Rattle.put.proofs.copy_row.Goals as goal

pub returns-then-rows-i : goal.returns-then-rows-i
returns-then-rows-i c = search (copy_none, rules)

pub returns-then-out-to : goal.returns-then-out-to
returns-then-out-to c = search (copy_full, rules)

pub returns : goal.returns
returns c = search (copy_done, rules)
