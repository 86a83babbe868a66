-- `put::copy_four` meets its contract.
use Rattle.put.proofs.Laws.{copy_some}
use borrow.Author.Rules.{rules}
use Rattle.put.proofs.copy_four.Goals as goal

pub returns : goal.returns
returns c = search (copy_some, rules)
