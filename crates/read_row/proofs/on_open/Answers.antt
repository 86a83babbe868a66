-- `read_row::on_open` meets its contract.
use Rattle.read_row.proofs.Steps.{open_not, open_deep, open_on}
use borrow.Author.Rules.{rules}
use Rattle.read_row.proofs.on_open.Goals as goal

pub returns-then-not-may_open : goal.returns-then-not-may_open
returns-then-not-may_open c = search (open_not, open_deep, open_on, rules)

pub returns-then-kinds-depth : goal.returns-then-kinds-depth
returns-then-kinds-depth c = search (open_not, open_deep, open_on, rules)

pub returns : goal.returns
returns c = search (open_not, open_deep, open_on, rules)
