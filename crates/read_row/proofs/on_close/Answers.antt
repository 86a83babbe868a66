-- `read_row::on_close` meets its contract.
use Rattle.read_row.proofs.Steps.{close_not, close_whole, close_on}
use borrow.Author.Rules.{rules}
use Rattle.read_row.proofs.on_close.Goals as goal

pub returns-then-not-may_end : goal.returns-then-not-may_end
returns-then-not-may_end c = search (close_not, close_whole, close_on, rules)

pub returns-then-depth-le1 : goal.returns-then-depth-le1
returns-then-depth-le1 c = search (close_not, close_whole, close_on, rules)

pub returns : goal.returns
returns c = search (close_not, close_whole, close_on, rules)
