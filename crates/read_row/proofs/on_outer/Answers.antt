-- `read_row::on_outer` meets its contract.
use Rattle.read_row.proofs.Steps.{outer_not, outer_on}
use borrow.Author.Rules.{rules}
use Rattle.read_row.proofs.on_outer.Goals as goal

pub returns-then-s-gt-WANTING : goal.returns-then-s-gt-WANTING
returns-then-s-gt-WANTING c = search (outer_not, outer_on, rules)

pub returns : goal.returns
returns c = search (outer_not, outer_on, rules)
