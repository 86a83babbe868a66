-- `read_row::has_operands` meets its contract.
use Rattle.read_row.proofs.Steps.{operands_none, operands_here}
use borrow.Author.Rules.{rules}
use Rattle.read_row.proofs.has_operands.Goals as goal

pub returns-then-s-gt-WANTING : goal.returns-then-s-gt-WANTING
returns-then-s-gt-WANTING c = search (operands_none, operands_here, rules)

pub returns : goal.returns
returns c = search (operands_none, operands_here, rules)
