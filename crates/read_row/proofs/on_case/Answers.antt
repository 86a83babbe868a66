-- `read_row::on_case` meets its contract.
use Rattle.read_row.proofs.Steps.{case_not, case_on}
use borrow.Author.Rules.{rules}
use Rattle.read_row.proofs.on_case.Goals as goal

pub returns-then-s-gt-WANTING : goal.returns-then-s-gt-WANTING
returns-then-s-gt-WANTING c = search (case_not, case_on, rules)

pub returns : goal.returns
returns c = search (case_not, case_on, rules)
