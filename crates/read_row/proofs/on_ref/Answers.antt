-- `read_row::on_ref` meets its contract.
use Rattle.read_row.proofs.Steps.{ref_not, ref_on}
use borrow.Author.Rules.{rules}
use Rattle.read_row.proofs.on_ref.Goals as goal

pub returns-then-s-gt-WANTING : goal.returns-then-s-gt-WANTING
returns-then-s-gt-WANTING c = search (ref_not, ref_on, rules)

pub returns : goal.returns
returns c = search (ref_not, ref_on, rules)
