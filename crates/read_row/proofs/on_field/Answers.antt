-- `read_row::on_field` meets its contract.
use Rattle.read_row.proofs.Steps.{field_begins, field_not}
use borrow.Author.Rules.{rules}
use Rattle.read_row.proofs.on_field.Goals as goal

pub returns-then-may_end-allows : goal.returns-then-may_end-allows
returns-then-may_end-allows c = search (field_begins, field_not, rules)

pub returns : goal.returns
returns c = search (field_begins, field_not, rules)
