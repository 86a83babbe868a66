-- `read_row::on_export` meets its contract.
use Rattle.read_row.proofs.Steps.{export_done, export_not}
use borrow.Author.Rules.{rules}
use Rattle.read_row.proofs.on_export.Goals as goal

pub returns-then-has_operands-exports : goal.returns-then-has_operands-exports
returns-then-has_operands-exports c = search (export_done, export_not, rules)

pub returns : goal.returns
returns c = search (export_done, export_not, rules)
