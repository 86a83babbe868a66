-- `rows::row::export_of` meets its contract.
use Rattle.rows.specs.FromParts.{export_of}
use Rattle.rows.proofs.Laws.{passed, failed}
use borrow.Author.Rules.{rules}
use Rattle.rows.proofs.row.export_of.Goals as goal

pub returns-then-is_lone : goal.returns-then-is_lone
unfolding export_of
returns-then-is_lone c = search (passed, rules)

pub returns-else-is_lone : goal.returns-else-is_lone
unfolding export_of
returns-else-is_lone c = search (failed, rules)
