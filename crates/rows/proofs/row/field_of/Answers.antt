-- `rows::row::field_of` meets its contract.
use Rattle.rows.specs.FromParts.{field_of}
use Rattle.rows.proofs.Laws.{passed, failed}
use borrow.Author.Rules.{rules}
use Rattle.rows.proofs.row.field_of.Goals as goal

pub returns-then-is_field : goal.returns-then-is_field
unfolding field_of
returns-then-is_field c = search (passed, rules)

pub returns-else-is_field : goal.returns-else-is_field
unfolding field_of
returns-else-is_field c = search (failed, rules)
