-- `rows::row::path_of` meets its contract.
use Rattle.rows.specs.FromParts.{path_of}
use Rattle.rows.proofs.Laws.{passed, failed}
use borrow.Author.Rules.{rules}
use Rattle.rows.proofs.row.path_of.Goals as goal

pub returns-then-is_lone : goal.returns-then-is_lone
unfolding path_of
returns-then-is_lone c = search (passed, rules)

pub returns-else-is_lone : goal.returns-else-is_lone
unfolding path_of
returns-else-is_lone c = search (failed, rules)
