-- `rows::row::case_of` meets its contract.
use Rattle.rows.specs.FromParts.{case_of}
use Rattle.rows.proofs.Laws.{passed, failed}
use borrow.Author.Rules.{rules}
use Rattle.rows.proofs.row.case_of.Goals as goal

pub returns-then-is_case : goal.returns-then-is_case
unfolding case_of
returns-then-is_case c = search (passed, rules)

pub returns-else-is_case : goal.returns-else-is_case
unfolding case_of
returns-else-is_case c = search (failed, rules)
