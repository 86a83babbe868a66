-- `rows::row::outer_of` meets its contract.
use Rattle.rows.specs.FromParts.{outer_of}
use Rattle.rows.proofs.Laws.{passed, failed}
use borrow.Author.Rules.{rules}
use Rattle.rows.proofs.row.outer_of.Goals as goal

pub returns-then-is_outer : goal.returns-then-is_outer
unfolding outer_of
returns-then-is_outer c = search (passed, rules)

pub returns-else-is_outer : goal.returns-else-is_outer
unfolding outer_of
returns-else-is_outer c = search (failed, rules)
