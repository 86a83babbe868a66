-- `rows::row::ref_of` meets its contract.
use Rattle.rows.specs.FromParts.{ref_of}
use Rattle.rows.proofs.Laws.{passed, failed}
use borrow.Author.Rules.{rules}
use Rattle.rows.proofs.row.ref_of.Goals as goal

pub returns-then-is_ref : goal.returns-then-is_ref
unfolding ref_of
returns-then-is_ref c = search (passed, rules)

pub returns-else-is_ref : goal.returns-else-is_ref
unfolding ref_of
returns-else-is_ref c = search (failed, rules)
