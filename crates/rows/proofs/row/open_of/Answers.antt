-- `rows::row::open_of` meets its contract.
use Rattle.rows.specs.FromParts.{open_of}
use Rattle.rows.proofs.Laws.{passed, failed}
use borrow.Author.Rules.{rules}
use Rattle.rows.proofs.row.open_of.Goals as goal

pub returns-then-is_open : goal.returns-then-is_open
unfolding open_of
returns-then-is_open c = search (passed, rules)

pub returns-else-is_open : goal.returns-else-is_open
unfolding open_of
returns-else-is_open c = search (failed, rules)
