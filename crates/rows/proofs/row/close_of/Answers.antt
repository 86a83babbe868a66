-- `rows::row::close_of` meets its contract.
use Rattle.rows.specs.FromParts.{close_of}
use Rattle.rows.proofs.Laws.{passed, failed}
use borrow.Author.Rules.{rules}
use Rattle.rows.proofs.row.close_of.Goals as goal

pub returns-then-is_close : goal.returns-then-is_close
unfolding close_of
returns-then-is_close c = search (passed, rules)

pub returns-else-is_close : goal.returns-else-is_close
unfolding close_of
returns-else-is_close c = search (failed, rules)
