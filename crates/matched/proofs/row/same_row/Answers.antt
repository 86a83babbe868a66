-- `matched::row::same_row` meets its contract.
use borrow.Author.Rules.{rules}
use Rattle.matched.proofs.Rows.{row_found}
use Rattle.matched.proofs.row.same_row.Goals as goal

pub returns : goal.returns
returns c = search (row_found, rules)
