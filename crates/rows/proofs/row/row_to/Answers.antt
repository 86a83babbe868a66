-- `rows::row::row_to` meets its contract.
use Rattle.rows.proofs.Laws.{row_found}
use borrow.Author.Rules.{rules}
use Rattle.rows.proofs.row.row_to.Goals as goal

pub returns : goal.returns
returns c = search (row_found, rules)
