-- `rows::row::row_at` meets its contract.
use Rattle.rows.proofs.Laws.{read_row}
use borrow.Author.Rules.{rules}
use Rattle.rows.proofs.row.row_at.Goals as goal

pub returns : goal.returns
returns c = search (read_row, rules)
