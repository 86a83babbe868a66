-- `back_notes::number::number_row` meets its contract.
use Rattle.back_notes.proofs.Ways.{row_is}
use borrow.Author.Rules.{rules}
use Rattle.back_notes.proofs.number.number_row.Goals as goal

pub returns : goal.returns
returns c = search (row_is, rules)
