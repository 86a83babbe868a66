-- `mend::place::put_row` meets its contract.
use Rattle.mend.proofs.InPlace.{row_put}
use borrow.Author.Rules.{rules}
use Rattle.mend.proofs.place.put_row.Goals as goal

pub returns : goal.returns
returns c = search (row_put, rules)
