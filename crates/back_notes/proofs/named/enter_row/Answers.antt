-- `back_notes::named::enter_row` meets its contract.
use Rattle.back_notes.proofs.Ways.{entering}
use Rattle.back_notes.proofs.named.enter_row.Goals as goal

pub returns-then-p-ne-DECL : goal.returns-then-p-ne-DECL
returns-then-p-ne-DECL c = search entering

pub returns : goal.returns
returns c = search entering
