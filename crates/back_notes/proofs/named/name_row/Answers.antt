-- `back_notes::named::name_row` meets its contract.
use Rattle.back_notes.proofs.Ways.{rowing}
use Rattle.back_notes.proofs.named.name_row.Goals as goal

pub returns-then-p-ne-OUTER : goal.returns-then-p-ne-OUTER
returns-then-p-ne-OUTER c = search rowing

pub returns : goal.returns
returns c = search rowing
