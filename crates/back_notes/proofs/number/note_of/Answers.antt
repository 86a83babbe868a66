-- `back_notes::number::note_of` meets its contract.
use Rattle.back_notes.proofs.Ways.{noting}
use Rattle.back_notes.proofs.number.note_of.Goals as goal

pub returns-then-p-eq-DECL : goal.returns-then-p-eq-DECL
returns-then-p-eq-DECL c = search noting

pub returns-then-p-eq-OUTER : goal.returns-then-p-eq-OUTER
returns-then-p-eq-OUTER c = search noting

pub returns : goal.returns
returns c = search noting
