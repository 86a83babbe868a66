-- `form::ends::mark_row` meets its contract.
use Rattle.form.proofs.MarkEnds.{ways}
use Rattle.form.proofs.ends.mark_row.Goals as goal

pub returns-then-bounds-depth : goal.returns-then-bounds-depth
returns-then-bounds-depth c = search ways

pub returns-then-code-eq-CLOSE : goal.returns-then-code-eq-CLOSE
returns-then-code-eq-CLOSE c = search ways

pub returns-then-ends-i : goal.returns-then-ends-i
returns-then-ends-i c = search ways

pub returns-else-ends-i : goal.returns-else-ends-i
returns-else-ends-i c = search ways

pub returns-else-code-eq-FIELD : goal.returns-else-code-eq-FIELD
returns-else-code-eq-FIELD c = search ways
