-- `names::slot_at` meets its contract.
use Rattle.names.proofs.Laws.{ways}
use Rattle.names.proofs.slot_at.Goals as goal

pub offset_bounds-table-i : goal.offset_bounds-table-i
offset_bounds-table-i c = search ways

pub bounds-table-i : goal.bounds-table-i
bounds-table-i c = search ways

pub returns-then-i-table : goal.returns-then-i-table
returns-then-i-table c = search ways

pub returns-else-i-table : goal.returns-else-i-table
returns-else-i-table c = search ways
