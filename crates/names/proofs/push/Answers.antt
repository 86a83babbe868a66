-- `names::push` meets its contract.
use Rattle.names.proofs.Laws.{ways}
use Rattle.names.proofs.push.Goals as goal

pub offset_bounds-table-used : goal.offset_bounds-table-used
offset_bounds-table-used c = search ways

pub bounds-table-used : goal.bounds-table-used
bounds-table-used c = search ways

pub overflow_add-result : goal.overflow_add-result
overflow_add-result c = search ways

pub shape_of-table-then-used-table : goal.shape_of-table-then-used-table
shape_of-table-then-used-table c = search ways

pub returns-then-used-table : goal.returns-then-used-table
returns-then-used-table c = search ways

pub returns : goal.returns
returns c = search ways
