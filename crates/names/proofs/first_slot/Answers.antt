-- `names::first_slot` meets its contract. The invariant: the search from here answers what the search from the start does.
use Rattle.names.proofs.Laws.{ways}
use Rattle.names.proofs.first_slot.Goals as goal

pub least-end-requires : goal.least-end-requires
least-end-requires c = search ways

pub loop-i-init : goal.loop-i-init
loop-i-init c = search ways

pub offset_bounds-table-i : goal.offset_bounds-table-i
offset_bounds-table-i c = search ways

pub bounds-table-i : goal.bounds-table-i
bounds-table-i c = search ways

pub overflow_add-i : goal.overflow_add-i
overflow_add-i c = search ways

pub bounds-s-1 : goal.bounds-s-1
bounds-s-1 c = search ways

pub bounds-s-0 : goal.bounds-s-0
bounds-s-0 c = search ways

pub returns-then-s-space : goal.returns-then-s-space
returns-then-s-space c = search ways

pub loop-i-smaller-else-s-space : goal.loop-i-smaller-else-s-space
loop-i-smaller-else-s-space c = search ways

pub loop-i-preserved-else-s-space : goal.loop-i-preserved-else-s-space
loop-i-preserved-else-s-space c = search ways

pub loop-i-smaller : goal.loop-i-smaller
loop-i-smaller c = search ways

pub loop-i-preserved : goal.loop-i-preserved
loop-i-preserved c = search ways

pub returns : goal.returns
returns c = search ways
