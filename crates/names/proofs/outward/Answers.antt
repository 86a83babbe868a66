-- `names::outward` meets its contract. Each loop's invariant: its twin from here is its twin from where it began.
use Rattle.names.proofs.Laws.{ways, walk_hit, first_hit}
use Rattle.names.proofs.outward.Goals as goal

pub scopes-init : goal.scopes-init
scopes-init c = search ways

pub overflow_sub-left : goal.overflow_sub-left
overflow_sub-left c = search ways

pub scope_at-scope-requires : goal.scope_at-scope-requires
scope_at-scope-requires c = search ways

pub bounds-scope-2 : goal.bounds-scope-2
bounds-scope-2 c = search ways

pub least-end-requires : goal.least-end-requires
least-end-requires c = search ways

pub bounds-scope-1 : goal.bounds-scope-1
bounds-scope-1 c = search ways

pub loop-i-init : goal.loop-i-init
loop-i-init c = search ways

pub scopes-smaller : goal.scopes-smaller
scopes-smaller c = search ways

pub scopes-preserved : goal.scopes-preserved
scopes-preserved c = search ways

pub offset_bounds-table-i : goal.offset_bounds-table-i
offset_bounds-table-i c = search ways

pub bounds-table-i : goal.bounds-table-i
bounds-table-i c = search ways

pub overflow_add-i : goal.overflow_add-i
overflow_add-i c = search ways

pub bounds-s-1 : goal.bounds-s-1
bounds-s-1 c = search ways

pub bounds-s-0 : goal.bounds-s-0
bounds-s-0 c = search ways

pub overflow_sub-result : goal.overflow_sub-result
overflow_sub-result c = search ways

pub bounds-s-2 : goal.bounds-s-2
bounds-s-2 c = search ways

pub loop-i-smaller-else-s-space : goal.loop-i-smaller-else-s-space
loop-i-smaller-else-s-space c = search ways

pub loop-i-preserved-else-s-space : goal.loop-i-preserved-else-s-space
loop-i-preserved-else-s-space c = search ways

pub loop-i-smaller : goal.loop-i-smaller
loop-i-smaller c = search ways

pub loop-i-preserved : goal.loop-i-preserved
loop-i-preserved c = search ways

pub returns-then-left-eq0 : goal.returns-then-left-eq0
returns-then-left-eq0 c = search ways

pub returns-then-s-space : goal.returns-then-s-space
returns-then-s-space c = walk_hit _ _ _ _ _ _ _ c.scopes.invariant.0 c.if-left-eq0.false _ (first_hit _ _ _ _ _ _ _ c.loop-i.invariant.1 c.loop-i.invariant.0 c.loop-i-test.true c.if-s-name.true c.if-s-space.true)
