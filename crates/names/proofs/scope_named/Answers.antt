-- `names::scope_named` meets its contract.
use Rattle.names.proofs.Laws.{ways}
use Rattle.names.proofs.scope_named.Goals as goal

pub loop-left-init : goal.loop-left-init
loop-left-init c = search ways

pub overflow_sub-left : goal.overflow_sub-left
overflow_sub-left c = search ways

pub scope_at-scope-requires : goal.scope_at-scope-requires
scope_at-scope-requires c = search ways

pub bounds-scope-0 : goal.bounds-scope-0
bounds-scope-0 c = search ways

pub overflow_sub-result : goal.overflow_sub-result
overflow_sub-result c = search ways

pub overflow_sub-result-then-scope-name : goal.overflow_sub-result-then-scope-name
overflow_sub-result-then-scope-name c = search ways

pub returns-then-scope-name : goal.returns-then-scope-name
returns-then-scope-name c = search ways

pub loop-left-smaller : goal.loop-left-smaller
loop-left-smaller c = search ways

pub loop-left-preserved : goal.loop-left-preserved
loop-left-preserved c = search ways

pub returns : goal.returns
returns c = search ways
