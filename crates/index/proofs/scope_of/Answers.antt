-- `index::scope_of` meets its contract.
use Rattle.index.proofs.Storey.{climbs}
use Rattle.index.proofs.scope_of.Goals as goal

pub loop-left-init : goal.loop-left-init
loop-left-init c = search climbs

pub overflow_sub-left : goal.overflow_sub-left
overflow_sub-left c = search climbs

pub scope_at-scope-requires : goal.scope_at-scope-requires
scope_at-scope-requires c = search climbs

pub bounds-scope-1 : goal.bounds-scope-1
bounds-scope-1 c = search climbs

pub bounds-scope-1-then-scope-p : goal.bounds-scope-1-then-scope-p
bounds-scope-1-then-scope-p c = search climbs

pub bounds-scope-2 : goal.bounds-scope-2
bounds-scope-2 c = search climbs

pub search_from-at-requires : goal.search_from-at-requires
search_from-at-requires c = search climbs

pub said-requires : goal.said-requires
said-requires c = search climbs

pub overflow_sub-depth : goal.overflow_sub-depth
overflow_sub-depth c = search climbs

pub met_in-requires : goal.met_in-requires
met_in-requires c = search climbs

pub returns-then-scope-p : goal.returns-then-scope-p
returns-then-scope-p c = search climbs

pub loop-left-smaller : goal.loop-left-smaller
loop-left-smaller c = search climbs

pub loop-left-preserved : goal.loop-left-preserved
loop-left-preserved c = search climbs

pub returns : goal.returns
returns c = search climbs
