-- `index::climb` meets its contract.
use Rattle.index.proofs.Storey.{climbs}
use Rattle.index.proofs.climb.Goals as goal

pub heads_of-heads-requires : goal.heads_of-heads-requires
heads_of-heads-requires c = search climbs

pub loop-p-init : goal.loop-p-init
loop-p-init c = search climbs

pub outward-requires : goal.outward-requires
outward-requires c = search climbs

pub returns-then-left-eq0 : goal.returns-then-left-eq0
returns-then-left-eq0 c = search climbs

pub overflow_sub-left : goal.overflow_sub-left
overflow_sub-left c = search climbs

pub overflow_sub-p : goal.overflow_sub-p
overflow_sub-p c = search climbs

pub is_around-requires : goal.is_around-requires
is_around-requires c = search climbs

pub scope_of-requires : goal.scope_of-requires
scope_of-requires c = search climbs

pub returns-then-is_around : goal.returns-then-is_around
returns-then-is_around c = search climbs

pub overflow_sub-p-in-loop-p : goal.overflow_sub-p-in-loop-p
overflow_sub-p-in-loop-p c = search climbs

pub link_at-requires : goal.link_at-requires
link_at-requires c = search climbs

pub at-p-requires : goal.at-p-requires
at-p-requires c = search climbs

pub loop-p-smaller : goal.loop-p-smaller
loop-p-smaller c = search climbs

pub loop-p-preserved : goal.loop-p-preserved
loop-p-preserved c = search climbs

pub returns : goal.returns
returns c = search climbs
