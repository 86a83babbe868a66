-- `index::search` meets its contract.
use Rattle.index.proofs.Storey.{follows}
use Rattle.index.proofs.search.Goals as goal

pub heads_of-heads-requires : goal.heads_of-heads-requires
heads_of-heads-requires c = search follows

pub chain_of-chain-requires : goal.chain_of-chain-requires
chain_of-chain-requires c = search follows

pub first_slot-requires : goal.first_slot-requires
first_slot-requires c = search follows

pub returns-then-heads-chain : goal.returns-then-heads-chain
returns-then-heads-chain c = search follows

pub overflow_add-from : goal.overflow_add-from
overflow_add-from c = search follows

pub first_slot-requires-then-to-from : goal.first_slot-requires-then-to-from
first_slot-requires-then-to-from c = search follows

pub returns-then-to-from : goal.returns-then-to-from
returns-then-to-from c = search follows

pub at-p-requires : goal.at-p-requires
at-p-requires c = search follows

pub loop-p-init : goal.loop-p-init
loop-p-init c = search follows

pub first_slot-requires-then-left-eq0 : goal.first_slot-requires-then-left-eq0
first_slot-requires-then-left-eq0 c = search follows

pub returns-then-left-eq0 : goal.returns-then-left-eq0
returns-then-left-eq0 c = search follows

pub overflow_sub-left : goal.overflow_sub-left
overflow_sub-left c = search follows

pub overflow_sub-p : goal.overflow_sub-p
overflow_sub-p c = search follows

pub is_meant-requires : goal.is_meant-requires
is_meant-requires c = search follows

pub either-found-requires : goal.either-found-requires
either-found-requires c = search follows

pub overflow_sub-p-in-loop-p : goal.overflow_sub-p-in-loop-p
overflow_sub-p-in-loop-p c = search follows

pub link_at-requires : goal.link_at-requires
link_at-requires c = search follows

pub at-p-requires-in-loop-p : goal.at-p-requires-in-loop-p
at-p-requires-in-loop-p c = search follows

pub loop-p-smaller : goal.loop-p-smaller
loop-p-smaller c = search follows

pub loop-p-preserved : goal.loop-p-preserved
loop-p-preserved c = search follows

pub returns : goal.returns
returns c = search follows
