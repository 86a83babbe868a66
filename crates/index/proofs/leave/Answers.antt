-- `index::leave` meets its contract.
use borrow.Author.Rules.{rules}
use Rattle.index.proofs.Storey.{changes}
use Rattle.index.proofs.leave.Goals as goal

pub loop-i-init : goal.loop-i-init
loop-i-init c = search changes

pub overflow_sub-i : goal.overflow_sub-i
overflow_sub-i c = search changes

pub slot_at-slot-requires : goal.slot_at-slot-requires
slot_at-slot-requires c = search changes

pub heads_of-heads-requires : goal.heads_of-heads-requires
heads_of-heads-requires c = search changes

pub bounds-slot-0 : goal.bounds-slot-0
bounds-slot-0 c = search changes

pub bounds-slot-1 : goal.bounds-slot-1
bounds-slot-1 c = search changes

pub chain_of-requires : goal.chain_of-requires
chain_of-requires c = search changes

pub unlink-requires : goal.unlink-requires
unlink-requires c = search changes

pub loop-i-smaller : goal.loop-i-smaller
loop-i-smaller c = search changes

pub loop-i-preserved : goal.loop-i-preserved
loop-i-preserved c = (search changes, search rules, search rules)

pub shape_of-index : goal.shape_of-index
shape_of-index c = search changes

pub returns : goal.returns
returns c = search changes
