-- `share::mark_form` meets its contract.
use borrow.Author.Rules.{rules}
use Rattle.resolver.specs.Run.{no_slots, no_ends}
use Rattle.share.proofs.Ways.{empty_holds, marked_form}
use Rattle.share.proofs.mark_form.Goals as goal

pub slice_bounds-mark_ends-end : goal.slice_bounds-mark_ends-end
unfolding no_slots no_ends
slice_bounds-mark_ends-end c = search rules

pub mark_ends-requires : goal.mark_ends-requires
unfolding no_slots no_ends
mark_ends-requires c = search rules

pub slice_bounds-mark_rows-end : goal.slice_bounds-mark_rows-end
unfolding no_slots no_ends
slice_bounds-mark_rows-end c = search rules

pub slice_bounds-mark_rows-end-2 : goal.slice_bounds-mark_rows-end-2
unfolding no_slots no_ends
slice_bounds-mark_rows-end-2 c = search rules

pub slice_bounds-mark_rows-end-3 : goal.slice_bounds-mark_rows-end-3
unfolding no_slots no_ends
slice_bounds-mark_rows-end-3 c = search rules

pub mark_rows-requires : goal.mark_rows-requires
unfolding no_slots no_ends
mark_rows-requires c = search (empty_holds, rules)

pub shape_of-marked : goal.shape_of-marked
unfolding no_slots no_ends
shape_of-marked c = search rules

pub returns : goal.returns
unfolding no_slots no_ends
returns c = search (marked_form, rules)
