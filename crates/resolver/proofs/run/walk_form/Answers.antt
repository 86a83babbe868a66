-- `resolver::run::walk_form` meets its contract. The tables start empty, and are lent to the walk.
use borrow.Author.Rules.{rules}
use Rattle.resolver.specs.Run.{no_slots, no_ends}
use Rattle.resolver.proofs.Laws.{walk_whole}
use Rattle.resolver.proofs.Starts.{served_start, stacked_start}
use Rattle.resolver.proofs.run.walk_form.Goals as goal

pub slice_bounds-mark_ends-end : goal.slice_bounds-mark_ends-end
unfolding no_slots no_ends
slice_bounds-mark_ends-end c = search rules

pub mark_ends-requires : goal.mark_ends-requires
unfolding no_slots no_ends
mark_ends-requires c = search rules

pub slice_bounds-scope_walk-end : goal.slice_bounds-scope_walk-end
unfolding no_slots no_ends
slice_bounds-scope_walk-end c = search rules

pub slice_bounds-scope_walk-end-2 : goal.slice_bounds-scope_walk-end-2
unfolding no_slots no_ends
slice_bounds-scope_walk-end-2 c = search rules

pub slice_bounds-scope_walk-end-3 : goal.slice_bounds-scope_walk-end-3
unfolding no_slots no_ends
slice_bounds-scope_walk-end-3 c = search rules

pub slice_bounds-scope_walk-end-4 : goal.slice_bounds-scope_walk-end-4
unfolding no_slots no_ends
slice_bounds-scope_walk-end-4 c = search rules

pub slice_bounds-scope_walk-end-5 : goal.slice_bounds-scope_walk-end-5
unfolding no_slots no_ends
slice_bounds-scope_walk-end-5 c = search rules

pub slice_bounds-scope_walk-end-6 : goal.slice_bounds-scope_walk-end-6
unfolding no_slots no_ends
slice_bounds-scope_walk-end-6 c = search rules

pub starting-requires : goal.starting-requires
unfolding no_slots no_ends
starting-requires c = search rules

pub scope_walk-requires : goal.scope_walk-requires
unfolding no_slots no_ends
scope_walk-requires c = (served_start _ c.starting.ensures.1, stacked_start 32 _ _ c.starting.ensures.0)

pub shape_of-out : goal.shape_of-out
unfolding no_slots no_ends
shape_of-out c = search rules

pub returns : goal.returns
unfolding no_slots no_ends
returns c = search (walk_whole, rules)
