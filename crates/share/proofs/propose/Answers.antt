-- `share::propose` meets its contract.
use borrow.Author.Rules.{rules}
use mathlib.Core.Path.{sym}
use native.Mathlib.Omega.{arith}
use lib.Seq.{length-take-le}
use Rattle.share.specs.Run.{no_rows}
use Rattle.share.proofs.Ways.{proposed}
use Rattle.share.proofs.propose.Goals as goal

pub overflow_sub-rows : goal.overflow_sub-rows
unfolding no_rows
overflow_sub-rows c = search rules

pub overflow_mul-size : goal.overflow_mul-size
unfolding no_rows
overflow_mul-size c = search rules

pub overflow_add-size : goal.overflow_add-size
unfolding no_rows
overflow_add-size c = search rules

pub slice_bounds-walk_marked-count : goal.slice_bounds-walk_marked-count
unfolding no_rows
slice_bounds-walk_marked-count c = search rules

pub slice_bounds-walk_marked-start : goal.slice_bounds-walk_marked-start
unfolding no_rows
slice_bounds-walk_marked-start c = search rules

pub slice_bounds-walk_marked-end : goal.slice_bounds-walk_marked-end
unfolding no_rows
slice_bounds-walk_marked-end c = search rules

pub slice_bounds-walk_marked-end-2 : goal.slice_bounds-walk_marked-end-2
unfolding no_rows
slice_bounds-walk_marked-end-2 c = search rules

pub slice_bounds-walk_marked-end-3 : goal.slice_bounds-walk_marked-end-3
unfolding no_rows
slice_bounds-walk_marked-end-3 c = search rules

pub slice_bounds-walk_marked-end-4 : goal.slice_bounds-walk_marked-end-4
unfolding no_rows
slice_bounds-walk_marked-end-4 c = sym (length-take-le _ _ (omega arith))

pub walk_marked-requires : goal.walk_marked-requires
unfolding no_rows
walk_marked-requires c = search rules

pub shape_of-out : goal.shape_of-out
unfolding no_rows
shape_of-out c = search rules

pub returns : goal.returns
unfolding no_rows
returns c = search (proposed, rules)
