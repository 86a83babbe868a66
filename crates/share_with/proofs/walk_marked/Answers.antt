-- `share_with::walk_marked` meets its contract.
use mathlib.Core.Path.{sym}
use native.Mathlib.Omega.{arith}
use lib.Seq.{length-take-le}
use Rattle.share_with.proofs.Ways.{linked_in, suits_relaxed, walked_in_lem}
use borrow.Author.Rules.{rules}
use Rattle.share_with.proofs.walk_marked.Goals as goal

pub slice_bounds-mark_in-end-2 : goal.slice_bounds-mark_in-end-2
slice_bounds-mark_in-end-2 c = sym (length-take-le _ _ (omega arith))

pub mark_in-requires : goal.mark_in-requires
mark_in-requires c = search (linked_in, rules)

pub slice_bounds-fill_in-end-2 : goal.slice_bounds-fill_in-end-2
slice_bounds-fill_in-end-2 c = sym (length-take-le _ _ (omega arith))

pub fill_in-requires : goal.fill_in-requires
fill_in-requires c = search (suits_relaxed, rules)

pub returns : goal.returns
returns c = search (walked_in_lem, rules)
