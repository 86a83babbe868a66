-- `share::walk_marked` meets its contract.
use borrow.Author.Rules.{rules}
use mathlib.Core.Path.{sym}
use native.Mathlib.Omega.{arith}
use lib.Seq.{length-take-le}
use Rattle.share.proofs.Ways.{marked_walked}
use Rattle.share.proofs.walk_marked.Goals as goal

pub slice_bounds-mark_form-end-2 : goal.slice_bounds-mark_form-end-2
slice_bounds-mark_form-end-2 c = sym (length-take-le _ _ (omega arith))

pub slice_bounds-fill-end-2 : goal.slice_bounds-fill-end-2
slice_bounds-fill-end-2 c = sym (length-take-le _ _ (omega arith))

pub returns : goal.returns
returns c = search (marked_walked, rules)
