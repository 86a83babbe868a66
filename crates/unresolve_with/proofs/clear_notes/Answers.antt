-- `unresolve_with::clear_notes` meets its contract.
use mathlib.Core.Path.{sym}
use native.Mathlib.Omega.{arith}
use lib.Seq.{length-take-le}
use Rattle.unresolve_with.proofs.Ways.{clearing}
use Rattle.unresolve_with.proofs.clear_notes.Goals as goal

pub returns-then-noted-size : goal.returns-then-noted-size
returns-then-noted-size c = search clearing

pub slice_bounds-zero_notes-end-2 : goal.slice_bounds-zero_notes-end-2
slice_bounds-zero_notes-end-2 c = sym (length-take-le _ _ (omega arith))

pub returns : goal.returns
returns c = search clearing
