-- `batch::shares::in_front` meets its contract.
use mathlib.Core.Path.{sym}
use native.Mathlib.Omega.{arith}
use lib.Seq.{length-take-le}
use borrow.Author.Rules.{rules}
use Rattle.batch.proofs.Ways.{fronted}
use Rattle.batch.proofs.shares.in_front.Goals as goal

pub slice_bounds-resolve_around-end-2 : goal.slice_bounds-resolve_around-end-2
slice_bounds-resolve_around-end-2 c = sym (length-take-le _ _ (omega arith))

pub returns : goal.returns
returns c = search (fronted, rules)
