-- `share::front_of` meets its contract.
use borrow.Author.Rules.{rules}
use mathlib.Core.Path.{sym}
use native.Mathlib.Omega.{arith}
use lib.Seq.{length-take-le}
use Rattle.share.proofs.Ways.{front_all, front_part}
use Rattle.share.proofs.front_of.Goals as goal

pub returns-then-out-size : goal.returns-then-out-size
returns-then-out-size c = search (front_all, rules)

pub slice_bounds-result-end : goal.slice_bounds-result-end
slice_bounds-result-end c = sym (length-take-le _ _ (omega arith))

pub returns : goal.returns
returns c = search (front_part, rules)
