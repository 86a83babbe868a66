-- `mend::run::write` meets its contract.
use mathlib.Core.Path.{sym}
use native.Mathlib.Omega.{arith}
use lib.Seq.{length-take-le}
use Rattle.mend.proofs.Ways.{writes}
use borrow.Author.Rules.{rules}
use Rattle.mend.proofs.run.write.Goals as goal

pub slice_bounds-list_changes-end-2 : goal.slice_bounds-list_changes-end-2
slice_bounds-list_changes-end-2 c = sym (length-take-le _ _ (omega arith))

pub returns : goal.returns
returns c = search (writes, rules)
