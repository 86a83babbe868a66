-- `mend::run::read_and_write` meets its contract.
use mathlib.Core.Path.{sym}
use native.Mathlib.Omega.{arith}
use lib.Seq.{length-take-le}
use Rattle.mend.proofs.Ways.{fits_head, read_broken, read_deep, read_whole}
use borrow.Author.Rules.{rules}
use Rattle.mend.proofs.run.read_and_write.Goals as goal

pub slice_bounds-read_of-end-2 : goal.slice_bounds-read_of-end-2
slice_bounds-read_of-end-2 c = sym (length-take-le _ _ (omega arith))

pub read_of-requires : goal.read_of-requires
read_of-requires c = search (fits_head, rules)

pub returns-in-Err-Broken : goal.returns-in-Err-Broken
returns-in-Err-Broken c = search (read_broken, rules)

pub returns-in-Err-Deep : goal.returns-in-Err-Deep
returns-in-Err-Deep c = search (read_deep, rules)

pub returns-in-Ok : goal.returns-in-Ok
returns-in-Ok c = search (read_whole, rules)
