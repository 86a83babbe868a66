-- `mend::run::mend_to` meets its contract.
use mathlib.Core.Path.{sym}
use native.Mathlib.Omega.{arith}
use lib.Seq.{length-take-le}
use Rattle.mend.proofs.Ways.{to_fits, to_short, to_whole}
use borrow.Author.Rules.{rules}
use Rattle.mend.proofs.run.mend_to.Goals as goal

pub slice_bounds-has_room-end-2 : goal.slice_bounds-has_room-end-2
slice_bounds-has_room-end-2 c = sym (length-take-le _ _ (omega arith))

pub returns-then-not-has_room : goal.returns-then-not-has_room
returns-then-not-has_room c = search (to_short, rules)

pub read_and_write-requires : goal.read_and_write-requires
read_and_write-requires c = record { wide_bound = (search rules, search rules, search rules, search (to_fits, rules)); kept_value = search rules }

pub returns : goal.returns
returns c = search (to_whole, rules)
