-- `batch_parts::adds_up` meets its contract. The invariant: the lengths that are left add up to what is left exactly if all add up to the total.
use mathlib.Core.Path.{◌≡◌}
use lib.Dec.{eqb}
use Rattle.batching.specs.BatchBytes.{sum}
use Rattle.batch_parts.proofs.Ways.{Left}
use Rattle.batch_parts.proofs.adds_up.Given as goal

abbrev pub invariant-loop-length : goal.invariant-loop-length
invariant-loop-length l = Left l.lengths l.length-index l.left ≡ eqb (sum l.lengths) l.total
