-- `copy::copy` meets its contract. The invariant: with what is left to copy, the buffer is as it must be.
use mathlib.Core.Path.{◌≡◌}
use Prim.Native.Nat.{◌-◌}
use lib.ListN.{length, drop}
use lib.Seq.{sets}
use Rattle.copy.proofs.copy.Given as goal

abbrev pub invariant-loop-k : goal.invariant-loop-k
invariant-loop-k l = (sets l.to l.i (drop l.k l.from) ≡ sets l.initial.to l.at l.from) × (length l.to ≡ length l.initial.to)

abbrev pub decreases-loop-k : goal.decreases-loop-k
decreases-loop-k l = length l.from - l.k
