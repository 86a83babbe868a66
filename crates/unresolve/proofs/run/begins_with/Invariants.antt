-- `unresolve::run::begins_with` meets its contract.
use mathlib.Core.Path.{◌≡◌}
use Prim.Native.Nat.{◌-◌, ◌≤◌}
use lib.ListN.{length, take, drop}
use Rattle.rules.specs.Answer.{same_numbers}
use Rattle.unresolve.proofs.run.begins_with.Given as goal

abbrev pub invariant-loop-k : goal.invariant-loop-k
invariant-loop-k l = (same_numbers (take (length l.front - l.k) (drop l.k l.bytes)) (drop l.k l.front) ≡ same_numbers (take (length l.front) l.bytes) l.front) × (l.k ≤ length l.front) × (length l.front ≤ length l.bytes)

abbrev pub decreases-loop-k : goal.decreases-loop-k
decreases-loop-k l = length l.front - l.k
