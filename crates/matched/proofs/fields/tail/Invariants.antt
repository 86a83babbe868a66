-- `matched::fields::tail` meets its contract.
use Prim.Native.Nat.{◌-◌, ◌/◌, ◌≤◌}
use lib.ListN.{length}
use Rattle.matched.specs.Alike.{tail_t}
use Rattle.matched.proofs.Ways.{TailGoes}
use Rattle.matched.proofs.fields.tail.Given as goal

abbrev pub invariant-loop-i : goal.invariant-loop-i
invariant-loop-i l = TailGoes l.rows l.same l.i (tail_t l.rows l.same l.from (length l.rows / 16)) × (l.from ≤ l.i) × (l.i ≤ l.n)

abbrev pub decreases-loop-i : goal.decreases-loop-i
decreases-loop-i l = l.n - l.i
