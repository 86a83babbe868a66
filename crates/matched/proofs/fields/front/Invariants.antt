-- `matched::fields::front` meets its contract.
use Prim.Native.Nat.{◌-◌, ◌/◌, ◌≤◌}
use lib.ListN.{length}
use Rattle.matched.specs.Counted.{choice_of}
use Rattle.matched.specs.Alike.{front_t}
use Rattle.matched.proofs.Ways.{FrontGoes}
use Rattle.matched.proofs.fields.front.Given as goal

abbrev pub invariant-loop-i : goal.invariant-loop-i
invariant-loop-i l = FrontGoes (choice_of l.choice) l.left l.right l.i (front_t (choice_of l.choice) l.left l.right 1 (length l.left / 16)) × (l.i ≤ l.m)

abbrev pub decreases-loop-i : goal.decreases-loop-i
decreases-loop-i l = l.m - l.i
