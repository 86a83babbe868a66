-- `matched::fields::back` meets its contract.
use mathlib.Core.Path.{◌≡◌}
use Prim.Native.Nat.{◌+◌, ◌-◌, ◌/◌, ◌≤◌}
use lib.ListN.{length}
use Rattle.matched.specs.Counted.{choice_of}
use Rattle.matched.specs.Alike.{back_t}
use Rattle.matched.proofs.fields.back.Given as goal

abbrev pub invariant-loop-same : goal.invariant-loop-same
invariant-loop-same l = (back_t (choice_of l.choice) l.left l.right l.from l.same (length l.left / 16 - (l.from + 1) - l.same) ≡ back_t (choice_of l.choice) l.left l.right l.from 0 (length l.left / 16 - (l.from + 1))) × (l.same ≤ length l.right / 16 - (l.from + 1))
