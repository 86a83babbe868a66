-- `matched::fields::same_run` meets its contract.
use mathlib.Core.Path.{◌≡◌}
use Prim.Native.Nat.{◌-◌}
use Rattle.matched.specs.Counted.{choice_of}
use Rattle.matched.specs.Alike.{same_run_t}
use Rattle.matched.proofs.fields.same_run.Given as goal

abbrev pub invariant-loop-i : goal.invariant-loop-i
invariant-loop-i l = same_run_t (choice_of l.choice) l.left l.right l.i (l.to - l.i) ≡ same_run_t (choice_of l.choice) l.left l.right l.from (l.to - l.from)
