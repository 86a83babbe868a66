-- `diff::list::put_right` meets its contract.
use mathlib.Core.Path.{◌≡◌}
use Prim.Native.Nat.{◌+◌, ◌-◌}
use lib.ListN.{length}
use lib.Seq.{sets}
use Rattle.diff.proofs.Ways.{Goes}
use Rattle.diff.specs.Written.{right_entry, right_t}
use Rattle.diff.proofs.list.put_right.Given as goal

abbrev pub invariant-loop-j : goal.invariant-loop-j
invariant-loop-j l = Goes (right_entry l.right l.i) l.right l.to l.j l.behind l.list (sets l.initial.list l.at (right_t l.right l.i l.to l.from)) (l.at + length (right_t l.right l.i l.to l.from)) × (length l.list ≡ length l.initial.list)

abbrev pub decreases-loop-j : goal.decreases-loop-j
decreases-loop-j l = l.to - l.j
