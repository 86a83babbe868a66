-- `diff::list::put_left` meets its contract.
use mathlib.Core.Path.{◌≡◌}
use Prim.Native.Nat.{◌+◌, ◌-◌}
use lib.ListN.{length}
use lib.Seq.{sets}
use Rattle.diff.proofs.Ways.{Goes}
use Rattle.diff.specs.Written.{left_entry, left_t}
use Rattle.diff.proofs.list.put_left.Given as goal

abbrev pub invariant-loop-i : goal.invariant-loop-i
invariant-loop-i l = Goes (left_entry l.j) l.left l.to l.i l.behind l.list (sets l.initial.list l.at (left_t l.left l.j l.to l.from)) (l.at + length (left_t l.left l.j l.to l.from)) × (length l.list ≡ length l.initial.list)

abbrev pub decreases-loop-i : goal.decreases-loop-i
decreases-loop-i l = l.to - l.i
