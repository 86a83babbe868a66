-- `diff::list::fields_size` meets its contract.
use Prim.Native.Nat.{◌-◌, ◌*◌, ◌/◌, ◌≤◌}
use lib.ListN.{length}
use Rattle.diff.proofs.Ways.{SizeGoes}
use Rattle.diff.specs.Written.{size_t}
use Rattle.diff.proofs.list.fields_size.Given as goal

abbrev pub invariant-loop-i : goal.invariant-loop-i
invariant-loop-i l = SizeGoes l.rows l.carried l.to l.i l.size (size_t l.rows l.carried l.to l.from (length l.rows / 16)) × (l.from ≤ l.i) × (l.i - l.from ≤ length l.rows / 16 - l.from) × (l.size ≤ 36 * (l.i - l.from))

abbrev pub decreases-loop-i : goal.decreases-loop-i
decreases-loop-i l = l.to - l.i
