-- `text::store::put_number` meets its contract. The invariant: the bytes that are left to store make what all of them make.
use mathlib.Core.Path.{◌≡◌}
use Prim.Native.Nat.{◌+◌, ◌-◌, ◌≤◌}
use lib.ListN.{length}
use lib.Seq.{sets}
use Rattle.rules.specs.Rows.{bytes}
use Rattle.text.proofs.store.put_number.Given as goal

abbrev pub invariant-loop-i : goal.invariant-loop-i
invariant-loop-i l = (sets l.out (l.at + l.i) (bytes (l.count - l.i) l.left) ≡ sets l.initial.out l.at (bytes l.count l.number)) × (length l.out ≡ length l.initial.out) × (l.i ≤ l.count)

abbrev pub decreases-loop-i : goal.decreases-loop-i
decreases-loop-i l = l.count - l.i
