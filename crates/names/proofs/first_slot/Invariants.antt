-- `names::first_slot` meets its contract. The invariant: the search from here answers what the search from the start does.
use mathlib.Core.Path.{◌≡◌}
use Prim.Native.Nat.{◌-◌}
use Rattle.names.specs.Table.{between, first_slot}
use Rattle.names.proofs.first_slot.Given as goal

abbrev pub invariant-loop-i : goal.invariant-loop-i
invariant-loop-i l = first_slot (between l.i l.to l.table) l.space l.name ≡ first_slot (between l.from l.to l.table) l.space l.name

abbrev pub decreases-loop-i : goal.decreases-loop-i
decreases-loop-i l = l.end - l.i
