-- `bound::next_reference` meets its contract. The invariant: from here it answers what it does from the start.
use mathlib.Core.Path.{◌≡◌}
use Prim.Native.Nat.{◌-◌}
use Rattle.bound.specs.Bound.{next_from, next_reference}
use Rattle.bound.proofs.next_reference.Given as goal

abbrev pub invariant-loop-row : goal.invariant-loop-row
invariant-loop-row l = next_from l.form l.place l.row (l.rows - l.row) ≡ next_reference l.form l.place l.from
