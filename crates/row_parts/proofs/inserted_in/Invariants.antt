-- `row_parts::inserted_in` meets its contract. The invariant: the count from here on is the whole count.
use mathlib.Core.Path.{◌≡◌}
use Prim.Native.Nat.{◌-◌, ◌≤◌}
use Rattle.row_parts.specs.Parts.{inserted_from, inserted_in}
use Rattle.row_parts.proofs.inserted_in.Given as goal

abbrev pub invariant-loop-row : goal.invariant-loop-row
invariant-loop-row l = (inserted_from l.form l.row (l.rows - l.row) l.count ≡ inserted_in l.form) × (l.count ≤ l.row)
