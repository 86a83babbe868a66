-- `scope_rows::scope_of` meets its contract. The invariant: the way up from here ends where the way up from the row does.
use mathlib.Core.Path.{◌≡◌}
use Prim.Native.Nat.{◌+◌, ◌≤◌}
use Rattle.scope_rows.specs.Levels.{scope_above, scope_of}
use Rattle.scope_rows.proofs.scope_of.Given as goal

abbrev pub invariant-loop-above : goal.invariant-loop-above
invariant-loop-above l = (scope_above l.form l.above l.level ≡ scope_of l.form l.row) × (l.level + l.above ≤ l.row)
