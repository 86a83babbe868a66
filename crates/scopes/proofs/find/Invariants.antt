-- `scopes::find` meets its contract. The invariant: the search from here answers what the search from the start does.
use mathlib.Core.Path.{◌≡◌}
use Prim.Native.Nat.{◌-◌, ◌≤◌}
use Rattle.scopes.specs.Scopes.{find_from, find_in}
use Rattle.scopes.proofs.find.Given as goal

abbrev pub invariant-loop-row : goal.invariant-loop-row
invariant-loop-row l = (find_from l.form l.space l.key l.row (l.rows - l.row) l.level l.number ≡ find_in l.form l.scope l.space l.key) × (l.level ≤ l.row) × (l.number ≤ l.row)

abbrev pub decreases-loop-row : goal.decreases-loop-row
decreases-loop-row l = l.rows - l.row
