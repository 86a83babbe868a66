-- `scope_rows::number_of` meets its contract. The invariant: the count from here on is the whole count.
use mathlib.Core.Path.{◌≡◌}
use Prim.Native.Nat.{◌-◌, ◌≤◌}
use Rattle.scope_rows.specs.Levels.{number_from, number_of}
use Rattle.scope_rows.proofs.number_of.Given as goal

abbrev pub invariant-loop-row : goal.invariant-loop-row
invariant-loop-row l = (number_from l.form l.space l.row (l.decl - l.row) l.level l.number ≡ number_of l.form l.decl) × (l.level ≤ l.row) × (l.number ≤ l.row)
