-- `row_parts::field_of` meets its contract. The invariant: the search from here answers what the search from the start does.
use mathlib.Core.Path.{◌≡◌}
use Rattle.row_parts.specs.Parts.{field_of}
use Rattle.row_parts.proofs.field_of.Given as goal

abbrev pub invariant-loop-above : goal.invariant-loop-above
invariant-loop-above l = field_of l.form l.above ≡ field_of l.form l.row
