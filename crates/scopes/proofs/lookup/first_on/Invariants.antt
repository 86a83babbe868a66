-- `scopes::lookup::first_on` meets its contract. The invariant: the first row that is sought, above the next row on the chain or found below.
use mathlib.Core.Path.{◌≡◌}
use Prim.Native.Nat.{◌≤◌}
use Rattle.row_parts.specs.Parts.{rows_in}
use Rattle.scopes.specs.Tables.{chain_of, last_above, kind_of, sought_by, first_above}
use Rattle.scopes.proofs.lookup.first_on.Given as goal

abbrev pub invariant-loop-next : goal.invariant-loop-next
invariant-loop-next l = (first_above l.form l.scope l.space l.key l.next l.first ≡ first_above l.form l.scope l.space l.key (rows_in l.form) 0) × (l.next ≡ last_above l.form (kind_of l.key) (chain_of l.scope l.space (sought_by l.key)) l.next) × (l.next ≤ rows_in l.form) × (l.first ≤ rows_in l.form)

abbrev pub decreases-loop-next : goal.decreases-loop-next
decreases-loop-next l = l.next
