-- `meanings::chains::number_on` meets its contract. The invariant: as many are counted above the next row on the chain as above the row.
use mathlib.Core.Path.{◌≡◌}
use Prim.Native.Nat.{◌≤◌}
use Rattle.scopes.specs.Tables.{count_above, count_of, last_above}
use Rattle.meanings.proofs.chains.number_on.Given as goal

abbrev pub invariant-loop-next : goal.invariant-loop-next
invariant-loop-next l = (count_above l.form l.scope l.space l.next ≡ count_of l.form l.row) × (l.next ≡ last_above l.form 0 l.chain l.next) × (l.next ≤ l.row)

abbrev pub decreases-loop-next : goal.decreases-loop-next
decreases-loop-next l = l.next
