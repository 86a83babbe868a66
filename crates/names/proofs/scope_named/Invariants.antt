-- `names::scope_named` meets its contract.
use mathlib.Core.Path.{◌≡◌}
use Prim.Native.Nat.{◌≤◌}
use Rattle.names.specs.Table.{named_from}
use Rattle.names.proofs.scope_named.Given as goal

abbrev pub invariant-loop-left : goal.invariant-loop-left
invariant-loop-left l = (named_from l.scopes l.depth l.left l.name ≡ named_from l.scopes l.depth l.depth l.name) × (l.left ≤ l.depth)

abbrev pub decreases-loop-left : goal.decreases-loop-left
decreases-loop-left l = l.left
