-- `index::scope_of` meets its contract.
use mathlib.Core.Path.{◌≡◌}
use Prim.Native.Nat.{◌≤◌}
use Rattle.names.specs.Table.{met_from}
use Rattle.index.specs.Indexed.{Around}
use Rattle.index.specs.Search.{LastIn}
use Rattle.index.proofs.scope_of.Given as goal

abbrev pub invariant-loop-left : goal.invariant-loop-left
invariant-loop-left l = (l.left ≤ l.depth) × (met_from l.table l.scopes l.depth l.left l.space l.name ≡ met_from l.table l.scopes l.depth l.depth l.space l.name) × Around l.table l.index l.scopes l.left × LastIn l.table l.index l.scopes l.left l.space l.name l.p

abbrev pub decreases-loop-left : goal.decreases-loop-left
decreases-loop-left l = l.left
