-- `names::outward` meets its contract. Each loop's invariant: its twin from here is its twin from where it began.
use mathlib.Core.Path.{◌≡◌}
use Prim.Native.Nat.{◌-◌, ◌≤◌}
use lib.ListN.{length}
use Rattle.names.specs.Table.{between, first_slot, past_of, scope_at, slots_in, met_from}
use Rattle.names.proofs.outward.Given as goal

abbrev pub invariant-loop-i : goal.invariant-loop-i
invariant-loop-i l = let to = past_of (scope_at l.scopes l.left) in
    (first_slot (between l.i to l.table) l.space l.name ≡ first_slot (slots_in l.table (scope_at l.scopes l.left)) l.space l.name) × (l.end ≡ to - (to - length l.table))

abbrev pub decreases-loop-i : goal.decreases-loop-i
decreases-loop-i l = l.end - l.i

abbrev pub invariant-scopes : goal.invariant-scopes
invariant-scopes l = (met_from l.table l.scopes l.depth l.left l.space l.name ≡ met_from l.table l.scopes l.depth l.depth l.space l.name) × (l.left ≤ l.depth)

abbrev pub decreases-scopes : goal.decreases-scopes
decreases-scopes l = l.left
