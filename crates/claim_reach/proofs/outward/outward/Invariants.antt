-- `claim_reach::outward::outward` meets its contract.
use Prim.Native.Nat.{◌≤◌}
use lib.ListN.{take}
use Rattle.claim_scopes.specs.Open.{open_in}
use Rattle.claim_reach.specs.Outward.{reach_out_t}
use Rattle.claim_reach.proofs.Ways.{Goes}
use Rattle.claim_reach.proofs.outward.outward.Given as goal

abbrev pub invariant-loop-left : goal.invariant-loop-left
invariant-loop-left l = Goes (take l.used l.table) l.scopes l.depth l.left l.space l.name (reach_out_t (take l.used l.table) (open_in l.scopes l.depth) 1 l.space l.name) × (l.left ≤ l.depth)

abbrev pub decreases-loop-left : goal.decreases-loop-left
decreases-loop-left l = l.left
