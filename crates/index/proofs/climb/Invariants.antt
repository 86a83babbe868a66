-- `index::climb` meets its contract.
use Rattle.index.specs.Search.{Climbs}
use Rattle.index.proofs.climb.Given as goal

abbrev pub invariant-loop-p : goal.invariant-loop-p
invariant-loop-p l = Climbs l.table l.index l.scopes l.depth l.space l.name l.p

abbrev pub decreases-loop-p : goal.decreases-loop-p
decreases-loop-p l = l.left
