-- `index::search` meets its contract.
use Rattle.index.specs.Search.{Follows}
use Rattle.index.proofs.search.Given as goal

abbrev pub invariant-loop-p : goal.invariant-loop-p
invariant-loop-p l = Follows l.table l.index l.from l.to l.space l.name l.p l.found

abbrev pub decreases-loop-p : goal.decreases-loop-p
decreases-loop-p l = l.left
