-- `mark::mark_outer` meets its contract.
use Rattle.mark.proofs.Ways.{mark_ways}
use Rattle.mark.proofs.mark_outer.Goals as goal

pub returns-in-Some : goal.returns-in-Some
returns-in-Some c = search mark_ways

pub returns-in-None : goal.returns-in-None
returns-in-None c = search mark_ways
