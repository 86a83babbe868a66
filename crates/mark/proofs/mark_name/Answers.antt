-- `mark::mark_name` meets its contract.
use Rattle.mark.proofs.Ways.{mark_ways}
use Rattle.mark.proofs.mark_name.Goals as goal

pub returns-then-is_own : goal.returns-then-is_own
returns-then-is_own c = search mark_ways

pub returns : goal.returns
returns c = search mark_ways
