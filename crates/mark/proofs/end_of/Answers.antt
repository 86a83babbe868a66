-- `mark::end_of` meets its contract.
use Rattle.mark.proofs.Ways.{step_ways}
use Rattle.mark.proofs.end_of.Goals as goal

pub returns-else-row-ends : goal.returns-else-row-ends
returns-else-row-ends c = search step_ways
