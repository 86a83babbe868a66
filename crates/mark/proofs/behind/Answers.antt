-- `mark::behind` meets its contract.
use Rattle.mark.proofs.Ways.{step_ways}
use Rattle.mark.proofs.behind.Goals as goal

pub returns-then-row-count : goal.returns-then-row-count
returns-then-row-count c = search step_ways

pub returns-else-row-count : goal.returns-else-row-count
returns-else-row-count c = search step_ways
