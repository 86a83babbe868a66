-- `mark::mark_row` meets its contract.
use Rattle.mark.proofs.Ways.{mark_ways}
use Rattle.mark.proofs.mark_row.Goals as goal

pub returns-then-p-eq-REF : goal.returns-then-p-eq-REF
returns-then-p-eq-REF c = search mark_ways

pub returns-else-p-eq-REF : goal.returns-else-p-eq-REF
returns-else-p-eq-REF c = search mark_ways

pub returns-else-at : goal.returns-else-at
returns-else-at c = search mark_ways
