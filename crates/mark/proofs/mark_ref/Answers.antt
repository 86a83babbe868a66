-- `mark::mark_ref` meets its contract.
use Rattle.mark.proofs.Ways.{mark_ways}
use Rattle.mark.proofs.mark_ref.Goals as goal

pub returns-then-p-gt0 : goal.returns-then-p-gt0
returns-then-p-gt0 c = search mark_ways

pub returns-then-p-eq0 : goal.returns-then-p-eq0
returns-then-p-eq0 c = search mark_ways

pub returns : goal.returns
returns c = search mark_ways
