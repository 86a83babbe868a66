-- `mark::step` meets its contract.
use Rattle.mark.proofs.Ways.{step_ways}
use Rattle.mark.proofs.step.Goals as goal

pub returns-then-p-eq-FIELD : goal.returns-then-p-eq-FIELD
returns-then-p-eq-FIELD c = search step_ways

pub returns-then-p-eq-OPEN : goal.returns-then-p-eq-OPEN
returns-then-p-eq-OPEN c = search step_ways

pub returns : goal.returns
returns c = search step_ways
