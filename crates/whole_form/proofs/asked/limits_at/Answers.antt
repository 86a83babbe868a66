-- `whole_form::asked::limits_at` meets its contract.
use Rattle.whole_form.proofs.Ways.{asked_ways}
use Rattle.whole_form.proofs.asked.limits_at.Goals as goal

pub returns-then-claim : goal.returns-then-claim
returns-then-claim c = search asked_ways

pub returns-else-claim : goal.returns-else-claim
returns-else-claim c = search asked_ways
