-- `claim_operands::paths::is_instance` meets its contract.
use Rattle.claim_operands.proofs.Ways.{instances}
use Rattle.claim_operands.proofs.paths.is_instance.Goals as goal

pub returns-then-q-eq0 : goal.returns-then-q-eq0
returns-then-q-eq0 c = search instances

pub returns : goal.returns
returns c = search instances
