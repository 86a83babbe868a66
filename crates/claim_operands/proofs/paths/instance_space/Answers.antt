-- `claim_operands::paths::instance_space` meets its contract.
use Rattle.claim_operands.proofs.Ways.{instances}
use Rattle.claim_operands.proofs.paths.instance_space.Goals as goal

pub returns-then-space-le-CORE_INSTANCE : goal.returns-then-space-le-CORE_INSTANCE
returns-then-space-le-CORE_INSTANCE c = search instances

pub returns-else-space-le-CORE_INSTANCE : goal.returns-else-space-le-CORE_INSTANCE
returns-else-space-le-CORE_INSTANCE c = search instances
