-- `write::alias::instances_of` meets its contract.
use Rattle.kit.proofs.Laws.{picks}
use Rattle.write.proofs.alias.instances_of.Goals as goal

pub returns-then-space-le-CORE_INSTANCE_WIDE : goal.returns-then-space-le-CORE_INSTANCE_WIDE
returns-then-space-le-CORE_INSTANCE_WIDE c = search picks

pub returns-else-space-le-CORE_INSTANCE_WIDE : goal.returns-else-space-le-CORE_INSTANCE_WIDE
returns-else-space-le-CORE_INSTANCE_WIDE c = search picks
