-- `write::alias::export_code` meets its contract.
use Rattle.kit.proofs.Laws.{picks}
use Rattle.write.proofs.alias.export_code.Goals as goal

pub returns-then-of-eq-CORE_INSTANCE : goal.returns-then-of-eq-CORE_INSTANCE
returns-then-of-eq-CORE_INSTANCE c = search picks

pub returns-else-of-eq-CORE_INSTANCE : goal.returns-else-of-eq-CORE_INSTANCE
returns-else-of-eq-CORE_INSTANCE c = search picks
