-- `claim_reach::alias::export_code` meets its contract.
use Rattle.claim_reach.proofs.Ways.{rows_of_alias}
use Rattle.claim_reach.proofs.alias.export_code.Goals as goal

pub returns-then-space-le-LAST_CORE : goal.returns-then-space-le-LAST_CORE
returns-then-space-le-LAST_CORE c = search rows_of_alias

pub returns-else-space-le-LAST_CORE : goal.returns-else-space-le-LAST_CORE
returns-else-space-le-LAST_CORE c = search rows_of_alias
