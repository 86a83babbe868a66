-- `claim_reach::alias::outer_at` meets its contract.
use Rattle.claim_reach.proofs.Ways.{rows_of_alias}
use Rattle.claim_reach.proofs.alias.outer_at.Goals as goal

pub returns-then-code_of-ne-OUTER_ALIAS : goal.returns-then-code_of-ne-OUTER_ALIAS
returns-then-code_of-ne-OUTER_ALIAS c = search rows_of_alias

pub returns : goal.returns
returns c = search rows_of_alias
