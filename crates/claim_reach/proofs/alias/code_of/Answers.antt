-- `claim_reach::alias::code_of` meets its contract.
use Rattle.claim_reach.proofs.Ways.{rows_of_alias}
use Rattle.claim_reach.proofs.alias.code_of.Goals as goal

pub returns-then-i-eq0 : goal.returns-then-i-eq0
returns-then-i-eq0 c = search rows_of_alias

pub returns : goal.returns
returns c = search rows_of_alias
