-- `claim_reach::alias::reached` meets its contract.
use Rattle.claim_reach.proofs.Ways.{rows_of_alias}
use Rattle.claim_reach.proofs.alias.reached.Goals as goal

pub returns : goal.returns
returns c = search rows_of_alias
