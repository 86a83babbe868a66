-- `claim_reach::alias::through_outer` meets its contract.
use Rattle.claim_reach.proofs.Ways.{throughs}
use Rattle.claim_reach.proofs.alias.through_outer.Goals as goal

pub returns-in_err-row : goal.returns-in_err-row
returns-in_err-row c = search throughs

pub returns : goal.returns
returns c = search throughs
