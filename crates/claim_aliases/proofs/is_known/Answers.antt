-- `claim_aliases::is_known` meets its contract.
use Rattle.claim_aliases.proofs.Ways.{knowing}
use Rattle.claim_aliases.proofs.is_known.Goals as goal

pub returns : goal.returns
returns c = search knowing
