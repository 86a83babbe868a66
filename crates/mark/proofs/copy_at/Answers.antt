-- `mark::copy_at` meets its contract.
use Rattle.mark.proofs.Ways.{copies_ways}
use Rattle.mark.proofs.copy_at.Goals as goal

pub returns : goal.returns
returns c = search copies_ways
