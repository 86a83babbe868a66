-- `mark::is_own` meets its contract.
use Rattle.mark.proofs.Ways.{insert_ways}
use Rattle.mark.proofs.is_own.Goals as goal

pub returns : goal.returns
returns c = search insert_ways
