-- `mark::rename` meets its contract.
use Rattle.mark.proofs.Ways.{insert_ways}
use Rattle.mark.proofs.rename.Goals as goal

pub returns : goal.returns
returns c = search insert_ways
