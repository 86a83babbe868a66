-- `mark::copy_rows` meets its contract.
use Rattle.mark.proofs.Ways.{copies_ways}
use Rattle.mark.proofs.copy_rows.Goals as goal

pub loop-i-preserved : goal.loop-i-preserved
loop-i-preserved c = search copies_ways

pub returns : goal.returns
returns c = search copies_ways
