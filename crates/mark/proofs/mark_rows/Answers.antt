-- `mark::mark_rows` meets its contract.
use Rattle.mark.proofs.Ways.{rows_ways}
use Rattle.mark.proofs.mark_rows.Goals as goal

pub returns : goal.returns
returns c = search rows_ways
