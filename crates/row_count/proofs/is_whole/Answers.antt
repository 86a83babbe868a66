-- `row_count::is_whole` meets its contract.
use Rattle.row_count.proofs.CountLaws.{count_ways}
use Rattle.row_count.proofs.is_whole.Goals as goal

pub returns : goal.returns
returns c = search count_ways
