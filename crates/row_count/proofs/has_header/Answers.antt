-- `row_count::has_header` meets its contract.
use Rattle.row_count.proofs.CountLaws.{count_ways}
use Rattle.row_count.proofs.has_header.Goals as goal

pub returns : goal.returns
returns c = search count_ways
