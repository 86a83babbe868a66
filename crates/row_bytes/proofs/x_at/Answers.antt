-- `row_bytes::x_at` meets its contract.
use Rattle.row_bytes.proofs.PartLaws.{part_ways}
use Rattle.row_bytes.proofs.x_at.Goals as goal

pub returns : goal.returns
returns c = search part_ways
