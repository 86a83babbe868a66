-- `row_bytes::code_at` meets its contract.
use Rattle.row_bytes.proofs.PartLaws.{part_ways}
use Rattle.row_bytes.proofs.code_at.Goals as goal

pub returns : goal.returns
returns c = search part_ways
