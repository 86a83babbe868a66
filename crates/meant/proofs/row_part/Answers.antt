-- `meant::row_part` meets its contract.
use Rattle.meant.proofs.Ways.{part_ways}
use Rattle.meant.proofs.row_part.Goals as goal

pub returns-then-e-part : goal.returns-then-e-part
returns-then-e-part c = search part_ways

pub returns : goal.returns
returns c = search part_ways
