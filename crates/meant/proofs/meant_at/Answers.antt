-- `meant::meant_at` meets its contract.
use Rattle.meant.proofs.Ways.{name_ways}
use Rattle.meant.proofs.meant_at.Goals as goal

pub returns : goal.returns
returns c = search name_ways
