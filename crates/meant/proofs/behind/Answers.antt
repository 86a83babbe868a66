-- `meant::behind` meets its contract.
use Rattle.meant.proofs.Ways.{root_ways}
use Rattle.meant.proofs.behind.Goals as goal

pub returns-then-is_root : goal.returns-then-is_root
returns-then-is_root c = search root_ways

pub returns : goal.returns
returns c = search root_ways
