-- `meant::is_root` meets its contract.
use Rattle.meant.proofs.Ways.{root_ways}
use Rattle.meant.proofs.is_root.Goals as goal

pub returns-then-count-eq0 : goal.returns-then-count-eq0
returns-then-count-eq0 c = search root_ways

pub returns-else-count-eq0 : goal.returns-else-count-eq0
returns-else-count-eq0 c = search root_ways

pub returns-in-Named : goal.returns-in-Named
returns-in-Named c = search root_ways

pub returns-in-Declaring : goal.returns-in-Declaring
returns-in-Declaring c = search root_ways
