-- `meant::outer_wanted` meets its contract.
use Rattle.meant.proofs.Ways.{root_ways}
use Rattle.meant.proofs.outer_wanted.Goals as goal

pub returns-then-e-eq1 : goal.returns-then-e-eq1
returns-then-e-eq1 c = search root_ways

pub returns-else-e-eq1 : goal.returns-else-e-eq1
returns-else-e-eq1 c = search root_ways
