-- `meant::in_scope` meets its contract.
use Rattle.meant.proofs.Ways.{found_ways}
use Rattle.meant.proofs.in_scope.Goals as goal

pub returns-in_err-row : goal.returns-in_err-row
returns-in_err-row c = search found_ways

pub returns : goal.returns
returns c = search (found_ways, c.in_ok-row.was)
