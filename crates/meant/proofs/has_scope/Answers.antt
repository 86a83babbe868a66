-- `meant::has_scope` meets its contract.
use Rattle.meant.proofs.Ways.{root_ways}
use Rattle.meant.proofs.has_scope.Goals as goal

pub returns : goal.returns
returns c = search root_ways
