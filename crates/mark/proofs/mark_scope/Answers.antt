-- `mark::mark_scope` meets its contract.
use Rattle.mark.proofs.Ways.{scope_ways}
use Rattle.mark.proofs.mark_scope.Goals as goal

pub returns : goal.returns
returns c = search scope_ways
