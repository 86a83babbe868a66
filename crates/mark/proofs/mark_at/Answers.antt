-- `mark::mark_at` meets its contract.
use Rattle.mark.proofs.Ways.{scopes_ways}
use Rattle.mark.proofs.mark_at.Goals as goal

pub returns-then-parts_at-eq-OPEN : goal.returns-then-parts_at-eq-OPEN
returns-then-parts_at-eq-OPEN c = search scopes_ways

pub returns : goal.returns
returns c = search scopes_ways
