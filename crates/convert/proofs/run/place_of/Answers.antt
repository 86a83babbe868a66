-- `convert::run::place_of` meets its contract.
use Rattle.convert.proofs.Ways.{place_ways}
use Rattle.convert.proofs.run.place_of.Goals as goal

pub returns-then-version-eq1 : goal.returns-then-version-eq1
returns-then-version-eq1 c = search place_ways

pub returns-then-from-eq2 : goal.returns-then-from-eq2
returns-then-from-eq2 c = search place_ways

pub returns-else-from-eq2 : goal.returns-else-from-eq2
returns-else-from-eq2 c = search place_ways
