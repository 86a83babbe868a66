-- `convert::run::lacks` meets its contract.
use Rattle.convert.proofs.Ways.{place_ways}
use Rattle.convert.proofs.run.lacks.Goals as goal

pub returns : goal.returns
returns c = search place_ways
