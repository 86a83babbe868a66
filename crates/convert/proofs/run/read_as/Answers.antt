-- `convert::run::read_as` meets its contract.
use Rattle.convert.proofs.Ways.{rows_ways}
use Rattle.convert.proofs.run.read_as.Goals as goal

pub returns : goal.returns
returns c = search rows_ways
