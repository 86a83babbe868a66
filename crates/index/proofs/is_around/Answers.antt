-- `index::is_around` meets its contract.
use Rattle.index.proofs.Storey.{climbs}
use Rattle.index.proofs.is_around.Goals as goal

pub returns : goal.returns
returns c = search climbs
