-- `index::find` meets its contract.
use Rattle.index.proofs.Laws.{says}
use Rattle.index.proofs.find.Goals as goal

pub returns : goal.returns
returns c = search says
