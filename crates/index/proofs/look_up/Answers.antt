-- `index::look_up` meets its contract.
use Rattle.index.proofs.Laws.{says}
use Rattle.index.proofs.look_up.Goals as goal

pub returns : goal.returns
returns c = search says
