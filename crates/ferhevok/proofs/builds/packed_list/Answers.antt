-- `ferhevok::builds::packed_list` meets its contract.
use Rattle.ferhevok.proofs.Lists.{lists}
use Rattle.ferhevok.proofs.builds.packed_list.Goals as goal

pub returns-in-Ok : goal.returns-in-Ok
returns-in-Ok c = search lists

pub returns-in-Err : goal.returns-in-Err
returns-in-Err c = search lists
