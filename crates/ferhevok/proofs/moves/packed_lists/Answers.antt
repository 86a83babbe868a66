-- `ferhevok::moves::packed_lists` meets its contract.
use Rattle.ferhevok.proofs.Packs.{packs_lists}
use Rattle.ferhevok.proofs.moves.packed_lists.Goals as goal

pub returns-in-Ok : goal.returns-in-Ok
returns-in-Ok c = search packs_lists

pub returns-in-Err : goal.returns-in-Err
returns-in-Err c = search packs_lists
