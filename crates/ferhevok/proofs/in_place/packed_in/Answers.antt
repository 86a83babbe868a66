-- `ferhevok::in_place::packed_in` meets its contract.
use Rattle.ferhevok.proofs.Packs.{packs_mending}
use Rattle.ferhevok.proofs.in_place.packed_in.Goals as goal

pub returns-in-Ok : goal.returns-in-Ok
returns-in-Ok c = search packs_mending

pub returns-in-Err : goal.returns-in-Err
returns-in-Err c = search packs_mending
