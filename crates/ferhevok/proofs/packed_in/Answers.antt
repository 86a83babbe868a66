-- `ferhevok::packed_in` meets its contract.
use Rattle.ferhevok.proofs.Packs.{packs}
use Rattle.ferhevok.proofs.packed_in.Goals as goal

pub returns-in-Ok : goal.returns-in-Ok
returns-in-Ok c = search packs

pub returns-in-Err : goal.returns-in-Err
returns-in-Err c = search packs
