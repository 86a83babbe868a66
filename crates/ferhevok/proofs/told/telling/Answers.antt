-- `ferhevok::told::telling` meets its contract.
use Rattle.ferhevok.proofs.Packs.{packs}
use Rattle.ferhevok.proofs.Tells.{tell_ways}
use Rattle.ferhevok.proofs.told.telling.Goals as goal

pub returns-in-Ok : goal.returns-in-Ok
returns-in-Ok c = (search packs, search tell_ways)

pub returns-in-Err : goal.returns-in-Err
returns-in-Err c = (search packs, search tell_ways)
