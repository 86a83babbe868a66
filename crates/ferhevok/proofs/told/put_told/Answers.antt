-- `ferhevok::told::put_told` meets its contract.
use Rattle.ferhevok.proofs.Tells.{tell_ways}
use Rattle.ferhevok.proofs.told.put_told.Goals as goal

pub returns-then-told-lt-TOLD : goal.returns-then-told-lt-TOLD
returns-then-told-lt-TOLD c = search tell_ways

pub returns : goal.returns
returns c = search tell_ways
