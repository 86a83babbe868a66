-- `ferhevok::told::wnt_resolve_told` meets its contract.
use Rattle.ferhevok.proofs.Tells.{told_ways}
use Rattle.ferhevok.proofs.told.wnt_resolve_told.Goals as goal

pub returns-then-told-lt-TOLD : goal.returns-then-told-lt-TOLD
returns-then-told-lt-TOLD c = search told_ways

pub returns : goal.returns
returns c = search told_ways
