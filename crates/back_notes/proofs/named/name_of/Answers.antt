-- `back_notes::named::name_of` meets its contract.
use Rattle.back_notes.proofs.Ways.{naming}
use Rattle.back_notes.proofs.named.name_of.Goals as goal

pub returns : goal.returns
returns c = search naming
