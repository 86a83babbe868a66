-- `index::met_in` meets its contract.
use Rattle.index.proofs.Laws.{ways}
use Rattle.index.proofs.met_in.Goals as goal

pub returns-in_err-number : goal.returns-in_err-number
returns-in_err-number c = search ways

pub returns : goal.returns
returns c = search ways
