-- `write::own::place_of` meets its contract.
use Rattle.write.proofs.LawsOwn.{ways}
use Rattle.write.proofs.own.place_of.Goals as goal

pub returns-in_default : goal.returns-in_default
returns-in_default c = search ways

pub returns : goal.returns
returns c = search ways
