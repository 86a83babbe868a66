-- `write::alias::number_in` meets its contract.
use Rattle.write.proofs.LawsAlias.{ways}
use Rattle.write.proofs.alias.number_in.Goals as goal

pub returns-in-Number : goal.returns-in-Number
returns-in-Number c = search ways

pub returns-in-Name : goal.returns-in-Name
returns-in-Name c = search ways
