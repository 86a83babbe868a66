-- `write::own::ref_number` meets its contract.
use Rattle.write.proofs.LawsOwn.{ways}
use Rattle.write.proofs.own.ref_number.Goals as goal

pub returns-then-r-gt0 : goal.returns-then-r-gt0
returns-then-r-gt0 c = search ways

pub returns-in-Number : goal.returns-in-Number
returns-in-Number c = search ways

pub returns-in-Name : goal.returns-in-Name
returns-in-Name c = search ways
