-- `write::own::outer_numbers` meets its contract.
use Rattle.write.proofs.LawsOwn.{ways}
use Rattle.write.proofs.own.outer_numbers.Goals as goal

pub returns-in-Name : goal.returns-in-Name
returns-in-Name c = search ways

pub returns-in-Number-at : goal.returns-in-Number-at
returns-in-Number-at c = search ways

pub returns-in-Name-at : goal.returns-in-Name-at
returns-in-Name-at c = search ways
