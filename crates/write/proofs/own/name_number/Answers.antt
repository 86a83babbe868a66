-- `write::own::name_number` meets its contract.
use Rattle.write.proofs.LawsOwn.{ways}
use Rattle.write.proofs.own.name_number.Goals as goal

pub returns-then-is_inserted : goal.returns-then-is_inserted
returns-then-is_inserted c = search ways

pub returns : goal.returns
returns c = search ways

pub returns-in_err-declared : goal.returns-in_err-declared
returns-in_err-declared c = search ways
