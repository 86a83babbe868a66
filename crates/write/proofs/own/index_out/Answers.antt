-- `write::own::index_out` meets its contract.
use Rattle.write.proofs.LawsOwn.{ways}
use Rattle.write.proofs.LawsWithin.{serves}
use Rattle.write.proofs.own.index_out.Goals as goal

pub returns-then-depth-far : goal.returns-then-depth-far
returns-then-depth-far c = search ways

pub number_in-requires : goal.number_in-requires
number_in-requires c = search serves

pub returns-in-Ok : goal.returns-in-Ok
returns-in-Ok c = search ways

pub returns-in-Err-Late : goal.returns-in-Err-Late
returns-in-Err-Late c = search ways

pub returns-in-Err-Nothing : goal.returns-in-Err-Nothing
returns-in-Err-Nothing c = search ways
