-- `write::alias::write_alias` meets its contract.
use Rattle.write.proofs.LawsAlias.{ways}
use Rattle.write.proofs.LawsWithin.{serves}
use Rattle.write.proofs.alias.write_alias.Goals as goal

pub number_in-requires : goal.number_in-requires
number_in-requires c = search serves

pub returns-in-Err-Late : goal.returns-in-Err-Late
returns-in-Err-Late c = search ways

pub returns-in-Err-Nothing : goal.returns-in-Err-Nothing
returns-in-Err-Nothing c = search ways

pub returns-in-Ok : goal.returns-in-Ok
returns-in-Ok c = search ways

pub returns-then-not-is_inserted : goal.returns-then-not-is_inserted
returns-then-not-is_inserted c = search ways

pub returns-in-Number : goal.returns-in-Number
returns-in-Number c = search ways

pub returns-else-not-is_inserted : goal.returns-else-not-is_inserted
returns-else-not-is_inserted c = search ways
