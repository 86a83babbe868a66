-- `write::own::write_operand` meets its contract.
use Rattle.write.proofs.LawsOwn.{ways}
use Rattle.write.proofs.LawsWithin.{serves}
use Rattle.write.proofs.own.write_operand.Goals as goal

pub returns-in_default : goal.returns-in_default
returns-in_default c = search ways

pub write_ref-requires : goal.write_ref-requires
write_ref-requires c = search serves

pub returns : goal.returns
returns c = search ways
