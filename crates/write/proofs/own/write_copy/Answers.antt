-- `write::own::write_copy` meets its contract.
use Rattle.write.proofs.LawsOwn.{ways}
use Rattle.write.proofs.own.write_copy.Goals as goal

pub returns : goal.returns
returns c = search ways
