-- `write::own::write_decl` meets its contract.
use Rattle.write.proofs.LawsOwn.{ways}
use Rattle.write.proofs.own.write_decl.Goals as goal

pub returns : goal.returns
returns c = search ways
