-- `write::alias::write_outer` meets its contract.
use Rattle.write.proofs.LawsAlias.{ways}
use Rattle.write.proofs.alias.write_outer.Goals as goal

pub returns : goal.returns
returns c = search ways
