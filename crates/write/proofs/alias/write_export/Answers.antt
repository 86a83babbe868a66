-- `write::alias::write_export` meets its contract.
use Rattle.write.proofs.LawsAlias.{ways}
use Rattle.write.proofs.alias.write_export.Goals as goal

pub returns : goal.returns
returns c = search ways
