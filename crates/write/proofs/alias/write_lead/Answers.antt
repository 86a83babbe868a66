-- `write::alias::write_lead` meets its contract.
use Rattle.write.proofs.LawsAlias.{ways}
use Rattle.write.proofs.alias.write_lead.Goals as goal

pub returns : goal.returns
returns c = search ways
