-- `write::own::scope_out` meets its contract.
use Rattle.write.proofs.LawsOwn.{ways}
use Rattle.write.proofs.own.scope_out.Goals as goal

pub returns : goal.returns
returns c = search ways

pub returns-in_default : goal.returns-in_default
returns-in_default c = search ways
