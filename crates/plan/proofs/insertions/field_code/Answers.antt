-- `plan::insertions::field_code` meets its contract.
use Rattle.plan.proofs.InsertionsLaws.{ways}
use Rattle.plan.proofs.insertions.field_code.Goals as goal

pub returns-in_default : goal.returns-in_default
returns-in_default c = search ways

pub returns : goal.returns
returns c = search ways
