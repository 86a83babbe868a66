-- `plan::insertions::is_late_out` meets its contract.
use Rattle.plan.proofs.InsertionsLaws.{ways}
use Rattle.plan.proofs.insertions.is_late_out.Goals as goal

pub returns-then-not-plan : goal.returns-then-not-plan
returns-then-not-plan c = search ways

pub returns : goal.returns
returns c = search ways
