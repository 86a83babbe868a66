-- `plan::insertions::is_late_here` meets its contract.
use Rattle.plan.proofs.InsertionsLaws.{ways}
use Rattle.plan.proofs.insertions.is_late_here.Goals as goal

pub returns-then-not-plan : goal.returns-then-not-plan
returns-then-not-plan c = search ways

pub returns : goal.returns
returns c = search ways
