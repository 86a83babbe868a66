-- `plan::enter::placed` meets its contract.
use Rattle.plan.proofs.EnterLaws.{ways}
use Rattle.plan.proofs.enter.placed.Goals as goal

pub returns : goal.returns
returns c = search ways
