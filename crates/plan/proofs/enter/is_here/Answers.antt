-- `plan::enter::is_here` meets its contract.
use Rattle.plan.proofs.EnterLaws.{ways}
use Rattle.plan.proofs.enter.is_here.Goals as goal

pub find-requires : goal.find-requires
find-requires c = search ways

pub returns : goal.returns
returns c = search ways
