-- `plan::enter::first_place` meets its contract.
use Rattle.plan.proofs.EnterLaws.{ways}
use Rattle.plan.proofs.enter.first_place.Goals as goal

pub returns-then-name-eq0 : goal.returns-then-name-eq0
returns-then-name-eq0 c = search ways

pub find-requires : goal.find-requires
find-requires c = search ways

pub returns : goal.returns
returns c = search ways
