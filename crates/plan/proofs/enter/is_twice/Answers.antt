-- `plan::enter::is_twice` meets its contract.
use Rattle.plan.proofs.EnterLaws.{ways}
use Rattle.plan.proofs.enter.is_twice.Goals as goal

pub returns-then-name-eq0 : goal.returns-then-name-eq0
returns-then-name-eq0 c = search ways

pub find-found-requires : goal.find-found-requires
find-found-requires c = search ways

pub returns : goal.returns
returns c = search ways
