-- `plan::insertions::bump` meets its contract.
use Rattle.plan.proofs.InsertionsLaws.{ways}
use Rattle.plan.proofs.insertions.bump.Goals as goal

pub returns-then-counts-s : goal.returns-then-counts-s
returns-then-counts-s c = search ways

pub returns : goal.returns
returns c = search ways
