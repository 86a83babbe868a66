-- `plan::insertions::referring` meets its contract.
use Rattle.plan.proofs.InsertionsLaws.{ways}
use Rattle.plan.proofs.insertions.referring.Goals as goal

pub row_number-requires : goal.row_number-requires
row_number-requires c = search ways

pub returns : goal.returns
returns c = search ways
