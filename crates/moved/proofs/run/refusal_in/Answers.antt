-- `moved::run::refusal_in` meets its contract.
use Rattle.moved.proofs.Laws.{ways}
use Rattle.moved.proofs.run.refusal_in.Goals as goal

pub returns-in-Ok : goal.returns-in-Ok
returns-in-Ok c = search ways

pub returns-in-Err : goal.returns-in-Err
returns-in-Err c = search ways
