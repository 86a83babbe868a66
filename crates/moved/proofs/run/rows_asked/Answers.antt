-- `moved::run::rows_asked` meets its contract.
use Rattle.moved.proofs.Laws.{ways}
use Rattle.moved.proofs.run.rows_asked.Goals as goal

pub returns-in-Ok : goal.returns-in-Ok
returns-in-Ok c = search ways

pub returns-in-Err-Wrong : goal.returns-in-Err-Wrong
returns-in-Err-Wrong c = search ways

pub returns-in-Err-Count : goal.returns-in-Err-Count
returns-in-Err-Count c = search ways
