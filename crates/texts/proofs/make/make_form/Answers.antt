-- `texts::make::make_form` meets its contract.
use Rattle.texts.proofs.Laws.{made_ways}
use Rattle.texts.proofs.make.make_form.Goals as goal

pub returns-in-Ok : goal.returns-in-Ok
returns-in-Ok c = search made_ways

pub returns-in-Err : goal.returns-in-Err
returns-in-Err c = search made_ways
