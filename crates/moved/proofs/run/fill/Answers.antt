-- `moved::run::fill` meets its contract.
use Rattle.moved.proofs.Laws.{ways}
use Rattle.moved.proofs.run.fill.Goals as goal

pub returns : goal.returns
returns c = search ways
