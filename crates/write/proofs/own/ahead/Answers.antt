-- `write::own::ahead` meets its contract.
use Rattle.write.proofs.LawsOwn.{ways}
use Rattle.write.proofs.own.ahead.Goals as goal

pub returns-then-names-k : goal.returns-then-names-k
returns-then-names-k c = search ways

pub returns-then-names-k-2 : goal.returns-then-names-k-2
returns-then-names-k-2 c = search ways

pub returns : goal.returns
returns c = search ways
