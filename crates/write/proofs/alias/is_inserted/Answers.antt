-- `write::alias::is_inserted` meets its contract.
use Rattle.write.proofs.LawsAlias.{ways}
use Rattle.write.proofs.alias.is_inserted.Goals as goal

pub returns-then-here-k : goal.returns-then-here-k
returns-then-here-k c = search ways

pub returns : goal.returns
returns c = search ways
