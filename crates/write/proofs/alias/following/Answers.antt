-- `write::alias::following` meets its contract.
use Rattle.write.proofs.LawsAlias.{ways}
use Rattle.write.proofs.alias.following.Goals as goal

pub returns-then-k-names : goal.returns-then-k-names
returns-then-k-names c = search ways

pub returns-else-k-names : goal.returns-else-k-names
returns-else-k-names c = search ways
