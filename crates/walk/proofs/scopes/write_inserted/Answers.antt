-- `walk::scopes::write_inserted` meets its contract.
use Rattle.walk.proofs.Opens.{opens}
use Rattle.walk.proofs.ScopesLaws.{ways}
use Rattle.walk.proofs.scopes.write_inserted.Goals as goal

pub returns-then-here_only : goal.returns-then-here_only
returns-then-here_only c = search ways

pub write_aliases-requires : goal.write_aliases-requires
write_aliases-requires c = search opens

pub returns : goal.returns
returns c = search ways
