-- `walk::scopes::write_head` meets its contract.
use Rattle.walk.proofs.Opens.{opens}
use Rattle.walk.proofs.ScopesLaws.{ways}
use Rattle.walk.proofs.scopes.write_head.Goals as goal

pub write_fresh-requires : goal.write_fresh-requires
write_fresh-requires c = search opens

pub write_own-requires : goal.write_own-requires
write_own-requires c = search opens

pub returns-in_err-t : goal.returns-in_err-t
returns-in_err-t c = search ways

pub returns : goal.returns
returns c = search ways
