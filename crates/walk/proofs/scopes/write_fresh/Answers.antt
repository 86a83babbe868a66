-- `walk::scopes::write_fresh` meets its contract.
use Rattle.walk.proofs.Opens.{opens}
use Rattle.walk.proofs.ScopesLaws.{ways}
use Rattle.walk.proofs.scopes.write_fresh.Goals as goal

pub returns-then-slot_at-lt-FIRST_FRESH : goal.returns-then-slot_at-lt-FIRST_FRESH
returns-then-slot_at-lt-FIRST_FRESH c = search ways

pub write_inserted-requires : goal.write_inserted-requires
write_inserted-requires c = search opens

pub returns : goal.returns
returns c = search ways
