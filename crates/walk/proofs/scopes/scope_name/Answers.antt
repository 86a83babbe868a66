-- `walk::scopes::scope_name` meets its contract.
use Rattle.walk.proofs.ScopesLaws.{ways}
use Rattle.walk.proofs.scopes.scope_name.Goals as goal

pub returns-in_default : goal.returns-in_default
returns-in_default c = search ways

pub returns : goal.returns
returns c = search ways
