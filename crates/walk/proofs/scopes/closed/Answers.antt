-- `walk::scopes::closed` meets its contract.
use Rattle.walk.proofs.ScopesLaws.{ways}
use Rattle.walk.proofs.scopes.closed.Goals as goal

pub returns : goal.returns
returns c = search ways
