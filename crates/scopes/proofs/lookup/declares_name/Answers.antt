-- `scopes::lookup::declares_name` meets its contract.
use Rattle.scopes.proofs.ScopeLaws.{scope_ways}
use Rattle.scopes.proofs.lookup.declares_name.Goals as goal

pub returns : goal.returns
returns c = search scope_ways
