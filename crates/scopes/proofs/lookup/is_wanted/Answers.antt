-- `scopes::lookup::is_wanted` meets its contract.
use Rattle.scopes.proofs.ScopeLaws.{scope_ways}
use Rattle.scopes.proofs.lookup.is_wanted.Goals as goal

pub returns-in-Out : goal.returns-in-Out
returns-in-Out c = search scope_ways

pub returns-in-Named : goal.returns-in-Named
returns-in-Named c = search scope_ways

pub returns-in-Declaring : goal.returns-in-Declaring
returns-in-Declaring c = search scope_ways
