-- `scopes::is_meant` meets its contract.
use Rattle.scopes.proofs.ScopeLaws.{scope_ways}
use Rattle.scopes.proofs.is_meant.Goals as goal

pub returns-in-Name : goal.returns-in-Name
returns-in-Name c = search scope_ways

pub returns-in-Number : goal.returns-in-Number
returns-in-Number c = search scope_ways

pub returns-in-Inserted : goal.returns-in-Inserted
returns-in-Inserted c = search scope_ways
