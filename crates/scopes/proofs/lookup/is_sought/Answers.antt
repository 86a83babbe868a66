-- `scopes::lookup::is_sought` meets its contract.
use Rattle.scopes.proofs.FoundLaws.{found_ways}
use Rattle.scopes.proofs.lookup.is_sought.Goals as goal

pub number_at-number-requires : goal.number_at-number-requires
number_at-number-requires c = search found_ways

pub overflow_cast-number : goal.overflow_cast-number
overflow_cast-number c = search found_ways

pub is_declared-requires : goal.is_declared-requires
is_declared-requires c = search found_ways

pub x_at-requires : goal.x_at-requires
x_at-requires c = search found_ways

pub is_meant-requires : goal.is_meant-requires
is_meant-requires c = search found_ways

pub returns : goal.returns
returns c = search found_ways
