-- `scopes::lookup::is_scope` meets its contract.
use Rattle.scopes.proofs.FoundLaws.{found_ways}
use Rattle.scopes.proofs.lookup.is_scope.Goals as goal

pub rows_in-requires : goal.rows_in-requires
rows_in-requires c = search found_ways

pub scope_at-requires : goal.scope_at-requires
scope_at-requires c = search found_ways

pub returns : goal.returns
returns c = search found_ways
