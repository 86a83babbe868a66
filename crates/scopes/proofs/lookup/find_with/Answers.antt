-- `scopes::lookup::find_with` meets its contract.
use Rattle.scopes.proofs.FoundLaws.{lent_ways}
use Rattle.scopes.proofs.lookup.find_with.Goals as goal

pub find_known-requires : goal.find_known-requires
find_known-requires c = search lent_ways
