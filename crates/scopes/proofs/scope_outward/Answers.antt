use Rattle.scopes.proofs.FoundLaws.{lent_ways}
use Rattle.scopes.proofs.scope_outward.Goals as goal

pub scope_outward_with-requires : goal.scope_outward_with-requires
scope_outward_with-requires c = search lent_ways
