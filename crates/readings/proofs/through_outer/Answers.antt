-- `readings::through_outer` meets its contract.
use Rattle.scopes.proofs.FoundLaws.{lent_ways}
use Rattle.readings.proofs.through_outer.Goals as goal

pub through_outer_with-requires : goal.through_outer_with-requires
through_outer_with-requires c = search lent_ways
