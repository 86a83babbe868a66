-- `readings::meaning_of` meets its contract.
use Rattle.scopes.proofs.FoundLaws.{lent_ways}
use Rattle.readings.proofs.meaning_of.Goals as goal

pub meaning_with-requires : goal.meaning_with-requires
meaning_with-requires c = search lent_ways
