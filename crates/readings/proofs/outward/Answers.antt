-- `readings::outward` meets its contract.
use Rattle.readings.proofs.MeaningLaws.{meaning_ways}
use Rattle.scopes.proofs.FoundLaws.{lent_ways}
use Rattle.readings.proofs.outward.Goals as goal

pub scope_at-requires : goal.scope_at-requires
scope_at-requires c = search lent_ways

pub returns : goal.returns
returns c = search (meaning_ways, c.in_ok-scope.was)

pub returns-in_err-scope : goal.returns-in_err-scope
returns-in_err-scope c = search meaning_ways
