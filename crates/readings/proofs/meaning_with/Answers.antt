-- `readings::meaning_with` meets its contract.
use Rattle.readings.proofs.MeaningLaws.{meaning_ways}
use Rattle.scopes.proofs.FoundLaws.{lent_ways}
use Rattle.readings.proofs.meaning_with.Goals as goal

pub returns-then-code_at-eq-OUTER : goal.returns-then-code_at-eq-OUTER
returns-then-code_at-eq-OUTER c = search meaning_ways

pub returns-then-is_outward : goal.returns-then-is_outward
returns-then-is_outward c = search meaning_ways

pub scope_at-requires : goal.scope_at-requires
scope_at-requires c = search lent_ways

pub returns : goal.returns
returns c = search meaning_ways
