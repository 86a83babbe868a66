-- `readings::is_outward` meets its contract.
use Rattle.readings.proofs.MeaningLaws.{meaning_ways}
use Rattle.readings.proofs.is_outward.Goals as goal

pub returns-in-Outward : goal.returns-in-Outward
returns-in-Outward c = search meaning_ways

pub returns-in-LookedUp : goal.returns-in-LookedUp
returns-in-LookedUp c = search meaning_ways

pub returns-in-Counting : goal.returns-in-Counting
returns-in-Counting c = search meaning_ways
