-- `readings::meant` meets its contract.
use Rattle.readings.proofs.MeaningLaws.{meaning_ways}
use Rattle.readings.proofs.meant.Goals as goal

pub returns-in_err-row : goal.returns-in_err-row
returns-in_err-row c = search meaning_ways

pub returns : goal.returns
returns c = search meaning_ways
