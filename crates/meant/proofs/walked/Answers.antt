-- `meant::walked` meets its contract.
use Rattle.meant.proofs.Ways.{ref_ways}
use Rattle.meant.proofs.walked.Goals as goal

pub returns-in-Some : goal.returns-in-Some
returns-in-Some c = search ref_ways

pub returns-in-None : goal.returns-in-None
returns-in-None c = search ref_ways
