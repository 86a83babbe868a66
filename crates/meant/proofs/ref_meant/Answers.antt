-- `meant::ref_meant` meets its contract.
use Rattle.meant.proofs.Ways.{ref_ways}
use Rattle.meant.proofs.ref_meant.Goals as goal

pub returns-in-Outward : goal.returns-in-Outward
returns-in-Outward c = search ref_ways

pub returns-in-LookedUp : goal.returns-in-LookedUp
returns-in-LookedUp c = search ref_ways

pub returns-in-Counting : goal.returns-in-Counting
returns-in-Counting c = search ref_ways
