-- `meant::meant` meets its contract.
use Rattle.meant.proofs.Ways.{part_ways}
use Rattle.meant.proofs.meant.Goals as goal

pub returns-in_default : goal.returns-in_default
returns-in_default c = search part_ways

pub returns-in-Member : goal.returns-in-Member
returns-in-Member c = search part_ways

pub returns-in-Prelude : goal.returns-in-Prelude
returns-in-Prelude c = search part_ways
