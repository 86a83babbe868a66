-- `meant::part_of` meets its contract.
use Rattle.meant.proofs.Ways.{part_ways}
use Rattle.meant.proofs.part_of.Goals as goal

pub returns-then-form-lt8 : goal.returns-then-form-lt8
returns-then-form-lt8 c = search part_ways

pub returns-then-form-eq2 : goal.returns-then-form-eq2
returns-then-form-eq2 c = search part_ways

pub returns : goal.returns
returns c = search part_ways
