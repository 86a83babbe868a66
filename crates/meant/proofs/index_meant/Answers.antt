-- `meant::index_meant` meets its contract.
use Rattle.meant.proofs.Ways.{index_ways}
use Rattle.meant.proofs.index_meant.Goals as goal

pub returns-in-Some : goal.returns-in-Some
returns-in-Some c = search index_ways

pub returns-in-None : goal.returns-in-None
returns-in-None c = search index_ways
