-- `index::outward` meets its contract.
use Rattle.index.proofs.Storey.{climbs}
use Rattle.index.proofs.outward.Goals as goal

pub heads_of-heads-requires : goal.heads_of-heads-requires
heads_of-heads-requires c = search climbs

pub climb-requires : goal.climb-requires
climb-requires c = search climbs
