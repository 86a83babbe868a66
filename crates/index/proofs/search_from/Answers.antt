-- `index::search_from` meets its contract.
use Rattle.index.proofs.Storey.{follows}
use Rattle.index.proofs.search_from.Goals as goal

pub heads_of-heads-requires : goal.heads_of-heads-requires
heads_of-heads-requires c = search follows

pub returns-then-at-from : goal.returns-then-at-from
returns-then-at-from c = search follows

pub returns : goal.returns
returns c = search follows
