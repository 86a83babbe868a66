-- `index::push` meets its contract.
use Rattle.index.proofs.Storey.{changes}
use Rattle.index.proofs.push.Goals as goal

pub returns-then-table-used : goal.returns-then-table-used
returns-then-table-used c = search changes

pub heads_of-heads-requires : goal.heads_of-heads-requires
heads_of-heads-requires c = search changes

pub returns : goal.returns
returns c = search changes
