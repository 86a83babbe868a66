-- `rows::row::index_of` meets its contract.
use Rattle.kit.proofs.Laws.{picks}
use Rattle.rows.specs.FromParts.{index_of}
use Rattle.rows.proofs.row.index_of.Goals as goal

pub returns-then-flag-eq0 : goal.returns-then-flag-eq0
unfolding index_of
returns-then-flag-eq0 c = search picks

pub returns-else-flag-eq0 : goal.returns-else-flag-eq0
unfolding index_of
returns-else-flag-eq0 c = search picks
