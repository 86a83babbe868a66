-- `mend_list::list_piece` meets its contract.
use Rattle.mend_list.proofs.Laws.{piece_ways}
use Rattle.mend_list.proofs.list_piece.Goals as goal

pub returns-then-is_same : goal.returns-then-is_same
returns-then-is_same c = search piece_ways

pub returns : goal.returns
returns c = search piece_ways
