-- `moved_with::list_behind` meets its contract.
use Rattle.moved_with.proofs.Ways.{ways}
use Rattle.moved_with.proofs.list_behind.Goals as goal

pub overflow_sub-more : goal.overflow_sub-more
overflow_sub-more c = search ways

pub returns : goal.returns
returns c = search ways
