-- `sheet_with::answer_behind` meets its contract.
use Rattle.sheet_with.proofs.Ways.{ways}
use Rattle.sheet_with.proofs.answer_behind.Goals as goal

pub overflow_sub-header_size : goal.overflow_sub-header_size
overflow_sub-header_size c = search ways

pub returns : goal.returns
returns c = search ways
