-- `back_rows::write::left_out` meets its contract.
use Rattle.back_rows.proofs.Ways.{leaving}
use Rattle.back_rows.proofs.write.left_out.Goals as goal

pub returns-then-skip-gt0 : goal.returns-then-skip-gt0
returns-then-skip-gt0 c = search leaving

pub returns : goal.returns
returns c = search leaving
