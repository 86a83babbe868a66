-- `back_rows::write::left_for` meets its contract.
use Rattle.back_rows.proofs.Ways.{leaving}
use Rattle.back_rows.proofs.write.left_for.Goals as goal

pub returns-then-inside : goal.returns-then-inside
returns-then-inside c = search leaving

pub returns-else-inside : goal.returns-else-inside
returns-else-inside c = search leaving
