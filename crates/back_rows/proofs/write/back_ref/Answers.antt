-- `back_rows::write::back_ref` meets its contract.
use Rattle.back_rows.proofs.Ways.{referring}
use Rattle.back_rows.proofs.write.back_ref.Goals as goal

pub returns-then-is_for : goal.returns-then-is_for
returns-then-is_for c = search referring

pub returns : goal.returns
returns c = search referring
