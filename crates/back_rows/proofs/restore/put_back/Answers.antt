-- `back_rows::restore::put_back` meets its contract.
use Rattle.back_rows.proofs.Ways.{putting}
use Rattle.back_rows.proofs.restore.put_back.Goals as goal

pub returns-then-to-eq0 : goal.returns-then-to-eq0
returns-then-to-eq0 c = search putting

pub returns : goal.returns
returns c = search putting
