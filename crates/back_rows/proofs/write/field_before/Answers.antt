-- `back_rows::write::field_before` meets its contract.
use Rattle.back_rows.proofs.Ways.{fielding}
use Rattle.back_rows.proofs.write.field_before.Goals as goal

pub returns-then-parts_at-eq-FIELD : goal.returns-then-parts_at-eq-FIELD
returns-then-parts_at-eq-FIELD c = search fielding

pub loop-k-preserved : goal.loop-k-preserved
loop-k-preserved c = search fielding

pub returns : goal.returns
returns c = search fielding
