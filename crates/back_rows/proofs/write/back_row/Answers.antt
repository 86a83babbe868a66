-- `back_rows::write::back_row` meets its contract.
use Rattle.back_rows.proofs.Ways.{rowing}
use Rattle.back_rows.proofs.write.back_row.Goals as goal

pub returns-then-skip-gt0 : goal.returns-then-skip-gt0
returns-then-skip-gt0 c = search rowing

pub back_ref-requires : goal.back_ref-requires
back_ref-requires c = search rowing

pub returns-then-p-eq-REF : goal.returns-then-p-eq-REF
returns-then-p-eq-REF c = search rowing

pub returns : goal.returns
returns c = search rowing
