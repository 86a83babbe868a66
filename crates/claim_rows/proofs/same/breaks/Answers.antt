-- `claim_rows::same::breaks` meets its contract.
use Rattle.claim_rows.proofs.Ways.{breaking}
use Rattle.claim_rows.proofs.same.breaks.Goals as goal

pub returns-then-p-eq-PATH : goal.returns-then-p-eq-PATH
returns-then-p-eq-PATH c = search breaking

pub returns-then-depth-gt0 : goal.returns-then-depth-gt0
returns-then-depth-gt0 c = search breaking

pub returns-then-input-j : goal.returns-then-input-j
returns-then-input-j c = search breaking

pub returns : goal.returns
returns c = search breaking
