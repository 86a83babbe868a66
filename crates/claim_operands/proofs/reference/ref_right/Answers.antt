-- `claim_operands::reference::ref_right` meets its contract.
use Rattle.claim_operands.proofs.Ways.{referring}
use Rattle.claim_operands.proofs.reference.ref_right.Goals as goal

pub returns-then-p-gt0 : goal.returns-then-p-gt0
returns-then-p-gt0 c = search referring

pub returns-then-q-gt0 : goal.returns-then-q-gt0
returns-then-q-gt0 c = search referring

pub returns-then-q-eq0 : goal.returns-then-q-eq0
returns-then-q-eq0 c = search referring

pub returns : goal.returns
returns c = search referring
