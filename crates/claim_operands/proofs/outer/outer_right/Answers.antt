-- `claim_operands::outer::outer_right` meets its contract.
use Rattle.claim_operands.proofs.Ways.{outers}
use Rattle.claim_operands.proofs.outer.outer_right.Goals as goal

pub returns-then-p-gt0 : goal.returns-then-p-gt0
returns-then-p-gt0 c = search outers

pub returns-then-q-eq0 : goal.returns-then-q-eq0
returns-then-q-eq0 c = search outers

pub returns-in-Some : goal.returns-in-Some
returns-in-Some c = search outers

pub returns-in-None : goal.returns-in-None
returns-in-None c = search outers
