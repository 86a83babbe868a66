-- `claim_operands::outer::up_of` meets its contract.
use Rattle.claim_operands.proofs.Ways.{upward}
use Rattle.claim_operands.proofs.outer.up_of.Goals as goal

pub returns-then-q-eq0 : goal.returns-then-q-eq0
returns-then-q-eq0 c = search upward

pub returns : goal.returns
returns c = search upward
