-- `claim_operands::outer::at_right` meets its contract.
use Rattle.claim_operands.proofs.Ways.{reaching}
use Rattle.claim_operands.proofs.outer.at_right.Goals as goal

pub returns-then-c-up : goal.returns-then-c-up
returns-then-c-up c = search reaching

pub returns-then-p-up : goal.returns-then-p-up
returns-then-p-up c = search reaching

pub returns-then-q-lt2 : goal.returns-then-q-lt2
returns-then-q-lt2 c = search reaching

pub returns : goal.returns
returns c = search reaching
