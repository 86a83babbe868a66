-- `claim_operands::run::is_right` meets its contract.
use Rattle.claim_operands.proofs.Turns.{righting}
use Rattle.claim_operands.proofs.run.is_right.Goals as goal

pub returns-then-c : goal.returns-then-c
returns-then-c c = search righting

pub returns-then-input-next : goal.returns-then-input-next
returns-then-input-next c = search righting

pub returns-then-p-eq-REF : goal.returns-then-p-eq-REF
returns-then-p-eq-REF c = search righting

pub returns-then-p-eq-OUTER : goal.returns-then-p-eq-OUTER
returns-then-p-eq-OUTER c = search righting

pub returns : goal.returns
returns c = search righting
