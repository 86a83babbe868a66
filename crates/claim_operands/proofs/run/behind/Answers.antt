-- `claim_operands::run::behind` meets its contract.
use Rattle.claim_operands.proofs.Turns.{following}
use Rattle.claim_operands.proofs.run.behind.Goals as goal

pub returns-then-added : goal.returns-then-added
returns-then-added c = search following

pub returns-then-input-j : goal.returns-then-input-j
returns-then-input-j c = search following

pub returns : goal.returns
returns c = search following
