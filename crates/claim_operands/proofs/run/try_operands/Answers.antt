-- `claim_operands::run::try_operands` meets its contract.
use Rattle.claim_operands.proofs.Turns.{held_at, turns}
use borrow.Author.Rules.{rules}
use Rattle.claim_operands.proofs.run.try_operands.Goals as goal

pub loop-i-init : goal.loop-i-init
loop-i-init c = search turns

pub is_right-requires : goal.is_right-requires
is_right-requires c = search (held_at, rules)

pub returns-then-not-is_right : goal.returns-then-not-is_right
returns-then-not-is_right c = search turns

pub loop-i-preserved : goal.loop-i-preserved
loop-i-preserved c = search turns

pub returns : goal.returns
returns c = search turns
