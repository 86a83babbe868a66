-- `claim_reach::outward::outward` meets its contract.
use borrow.Author.Rules.{rules}
use Rattle.claim_reach.proofs.Ways.{turns}
use Rattle.claim_reach.proofs.outward.outward.Goals as goal

pub loop-left-init : goal.loop-left-init
loop-left-init c = (search turns, search rules)

pub returns-in-Some : goal.returns-in-Some
returns-in-Some c = search turns

pub loop-left-preserved : goal.loop-left-preserved
loop-left-preserved c = (search turns, search rules)

pub returns : goal.returns
returns c = search turns
