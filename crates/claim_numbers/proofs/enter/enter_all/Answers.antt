-- `claim_numbers::enter::enter_all` meets its contract.
use borrow.Author.Rules.{rules}
use Rattle.claim_numbers.proofs.Ways.{turns}
use Rattle.claim_numbers.proofs.enter.enter_all.Goals as goal

pub loop-i-init : goal.loop-i-init
loop-i-init c = (search turns, search rules, search rules, search rules)

pub loop-i-preserved : goal.loop-i-preserved
loop-i-preserved c = (search turns, search rules, search rules, search rules)

pub returns : goal.returns
returns c = (search turns, search rules)
