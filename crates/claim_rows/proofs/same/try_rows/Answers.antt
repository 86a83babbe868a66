-- `claim_rows::same::try_rows` meets its contract.
use borrow.Author.Rules.{rules}
use Rattle.claim_rows.proofs.Ways.{turns}
use Rattle.claim_rows.proofs.same.try_rows.Goals as goal

pub returns-then-breaks : goal.returns-then-breaks
returns-then-breaks c = search turns

pub loop-i-preserved : goal.loop-i-preserved
loop-i-preserved c = (search turns, search rules)

pub returns-then-j-input : goal.returns-then-j-input
returns-then-j-input c = search turns

pub returns : goal.returns
returns c = search turns
