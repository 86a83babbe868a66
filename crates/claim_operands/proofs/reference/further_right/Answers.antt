-- `claim_operands::reference::further_right` meets its contract.
use Rattle.claim_operands.proofs.Ways.{further_is}
use borrow.Author.Rules.{rules}
use Rattle.claim_operands.proofs.reference.further_right.Goals as goal

pub returns : goal.returns
returns c = search (further_is, rules)
