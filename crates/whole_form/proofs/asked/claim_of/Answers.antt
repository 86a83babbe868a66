-- `whole_form::asked::claim_of` meets its contract.
use borrow.Author.Rules.{rules}
use Rattle.whole_form.proofs.Ways.{asked_claim}
use Rattle.whole_form.proofs.asked.claim_of.Goals as goal

pub returns : goal.returns
returns c = search (asked_claim, rules)
