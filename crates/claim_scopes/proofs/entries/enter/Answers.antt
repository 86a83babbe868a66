-- `claim_scopes::entries::enter` meets its contract.
use Rattle.claim_scopes.proofs.Ways.{slot_entered}
use borrow.Author.Rules.{rules}
use Rattle.claim_scopes.proofs.entries.enter.Goals as goal

pub returns : goal.returns
returns c = search (slot_entered, rules)
