-- `claim_aliases::go_past` meets its contract.
use Rattle.claim_aliases.proofs.Ways.{over_breaks, over_on}
use borrow.Author.Rules.{rules}
use Rattle.claim_aliases.proofs.go_past.Goals as goal

pub returns-then-breaks : goal.returns-then-breaks
returns-then-breaks c = (search (over_breaks, rules), search rules)

pub returns : goal.returns
returns c = (search (over_on, rules), search rules)
