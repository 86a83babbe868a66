-- `claim_numbers::enter::go_on` meets its contract.
use Rattle.claim_numbers.proofs.Ways.{on_is}
use borrow.Author.Rules.{rules}
use Rattle.claim_numbers.proofs.enter.go_on.Goals as goal

pub returns : goal.returns
returns c = (search (on_is, rules), search rules)
