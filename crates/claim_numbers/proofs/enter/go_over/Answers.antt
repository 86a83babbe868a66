-- `claim_numbers::enter::go_over` meets its contract.
use Rattle.claim_numbers.proofs.Ways.{turn_is, held_at}
use borrow.Author.Rules.{rules}
use Rattle.claim_numbers.proofs.enter.go_over.Goals as goal

pub go_on-requires : goal.go_on-requires
go_on-requires c = search (held_at, rules)

pub returns : goal.returns
returns c = (search (turn_is, rules), search rules)
