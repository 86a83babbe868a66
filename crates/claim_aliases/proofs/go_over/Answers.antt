-- `claim_aliases::go_over` meets its contract.
use Rattle.claim_aliases.proofs.Ways.{turn_is, held_at}
use borrow.Author.Rules.{rules}
use Rattle.claim_aliases.proofs.go_over.Goals as goal

pub go_past-requires : goal.go_past-requires
go_past-requires c = search (held_at, rules)

pub returns : goal.returns
returns c = (search (turn_is, rules), search rules)
