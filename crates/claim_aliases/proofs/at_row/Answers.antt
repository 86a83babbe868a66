-- `claim_aliases::at_row` meets its contract.
use Rattle.claim_aliases.proofs.Ways.{at_is}
use borrow.Author.Rules.{rules}
use Rattle.claim_aliases.proofs.at_row.Goals as goal

pub returns : goal.returns
returns c = search (at_is, rules)
