-- `claim_numbers::enter::at_row` meets its contract.
use Rattle.claim_numbers.proofs.Ways.{at_is}
use borrow.Author.Rules.{rules}
use Rattle.claim_numbers.proofs.enter.at_row.Goals as goal

pub returns : goal.returns
returns c = search (at_is, rules)
