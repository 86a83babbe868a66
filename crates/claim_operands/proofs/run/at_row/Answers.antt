-- `claim_operands::run::at_row` meets its contract.
use Rattle.claim_operands.proofs.Turns.{at_is}
use borrow.Author.Rules.{rules}
use Rattle.claim_operands.proofs.run.at_row.Goals as goal

pub returns : goal.returns
returns c = search (at_is, rules)
