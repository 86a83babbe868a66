-- `claim_check::run::slots` meets its contract.
use Rattle.claim_check.proofs.Runs.{slots_are}
use borrow.Author.Rules.{rules}
use Rattle.claim_check.proofs.run.slots.Goals as goal

pub returns : goal.returns
returns c = (search (slots_are, rules), search rules)
