-- `claim_check::run::links` meets its contract.
use Rattle.claim_check.proofs.Runs.{links_are}
use borrow.Author.Rules.{rules}
use Rattle.claim_check.proofs.run.links.Goals as goal

pub returns : goal.returns
returns c = search (links_are, rules)
