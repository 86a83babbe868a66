-- `claim_check::run::clear` meets its contract.
use Rattle.claim_check.proofs.Runs.{cleared_by}
use borrow.Author.Rules.{rules}
use Rattle.claim_check.proofs.run.clear.Goals as goal

pub returns : goal.returns
returns c = (search (cleared_by, rules), search (cleared_by, rules))
