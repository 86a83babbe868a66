-- `claim_check::run::most_rows` meets its contract.
use Rattle.claim_check.proofs.Runs.{rows_are}
use borrow.Author.Rules.{rules}
use Rattle.claim_check.proofs.run.most_rows.Goals as goal

pub returns : goal.returns
returns c = search (rows_are, rules)
