-- `claim_check::run::judge_rows` meets its contract.
use Rattle.claim_check.proofs.Runs.{rows_tried}
use borrow.Author.Rules.{rules}
use Rattle.claim_check.proofs.run.judge_rows.Goals as goal

pub returns : goal.returns
returns c = search (rows_tried, rules)
