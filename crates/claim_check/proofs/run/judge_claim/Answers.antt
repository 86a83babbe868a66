-- `claim_check::run::judge_claim` meets its contract.
use Rattle.claim_check.proofs.Runs.{claim_long, judging}
use borrow.Author.Rules.{rules}
use Rattle.claim_check.proofs.run.judge_claim.Goals as goal

pub judge_rows-requires : goal.judge_rows-requires
judge_rows-requires c = (search rules, search rules, search (claim_long, rules))

pub returns-in-Err : goal.returns-in-Err
returns-in-Err c = search judging

pub returns-in-Ok : goal.returns-in-Ok
returns-in-Ok c = search judging
