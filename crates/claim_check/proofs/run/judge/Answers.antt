-- `claim_check::run::judge` meets its contract.
use Rattle.claim_check.proofs.Runs.{input_long, input_refused, judging}
use borrow.Author.Rules.{rules}
use Rattle.claim_check.proofs.run.judge.Goals as goal

pub judge_steps-requires : goal.judge_steps-requires
judge_steps-requires c = (search rules, search (input_long, rules))

pub returns-in_err-read_input : goal.returns-in_err-read_input
returns-in_err-read_input c = input_refused _ _ _ _ _ c.read_input.ensures _ c.in_err-read_input.was _ c.from_residual.ensures.1

pub returns : goal.returns
returns c = search judging
