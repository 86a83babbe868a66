-- `claim_check::run::judge_steps` meets its contract.
use Rattle.claim_check.proofs.Runs.{steps_refused, judging}
use Rattle.claim_check.proofs.run.judge_steps.Goals as goal

pub returns-in_err-try_steps : goal.returns-in_err-try_steps
returns-in_err-try_steps c = steps_refused _ _ _ _ _ _ c.header-a.ensures c.requires.1 c.try_steps.ensures _ c.in_err-try_steps.was _ c.from_residual.ensures.1

pub returns : goal.returns
returns c = search judging
