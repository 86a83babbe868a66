-- `anonymise::run::run` meets its contract.
use Rattle.anonymise.proofs.Ways.{runs, run_bad}
use Rattle.anonymise.proofs.run.run.Goals as goal

pub returns-then-out-size : goal.returns-then-out-size
returns-then-out-size c = search runs

pub fill-requires : goal.fill-requires
fill-requires c = search runs

pub returns-in_err-read : goal.returns-in_err-read
returns-in_err-read c = run_bad _ _ _ c.if-out-size.false _ c.read.ensures _ c.in_err-read.was _ c.from_residual.ensures.1

pub returns : goal.returns
returns c = search (runs, c.in_ok-read.was)
