-- `unresolve::run::run_in` meets its contract.
use Rattle.unresolve.proofs.Agrees.{running}
use Rattle.unresolve.proofs.run.run_in.Goals as goal

pub slice_bounds-give-count : goal.slice_bounds-give-count
slice_bounds-give-count c = search running

pub slice_bounds-give-start : goal.slice_bounds-give-start
slice_bounds-give-start c = search running

pub give-requires : goal.give-requires
give-requires c = (search running, search running)

pub returns-in-None : goal.returns-in-None
returns-in-None c = (search running, search running)

pub returns-in-Some : goal.returns-in-Some
returns-in-Some c = (search running, search running)
