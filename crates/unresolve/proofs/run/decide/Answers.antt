-- `unresolve::run::decide` meets its contract.
use lib.Seq.{length-take-le}
use Rattle.unresolve.proofs.Agrees.{deciding, front_long}
use borrow.Author.Rules.{rules}
use Rattle.unresolve.proofs.run.decide.Goals as goal

pub returns-then-restored-lt-RESTORED : goal.returns-then-restored-lt-RESTORED
returns-then-restored-lt-RESTORED c = (search deciding, search deciding, search deciding, search deciding)

pub returns-then-again-lt-AGAIN : goal.returns-then-again-lt-AGAIN
returns-then-again-lt-AGAIN c = (search deciding, search deciding, search deciding, search deciding)

pub slice_bounds-run_in-end-2 : goal.slice_bounds-run_in-end-2
slice_bounds-run_in-end-2 c = search (front_long, rules)

pub slice_bounds-run_in-end-4 : goal.slice_bounds-run_in-end-4
slice_bounds-run_in-end-4 c = search (front_long, rules)

pub run_in-requires : goal.run_in-requires
run_in-requires c = (search (length-take-le, rules), search (length-take-le, rules))

pub returns : goal.returns
returns c = (search deciding, search deciding, search deciding, search deciding)
