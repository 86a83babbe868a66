-- `unresolve::run::find_input` meets its contract.
use native.Mathlib.Omega.{arith}
use Rattle.unresolve.proofs.Agrees.{finding, first_from, first_not}
use Rattle.unresolve.proofs.run.find_input.Goals as goal

pub slice_bounds-restore_first-count : goal.slice_bounds-restore_first-count
slice_bounds-restore_first-count c = search finding

pub slice_bounds-restore_first-start : goal.slice_bounds-restore_first-start
slice_bounds-restore_first-start c = search finding

pub returns-then-resolves_to : goal.returns-then-resolves_to
returns-then-resolves_to c = let pre = c.requires in
    first_from _ _ c.read_claim.ensures _ c.in-Ok.is c.args.restored.now _ c.args.again.now _ pre.0 pre.1 c.restore_first-at.ensures.0 _ c.resolves_to.ensures.0 c.resolves_to.ensures.1 c.if-resolves_to.true c.restore_first-at.ensures.1 (omega (arith, c.restore_first-at.auto.area, pre.0))

pub returns-in-Err : goal.returns-in-Err
returns-in-Err c = search finding

pub returns-else-resolves_to : goal.returns-else-resolves_to
returns-else-resolves_to c = let pre = c.requires in
    first_not _ _ c.read_claim.ensures _ c.in-Ok.is c.args.restored.now _ c.args.again.now _ pre.0 pre.1 c.restore_first-at.ensures.0 _ c.resolves_to.ensures.0 c.resolves_to.ensures.1 c.if-resolves_to.false
