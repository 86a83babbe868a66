-- `resolver_with::run::resolve_at` meets its contract.
use mathlib.Core.Path.{sym}
use native.Mathlib.Omega.{arith}
use lib.Seq.{length-take-le}
use Rattle.limits.specs.Held.{setting}
use Rattle.resolver_with.proofs.Runs.{at_runs, at_clears}
use Rattle.resolver_with.proofs.run.resolve_at.Goals as goal

pub slice_bounds-run_cleared-end : goal.slice_bounds-run_cleared-end
slice_bounds-run_cleared-end c = omega (arith, c.least-a.ensures)

pub slice_bounds-run_cleared-end-2 : goal.slice_bounds-run_cleared-end-2
slice_bounds-run_cleared-end-2 c = sym (length-take-le _ _ (omega (arith, c.least-a.ensures)))

pub slice_bounds-run_cleared-end-3 : goal.slice_bounds-run_cleared-end-3
slice_bounds-run_cleared-end-3 c = omega (arith, c.least-b.ensures)

pub slice_bounds-run_cleared-end-4 : goal.slice_bounds-run_cleared-end-4
slice_bounds-run_cleared-end-4 c = sym (length-take-le _ _ (omega (arith, c.least-b.ensures)))

pub slice_bounds-run_cleared-end-5 : goal.slice_bounds-run_cleared-end-5
slice_bounds-run_cleared-end-5 c = omega (arith, c.least-c.ensures)

pub slice_bounds-run_cleared-end-6 : goal.slice_bounds-run_cleared-end-6
slice_bounds-run_cleared-end-6 c = sym (length-take-le _ _ (omega (arith, c.least-c.ensures)))

pub slice_bounds-run_cleared-end-7 : goal.slice_bounds-run_cleared-end-7
slice_bounds-run_cleared-end-7 c = omega (arith, c.least-d.ensures)

pub slice_bounds-run_cleared-end-8 : goal.slice_bounds-run_cleared-end-8
slice_bounds-run_cleared-end-8 c = sym (length-take-le _ _ (omega (arith, c.least-d.ensures)))

pub slice_bounds-run_cleared-end-9 : goal.slice_bounds-run_cleared-end-9
slice_bounds-run_cleared-end-9 c = omega (arith, c.least-e.ensures)

pub slice_bounds-run_cleared-end-10 : goal.slice_bounds-run_cleared-end-10
slice_bounds-run_cleared-end-10 c = sym (length-take-le _ _ (omega (arith, c.least-e.ensures)))

pub shape_of-out : goal.shape_of-out
shape_of-out c = omega (arith, c.entered-1.given, c.known-1.given, c.names-1.given, c.chains-1.given, c.ends-1.given, c.out-1.given)

pub shape_of-entered : goal.shape_of-entered
shape_of-entered c = omega (arith, c.entered-1.given, c.known-1.given, c.names-1.given, c.chains-1.given, c.ends-1.given, c.out-1.given)

pub shape_of-names : goal.shape_of-names
shape_of-names c = omega (arith, c.entered-1.given, c.known-1.given, c.names-1.given, c.chains-1.given, c.ends-1.given, c.out-1.given)

pub shape_of-known : goal.shape_of-known
shape_of-known c = omega (arith, c.entered-1.given, c.known-1.given, c.names-1.given, c.chains-1.given, c.ends-1.given, c.out-1.given)

pub shape_of-chains : goal.shape_of-chains
shape_of-chains c = omega (arith, c.entered-1.given, c.known-1.given, c.names-1.given, c.chains-1.given, c.ends-1.given, c.out-1.given)

pub shape_of-ends : goal.shape_of-ends
shape_of-ends c = omega (arith, c.entered-1.given, c.known-1.given, c.names-1.given, c.chains-1.given, c.ends-1.given, c.out-1.given)

pub returns : goal.returns
returns c = (at_runs c.args.form.now c.args.out.now c.args.entered.now c.args.names.now c.args.known.now c.args.chains.now c.args.ends.now (setting c.args.i) _ _ c.slots_for-slots.ensures.0 c.links_for-links.ensures.0 _ _ _ _ _ c.least-a.ensures c.least-b.ensures c.least-c.ensures c.least-d.ensures c.least-e.ensures _ _ c.run_cleared.ensures.0, at_clears c.args.form.now c.args.out.now c.args.entered.now c.args.names.now c.args.known.now c.args.chains.now c.args.ends.now (setting c.args.i) _ _ c.slots_for-slots.ensures.0 c.links_for-links.ensures.0 _ _ _ _ _ c.least-a.ensures c.least-b.ensures c.least-c.ensures c.least-d.ensures c.least-e.ensures _ _ _ _ _ c.run_cleared.ensures.1)
