-- `batch_with::run_lent` meets its contract.
use mathlib.Core.Path.{sym}
use native.Mathlib.Omega.{arith}
use lib.ListN.{length}
use lib.Seq.{length-take-le}
use Rattle.member_with.proofs.Ways.{fronts, tables_left}
use Rattle.batch_with.proofs.run_lent.Goals as goal

pub slice_bounds-batch_in-end : goal.slice_bounds-batch_in-end
slice_bounds-batch_in-end c = omega (arith, c.least-a.ensures)

pub slice_bounds-batch_in-end-2 : goal.slice_bounds-batch_in-end-2
slice_bounds-batch_in-end-2 c = sym (length-take-le _ _ (omega (arith, c.least-a.ensures)))

pub slice_bounds-batch_in-end-3 : goal.slice_bounds-batch_in-end-3
slice_bounds-batch_in-end-3 c = omega (arith, c.least-b.ensures)

pub slice_bounds-batch_in-end-4 : goal.slice_bounds-batch_in-end-4
slice_bounds-batch_in-end-4 c = sym (length-take-le _ _ (omega (arith, c.least-b.ensures)))

pub slice_bounds-batch_in-end-5 : goal.slice_bounds-batch_in-end-5
slice_bounds-batch_in-end-5 c = omega (arith, c.least-c.ensures)

pub slice_bounds-batch_in-end-6 : goal.slice_bounds-batch_in-end-6
slice_bounds-batch_in-end-6 c = sym (length-take-le _ _ (omega (arith, c.least-c.ensures)))

pub slice_bounds-batch_in-end-7 : goal.slice_bounds-batch_in-end-7
slice_bounds-batch_in-end-7 c = omega (arith, c.least-d.ensures)

pub slice_bounds-batch_in-end-8 : goal.slice_bounds-batch_in-end-8
slice_bounds-batch_in-end-8 c = sym (length-take-le _ _ (omega (arith, c.least-d.ensures)))

pub slice_bounds-batch_in-end-9 : goal.slice_bounds-batch_in-end-9
slice_bounds-batch_in-end-9 c = omega (arith, c.least-e.ensures)

pub slice_bounds-batch_in-end-10 : goal.slice_bounds-batch_in-end-10
slice_bounds-batch_in-end-10 c = sym (length-take-le _ _ (omega (arith, c.least-e.ensures)))

pub batch_in-answer-requires : goal.batch_in-answer-requires
batch_in-answer-requires c = fronts c.args.i (length c.args.resolved.now) c.args.entered.now c.args.names.now c.args.known.now c.args.chains.now c.args.ends.now _ _ _ _ _ _ _ _ _ _ c.slots_for.ensures.0 c.both_for.ensures.0 c.links_for.ensures.0 c.chains_for.ensures.0 c.slots_for-2.ensures.0 c.least-a.ensures c.least-b.ensures c.least-c.ensures c.least-d.ensures c.least-e.ensures c.requires

pub returns : goal.returns
returns c = record { value = c.batch_in-answer.ensures.value; answers_after = c.batch_in-answer.ensures.answers_after; tables_cleared = tables_left c.args.i (length c.args.resolved.now) c.args.entered.now c.args.names.now c.args.known.now c.args.chains.now c.args.ends.now _ _ _ _ _ _ _ _ _ _ c.slots_for.ensures.0 c.both_for.ensures.0 c.links_for.ensures.0 c.chains_for.ensures.0 c.slots_for-2.ensures.0 c.least-a.ensures c.least-b.ensures c.least-c.ensures c.least-d.ensures c.least-e.ensures _ _ _ _ _ _ _ _ _ _ c.clear_tables.ensures c.batch_in-answer.ensures.same }
