-- `member_with::run::run_lent` meets its contract.
use mathlib.Core.Path.{sym}
use native.Mathlib.Omega.{arith}
use lib.ListN.{length}
use lib.Seq.{length-take-le}
use Rattle.member_with.proofs.Ways.{fronts, tables_left}
use Rattle.member_with.proofs.run.run_lent.Goals as goal

pub slice_bounds-run_in-end : goal.slice_bounds-run_in-end
slice_bounds-run_in-end c = omega (arith, c.least-a.ensures)

pub slice_bounds-run_in-end-2 : goal.slice_bounds-run_in-end-2
slice_bounds-run_in-end-2 c = sym (length-take-le _ _ (omega (arith, c.least-a.ensures)))

pub slice_bounds-run_in-end-3 : goal.slice_bounds-run_in-end-3
slice_bounds-run_in-end-3 c = omega (arith, c.least-b.ensures)

pub slice_bounds-run_in-end-4 : goal.slice_bounds-run_in-end-4
slice_bounds-run_in-end-4 c = sym (length-take-le _ _ (omega (arith, c.least-b.ensures)))

pub slice_bounds-run_in-end-5 : goal.slice_bounds-run_in-end-5
slice_bounds-run_in-end-5 c = omega (arith, c.least-c.ensures)

pub slice_bounds-run_in-end-6 : goal.slice_bounds-run_in-end-6
slice_bounds-run_in-end-6 c = sym (length-take-le _ _ (omega (arith, c.least-c.ensures)))

pub slice_bounds-run_in-end-7 : goal.slice_bounds-run_in-end-7
slice_bounds-run_in-end-7 c = omega (arith, c.least-d.ensures)

pub slice_bounds-run_in-end-8 : goal.slice_bounds-run_in-end-8
slice_bounds-run_in-end-8 c = sym (length-take-le _ _ (omega (arith, c.least-d.ensures)))

pub slice_bounds-run_in-end-9 : goal.slice_bounds-run_in-end-9
slice_bounds-run_in-end-9 c = omega (arith, c.least-e.ensures)

pub slice_bounds-run_in-end-10 : goal.slice_bounds-run_in-end-10
slice_bounds-run_in-end-10 c = sym (length-take-le _ _ (omega (arith, c.least-e.ensures)))

pub run_in-answer-requires : goal.run_in-answer-requires
run_in-answer-requires c = fronts c.args.i (length c.args.area.now) c.args.entered.now c.args.names.now c.args.known.now c.args.chains.now c.args.ends.now _ _ _ _ _ _ _ _ _ _ c.slots_for.ensures.0 c.both_for.ensures.0 c.links_for.ensures.0 c.chains_for.ensures.0 c.slots_for-2.ensures.0 c.least-a.ensures c.least-b.ensures c.least-c.ensures c.least-d.ensures c.least-e.ensures c.requires

pub returns : goal.returns
returns c = record { place_value = c.run_in-answer.ensures.place_value; tables_cleared = tables_left c.args.i (length c.args.area.now) c.args.entered.now c.args.names.now c.args.known.now c.args.chains.now c.args.ends.now _ _ _ _ _ _ _ _ _ _ c.slots_for.ensures.0 c.both_for.ensures.0 c.links_for.ensures.0 c.chains_for.ensures.0 c.slots_for-2.ensures.0 c.least-a.ensures c.least-b.ensures c.least-c.ensures c.least-d.ensures c.least-e.ensures _ _ _ _ _ _ _ _ _ _ c.clear_tables.ensures c.run_in-answer.ensures.same; same_area = record { long = omega (arith, c.area-1.given) } }
