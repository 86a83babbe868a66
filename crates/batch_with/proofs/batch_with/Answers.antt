-- `batch_with::batch_with` meets its contract.
use mathlib.Core.Path.{sym}
use native.Mathlib.Omega.{arith}
use lib.Seq.{length-take-le}
use Rattle.member_with.proofs.Ways.{tables_asked}
use Rattle.batch_with.proofs.Ways.{large_in, with_answers, with_leaves}
use Rattle.batch_with.proofs.batch_with.Goals as goal

pub slice_bounds-run_lent-end-2 : goal.slice_bounds-run_lent-end-2
slice_bounds-run_lent-end-2 c = sym (length-take-le _ _ (omega (arith, c.room_in-room.ensures.1)))

pub run_lent-requires : goal.run_lent-requires
run_lent-requires c = large_in c.asked_for-i.result c.args.prelude.now c.asked_for-i.ensures c.args.resolved.now c.args.entered.now c.args.names.now c.args.known.now c.args.chains.now c.args.ends.now _ c.are_small-small.ensures _ c.room_in-room.ensures.0 c.room_in-room.ensures.1

pub returns : goal.returns
returns c = record { value = with_answers c.asked_for-i.result c.args.prelude.now c.asked_for-i.ensures c.args.resolved.now c.args.entered.now c.args.names.now c.args.known.now c.args.chains.now c.args.ends.now _ c.are_small-small.ensures _ c.room_in-room.ensures.0 c.room_in-room.ensures.1 c.args.members.now c.args.lengths.now c.args.outs.now c.args.answers.now _ c.run_lent.ensures.value; answers_after = with_leaves c.asked_for-i.result c.args.prelude.now c.asked_for-i.ensures c.args.resolved.now c.args.entered.now c.args.names.now c.args.known.now c.args.chains.now c.args.ends.now _ c.are_small-small.ensures _ c.room_in-room.ensures.0 c.room_in-room.ensures.1 c.args.members.now c.args.lengths.now c.args.outs.now c.args.answers.now _ c.run_lent.ensures.answers_after; tables_cleared = tables_asked c.asked_for-i.result c.args.prelude.now c.asked_for-i.ensures _ _ _ _ _ _ _ _ _ _ c.run_lent.ensures.tables_cleared }
