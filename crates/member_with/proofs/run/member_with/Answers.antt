-- `member_with::run::member_with` meets its contract.
use mathlib.Core.Path.{sym}
use native.Mathlib.Omega.{arith}
use lib.Seq.{length-take-le}
use Rattle.member_with.proofs.Ways.{lent_in, with_answers, with_leaves, with_cleared, tables_asked}
use Rattle.member_with.proofs.run.member_with.Goals as goal

pub slice_bounds-run_lent-end : goal.slice_bounds-run_lent-end
slice_bounds-run_lent-end c = omega (arith, c.room_in-room.ensures.1)

pub slice_bounds-run_lent-end-2 : goal.slice_bounds-run_lent-end-2
slice_bounds-run_lent-end-2 c = sym (length-take-le _ _ (omega (arith, c.room_in-room.ensures.1)))

pub run_lent-answer-requires : goal.run_lent-answer-requires
run_lent-answer-requires c = lent_in c.asked_for-i.result c.args.prelude.now c.asked_for-i.ensures c.args.work.now c.args.entered.now c.args.names.now c.args.known.now c.args.chains.now c.args.ends.now _ c.are_small-small.ensures _ c.room_in-room.ensures.0 c.room_in-room.ensures.1

pub returns : goal.returns
returns c = record { place_value = with_answers c.asked_for-i.result c.args.prelude.now c.asked_for-i.ensures c.args.work.now c.args.entered.now c.args.names.now c.args.known.now c.args.chains.now c.args.ends.now _ c.are_small-small.ensures _ c.room_in-room.ensures.0 c.room_in-room.ensures.1 c.args.member.now c.args.out.now _ c.run_lent-answer.ensures.place_value.0; out_after = with_leaves c.asked_for-i.result c.args.prelude.now c.asked_for-i.ensures c.args.work.now c.args.entered.now c.args.names.now c.args.known.now c.args.chains.now c.args.ends.now _ c.are_small-small.ensures _ c.room_in-room.ensures.0 c.room_in-room.ensures.1 c.args.member.now c.args.out.now _ c.run_lent-answer.ensures.place_value.1; work_after = with_cleared c.asked_for-i.result c.args.prelude.now c.asked_for-i.ensures c.args.work.now c.args.entered.now c.args.names.now c.args.known.now c.args.chains.now c.args.ends.now _ c.are_small-small.ensures _ c.room_in-room.ensures.0 c.room_in-room.ensures.1 _ _ c.area_for.result c.area_for.ensures c.room_in-room.ensures.2 c.run_lent-answer.ensures.same_area c.clear_bytes.ensures; tables_cleared = tables_asked c.asked_for-i.result c.args.prelude.now c.asked_for-i.ensures _ _ _ _ _ _ _ _ _ _ c.run_lent-answer.ensures.tables_cleared }
