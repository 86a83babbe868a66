-- `check_with::check_with` meets its contract.
use Rattle.check_with.proofs.Whole.{large_in, is_roomy, table_long, index_long, accepted_long, small_returns, refused_returns, judged_returns, table_after_lem, index_after_lem, areas_after}
use lib.ListN.{length}
use borrow.Author.Rules.{rules}
use Rattle.resolver_with.specs.Areas.{lent_of}
use Rattle.check_with.proofs.check_with.Goals as goal

pub returns-then-is_small : goal.returns-then-is_small
returns-then-is_small c = let args = c.args in
    let asks = c.asked_for-i.ensures in
    record { result_value = small_returns args.form.now c.shared_slice_known-1.given args.claim.now (length args.table.now) (length args.index.now) (lent_of args.entered.now args.names.now args.known.now args.chains.now args.ends.now) c.asked_for-i.result asks _ c.are_roomy-lent.ensures _ c.is_small.ensures c.if-is_small.true _ c.refuse_small.ensures; table_after = (table_after_lem args.form.now c.asked_for-i.result asks _ _ c.clear.ensures.0, index_after_lem args.form.now c.asked_for-i.result asks _ _ c.clear.ensures.1); cleared = areas_after args.form.now c.asked_for-i.result asks _ _ _ _ _ _ _ _ _ _ c.clear_areas.ensures }

pub try_lent-requires : goal.try_lent-requires
try_lent-requires c = let args = c.args in
    large_in c.asked_for-i.result args.entered.now args.names.now args.known.now args.chains.now args.ends.now (is_roomy c.asked_for-i.result (length args.table.now) (length args.index.now) (lent_of args.entered.now args.names.now args.known.now args.chains.now args.ends.now) _ c.are_roomy-lent.ensures _ c.is_small.ensures c.if-is_small.false)

pub judge_lent-requires : goal.judge_lent-requires
judge_lent-requires c = let args = c.args in
    (table_long c.asked_for-i.result (length args.table.now) (length args.index.now) (lent_of args.entered.now args.names.now args.known.now args.chains.now args.ends.now) _ c.are_roomy-lent.ensures _ c.is_small.ensures c.if-is_small.false, index_long c.asked_for-i.result (length args.table.now) (length args.index.now) (lent_of args.entered.now args.names.now args.known.now args.chains.now args.ends.now) _ c.are_roomy-lent.ensures _ c.is_small.ensures c.if-is_small.false, accepted_long c.asked_for-i.result args.form.now _ c.try_lent.ensures.value (search rules))

pub returns-in-Ok : goal.returns-in-Ok
returns-in-Ok c = let args = c.args in
    let asks = c.asked_for-i.ensures in
    record { result_value = judged_returns args.form.now c.shared_slice_known-1.given args.claim.now (length args.table.now) (length args.index.now) (lent_of args.entered.now args.names.now args.known.now args.chains.now args.ends.now) c.asked_for-i.result asks _ c.are_roomy-lent.ensures _ c.is_small.ensures c.if-is_small.false _ c.try_lent.ensures.value c.in-Ok.is _ c.judge_lent.ensures.value; table_after = (table_after_lem args.form.now c.asked_for-i.result asks _ _ c.judge_lent.ensures.table_after.0, index_after_lem args.form.now c.asked_for-i.result asks _ _ c.judge_lent.ensures.table_after.1); cleared = areas_after args.form.now c.asked_for-i.result asks _ _ _ _ _ _ _ _ _ _ c.try_lent.ensures.cleared }

pub returns-in-Err : goal.returns-in-Err
returns-in-Err c = let args = c.args in
    let asks = c.asked_for-i.ensures in
    record { result_value = refused_returns args.form.now c.shared_slice_known-1.given args.claim.now (length args.table.now) (length args.index.now) (lent_of args.entered.now args.names.now args.known.now args.chains.now args.ends.now) c.asked_for-i.result asks _ c.are_roomy-lent.ensures _ c.is_small.ensures c.if-is_small.false _ c.try_lent.ensures.value _ c.in-Err.is; table_after = (table_after_lem args.form.now c.asked_for-i.result asks _ _ c.clear-in-Err.ensures.0, index_after_lem args.form.now c.asked_for-i.result asks _ _ c.clear-in-Err.ensures.1); cleared = areas_after args.form.now c.asked_for-i.result asks _ _ _ _ _ _ _ _ _ _ c.try_lent.ensures.cleared }
