-- `share_with::share_with` meets its contract.
use Rattle.check_with.proofs.Whole.{table_after_lem, index_after_lem}
use Rattle.share_with.proofs.Ways.{small_answers, small_leaves, marked_after, fit_in, answers_with, leaves_with}
use lib.ListN.{length}
use Rattle.resolver_with.specs.Areas.{lent_of}
use Rattle.share_with.proofs.share_with.Goals as goal

pub returns-then-is_small : goal.returns-then-is_small
returns-then-is_small c = let ran = c.resolve_with.ensures in
    let emptied = c.clear_check.ensures in
    let found = c.asked_for-i in
    let args = c.args in record {
      result_value = (
        small_answers args.form.now found.result found.ensures (length args.marked.now) (length args.table.now) (length args.index.now) (lent_of args.entered.now args.names.now args.known.now args.chains.now args.ends.now) _ c.are_roomy-lent.ensures _ c.is_small.ensures c.if-is_small.true args.out.now c.resolve_with.result ran.0,
        small_leaves args.form.now found.result found.ensures (length args.marked.now) (length args.table.now) (length args.index.now) (lent_of args.entered.now args.names.now args.known.now args.chains.now args.ends.now) _ c.are_roomy-lent.ensures _ c.is_small.ensures c.if-is_small.true args.out.now _ ran.1,
      );
      marked_after = (
        marked_after args.form.now found.result found.ensures _ _ emptied.0,
        table_after_lem args.form.now found.result found.ensures _ _ emptied.1,
        index_after_lem args.form.now found.result found.ensures _ _ emptied.2,
      );
      cleared = ran.2;
    }

pub share_in-requires : goal.share_in-requires
share_in-requires c = let found = c.asked_for-i in
    let args = c.args in
    fit_in args.form.now found.result found.ensures (length args.marked.now) (length args.table.now) (length args.index.now) (lent_of args.entered.now args.names.now args.known.now args.chains.now args.ends.now) _ c.are_roomy-lent.ensures _ c.is_small.ensures c.if-is_small.false

pub returns : goal.returns
returns c = let shared = c.share_in.ensures in
    let found = c.asked_for-i in
    let args = c.args in record {
      result_value = (
        answers_with args.form.now found.result found.ensures (length args.marked.now) (length args.table.now) (length args.index.now) (lent_of args.entered.now args.names.now args.known.now args.chains.now args.ends.now) _ c.are_roomy-lent.ensures _ c.is_small.ensures c.if-is_small.false _ c.share_in.result shared.result_value.0,
        leaves_with args.form.now found.result found.ensures (length args.marked.now) (length args.table.now) (length args.index.now) (lent_of args.entered.now args.names.now args.known.now args.chains.now args.ends.now) _ c.are_roomy-lent.ensures _ c.is_small.ensures c.if-is_small.false _ _ shared.result_value.1,
      );
      marked_after = shared.marked_after;
      cleared = shared.cleared;
    }
