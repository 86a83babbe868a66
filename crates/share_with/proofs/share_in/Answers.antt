-- `share_with::share_in` meets its contract.
use Rattle.check_with.proofs.Whole.{table_after_lem, index_after_lem}
use Rattle.share.proofs.Agrees.{own_answers, own_leaves, own_resolved}
use Rattle.share_with.proofs.Ways.{fit_lent, fit_still, marked_after, cleared_again, proposal_answers, proposal_leaves}
use mathlib.Core.Path.{refl}
use borrow.Author.Rules.{rules}
use Rattle.share_with.proofs.share_in.Goals as goal

pub resolve_own-own-requires : goal.resolve_own-own-requires
resolve_own-own-requires c = search (fit_lent, rules)

pub returns-then-own-ne0 : goal.returns-then-own-ne0
returns-then-own-ne0 c = let own = c.resolve_own-own.ensures in
    let emptied = c.clear_check.ensures in
    let asks = c.requires.asks in record {
      result_value = (search (own_answers, own.ran, rules), search (own_leaves, own.ran, rules));
      marked_after = (
        marked_after c.args.form.now c.args.i asks _ _ emptied.0,
        table_after_lem c.args.form.now c.args.i asks _ _ emptied.1,
        index_after_lem c.args.form.now c.args.i asks _ _ emptied.2,
      );
      cleared = own.cleared;
    }

pub settle-requires : goal.settle-requires
settle-requires c = let own = c.resolve_own-own.ensures in
    let args = c.args in (
      search (own_resolved, own.ran, rules),
      fit_still _ args.entered.now _ args.names.now _ args.known.now _ args.chains.now _ args.ends.now _ own.cleared _ _ _ _ _ c.requires,
    )

pub returns : goal.returns
returns c = let own = c.resolve_own-own.ensures in
    let settled = c.settle.ensures in
    let args = c.args in
    let all = c.shared_slice_known-1.given in
    let asks = c.requires.asks in record {
      result_value = (
        proposal_answers _ _ _ _ own.ran (search rules) all _ _ _ _ args.entered.now _ args.names.now _ args.known.now _ args.chains.now _ args.ends.now _ _ own.cleared c.requires args.marked.now refl _ _ settled.out_after,
        proposal_leaves _ _ _ _ own.ran (search rules) all _ _ _ _ args.entered.now _ args.names.now _ args.known.now _ args.chains.now _ args.ends.now _ _ own.cleared c.requires args.marked.now refl _ _ settled.out_after,
      );
      marked_after = (marked_after args.form.now args.i asks _ _ settled.marked_after.0, settled.marked_after.1, settled.marked_after.2);
      cleared = cleared_again _ _ _ _ _ _ _ _ _ _ _ own.cleared args.form.now args.i refl asks _ _ _ _ _ settled.cleared;
    }
