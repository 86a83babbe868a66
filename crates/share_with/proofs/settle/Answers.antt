-- `share_with::settle` meets its contract.
use Rattle.share_with.proofs.Ways.{left_roomy, fit_large, fit_bytes, never, marked_left, settled_areas}
use mathlib.Core.Path.{refl}
use Rattle.share_with.proofs.settle.Goals as goal

pub propose-proposed-requires : goal.propose-proposed-requires
propose-proposed-requires c = let args = c.args in
    let pre = c.requires in (
      left_roomy _ args.form.now _ _ _ args.entered.now args.names.now args.known.now args.chains.now args.ends.now pre.1 _ pre.0 c.shared_slice_known-1.given,
      fit_large _ args.form.now _ _ _ args.entered.now args.names.now args.known.now args.chains.now args.ends.now pre.1,
      fit_bytes _ args.form.now _ _ _ args.entered.now args.names.now args.known.now args.chains.now args.ends.now pre.1,
    )

pub returns-then-is_output : goal.returns-then-is_output
returns-then-is_output c = let checked = c.is_output.ensures in
    let proposed = c.propose-proposed.ensures in
    record { out_after = proposed.out_after; marked_after = (marked_left _ _ _ _ proposed.kept.0 c.clear_marked.ensures, checked.table_after.0, checked.table_after.1); cleared = settled_areas _ _ _ _ _ _ _ _ _ _ _ _ _ _ _ _ _ _ proposed.kept c.args.form.now c.args.i refl c.requires.1.asks checked.cleared }

pub returns : goal.returns
returns c = let proposed = c.propose-proposed.ensures in
    let args = c.args in
    let pre = c.requires in
    absurd
    (never _ args.form.now _ _ _ args.entered.now args.names.now args.known.now args.chains.now args.ends.now pre.1 _ pre.0 c.shared_slice_known-1.given args.marked.now refl _ _ proposed.out_after _ _ _ _ _ _ proposed.kept _ _ _ c.rows_of.ensures c.front_of-claim.ensures c.is_output.ensures.value c.if-is_output.false)
