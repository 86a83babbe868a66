-- `inside::run::resolve_around` meets its contract.
use mathlib.Core.Path.{sym}
use native.Mathlib.Omega.{arith}
use borrow.Author.Rules.{rules}
use lib.Seq.{length-take-le}
use Rattle.inside.proofs.Ways.{has_few, has_header_lem, has_room, resolves_early, resolves}
use Rattle.inside.proofs.run.resolve_around.Goals as goal

pub overflow_mul-size : goal.overflow_mul-size
overflow_mul-size c = let f = has_few c.args.i c.args.form.now c.args.out.now _ c.admitted_inside.ensures.0 c.args.entered.now c.args.names.now c.args.known.now c.args.chains.now c.args.ends.now c.requires c.admitted_inside.ensures.1 _ c.in_ok-rows.was in let h = c.header_size-header.ensures.1 in omega arith

pub overflow_add-size : goal.overflow_add-size
overflow_add-size c = let f = has_few c.args.i c.args.form.now c.args.out.now _ c.admitted_inside.ensures.0 c.args.entered.now c.args.names.now c.args.known.now c.args.chains.now c.args.ends.now c.requires c.admitted_inside.ensures.1 _ c.in_ok-rows.was in let h = c.header_size-header.ensures.1 in omega arith

pub slice_bounds-fill_inside-count : goal.slice_bounds-fill_inside-count
slice_bounds-fill_inside-count c = has_header_lem c.args.i c.args.form.now c.args.out.now _ c.admitted_inside.ensures.0 c.args.entered.now c.args.names.now c.args.known.now c.args.chains.now c.args.ends.now c.requires c.admitted_inside.ensures.1 _ c.in_ok-rows.was _ c.header_size-header.ensures.0

pub slice_bounds-fill_inside-start : goal.slice_bounds-fill_inside-start
slice_bounds-fill_inside-start c = has_header_lem c.args.i c.args.form.now c.args.out.now _ c.admitted_inside.ensures.0 c.args.entered.now c.args.names.now c.args.known.now c.args.chains.now c.args.ends.now c.requires c.admitted_inside.ensures.1 _ c.in_ok-rows.was _ c.header_size-header.ensures.0

pub slice_bounds-fill_inside-end-2 : goal.slice_bounds-fill_inside-end-2
slice_bounds-fill_inside-end-2 c = has_room c.args.i c.args.form.now c.args.out.now _ c.admitted_inside.ensures.0 c.args.entered.now c.args.names.now c.args.known.now c.args.chains.now c.args.ends.now c.requires c.admitted_inside.ensures.1 _ c.in_ok-rows.was _ c.header_size-header.ensures.0

pub slice_bounds-fill_inside-end-3 : goal.slice_bounds-fill_inside-end-3
slice_bounds-fill_inside-end-3 c = sym (length-take-le _ _ (has_room c.args.i c.args.form.now c.args.out.now _ c.admitted_inside.ensures.0 c.args.entered.now c.args.names.now c.args.known.now c.args.chains.now c.args.ends.now c.requires c.admitted_inside.ensures.1 _ c.in_ok-rows.was _ c.header_size-header.ensures.0))

pub returns-in_err-rows : goal.returns-in_err-rows
returns-in_err-rows c = resolves_early c.args.i c.args.form.now c.args.out.now _ c.admitted_inside.ensures.0 c.args.entered.now c.args.names.now c.args.known.now c.args.chains.now c.args.ends.now c.requires c.args.root.now _ c.in_err-rows.was c.from_residual.result (search rules)

pub returns : goal.returns
returns c = resolves c.args.i c.args.form.now c.args.out.now _ c.admitted_inside.ensures.0 c.args.entered.now c.args.names.now c.args.known.now c.args.chains.now c.args.ends.now c.requires c.admitted_inside.ensures.1 _ c.in_ok-rows.was _ c.header_size-header.ensures.0 c.args.root.now c.shared_slice_known-2-1.given _ _ c.fill_inside.ensures
