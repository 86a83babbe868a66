-- `resolver_with::run::run_in` meets its contract.
use Rattle.std.specs.Prelude.{Err}
use mathlib.Core.Path.{◌≡◌, sym}
use native.Mathlib.Omega.{arith}
use borrow.Author.Rules.{rules}
use Rattle.refusal.specs.Refusals.{untold_of}
use lib.Seq.{length-take-le}
use Rattle.resolver_with.proofs.Runs.{ran_as, refuses_in, has_suits, has_few, has_header_lem, has_room, runs_in}
use Rattle.resolver_with.proofs.run.run_in.Goals as goal

pub overflow_mul-size : goal.overflow_mul-size
overflow_mul-size c = let f = has_few c.args.i c.args.form.now c.args.out.now c.args.entered.now c.args.names.now c.args.known.now c.args.chains.now c.args.ends.now _ c.is_exact-enough.ensures _ c.room_if.ensures _ c.admitted.ensures.0 c.admitted.ensures.1 _ c.in_ok-rows.was in omega arith

pub overflow_add-size : goal.overflow_add-size
overflow_add-size c = let f = has_few c.args.i c.args.form.now c.args.out.now c.args.entered.now c.args.names.now c.args.known.now c.args.chains.now c.args.ends.now _ c.is_exact-enough.ensures _ c.room_if.ensures _ c.admitted.ensures.0 c.admitted.ensures.1 _ c.in_ok-rows.was in let h = c.header_size-header.ensures.1 in omega arith

pub slice_bounds-fill_in-count : goal.slice_bounds-fill_in-count
slice_bounds-fill_in-count c = let f = has_header_lem c.args.i c.args.form.now c.args.out.now c.args.entered.now c.args.names.now c.args.known.now c.args.chains.now c.args.ends.now _ c.is_exact-enough.ensures _ c.room_if.ensures _ c.admitted.ensures.0 c.admitted.ensures.1 _ c.in_ok-rows.was in let h = c.header_size-header.ensures.0 in omega arith

pub slice_bounds-fill_in-start : goal.slice_bounds-fill_in-start
slice_bounds-fill_in-start c = let f = has_header_lem c.args.i c.args.form.now c.args.out.now c.args.entered.now c.args.names.now c.args.known.now c.args.chains.now c.args.ends.now _ c.is_exact-enough.ensures _ c.room_if.ensures _ c.admitted.ensures.0 c.admitted.ensures.1 _ c.in_ok-rows.was in let h = c.header_size-header.ensures.0 in omega arith

pub slice_bounds-fill_in-end-2 : goal.slice_bounds-fill_in-end-2
slice_bounds-fill_in-end-2 c = let f = has_room c.args.i c.args.form.now c.args.out.now c.args.entered.now c.args.names.now c.args.known.now c.args.chains.now c.args.ends.now _ c.is_exact-enough.ensures _ c.room_if.ensures _ c.admitted.ensures.0 c.admitted.ensures.1 _ c.in_ok-rows.was in let h = c.header_size-header.ensures.0 in omega arith

pub slice_bounds-fill_in-end-3 : goal.slice_bounds-fill_in-end-3
slice_bounds-fill_in-end-3 c = let f = has_room c.args.i c.args.form.now c.args.out.now c.args.entered.now c.args.names.now c.args.known.now c.args.chains.now c.args.ends.now _ c.is_exact-enough.ensures _ c.room_if.ensures _ c.admitted.ensures.0 c.admitted.ensures.1 _ c.in_ok-rows.was in let h = c.header_size-header.ensures.0 in sym (length-take-le _ _ (omega arith))

pub fill_in-requires : goal.fill_in-requires
fill_in-requires c = has_suits c.args.i c.args.form.now c.args.out.now c.args.entered.now c.args.names.now c.args.known.now c.args.chains.now c.args.ends.now _ c.is_exact-enough.ensures _ c.room_if.ensures _ c.admitted.ensures.0 c.admitted.ensures.1 _ c.in_ok-rows.was

pub returns-in_err-rows : goal.returns-in_err-rows
returns-in_err-rows c = let r : Err (untold_of c.in_err-rows.field-0.0) ≡ c.from_residual.result = search rules in ran_as _ _ _ _ _ _ _ r (refuses_in c.args.i c.args.form.now c.args.out.now c.args.entered.now c.args.names.now c.args.known.now c.args.chains.now c.args.ends.now _ c.is_exact-enough.ensures _ c.room_if.ensures _ c.admitted.ensures.0 _ c.in_err-rows.was)

pub returns : goal.returns
returns c = runs_in c.args.i c.args.form.now c.args.out.now c.args.entered.now c.args.names.now c.args.known.now c.args.chains.now c.args.ends.now _ c.is_exact-enough.ensures _ c.room_if.ensures _ c.admitted.ensures.0 c.admitted.ensures.1 _ c.in_ok-rows.was _ c.header_size-header.ensures.0 c.shared_slice_known-1.given _ _ c.fill_in.ensures
