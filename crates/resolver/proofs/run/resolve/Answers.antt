-- `resolver::run::resolve` meets its contract.
use Rattle.std.specs.Prelude.{Err}
use mathlib.Core.Path.{◌≡◌, refl, sym, ◌∙◌}
use native.Mathlib.Omega.{arith}
use borrow.Author.Rules.{rules}
use Rattle.refusal.specs.Refusals.{untold_of}
use Rattle.resolver.proofs.Agrees.{answers_early, leaves_early}
use Rattle.resolver.proofs.Laws.{has_header_lem, has_room, has_few, answers_run, leaves_run}
use Rattle.resolver.proofs.run.resolve.Goals as goal

pub overflow_mul-size : goal.overflow_mul-size
overflow_mul-size c = let f = has_few c.args.form.now c.args.out.now _ c.admitted.ensures.0 c.admitted.ensures.1 _ c.in_ok-rows.was in omega arith

pub overflow_add-size : goal.overflow_add-size
overflow_add-size c = let f = has_few c.args.form.now c.args.out.now _ c.admitted.ensures.0 c.admitted.ensures.1 _ c.in_ok-rows.was in omega arith

pub slice_bounds-fill-count : goal.slice_bounds-fill-count
slice_bounds-fill-count c = let f = has_header_lem c.args.form.now c.args.out.now _ c.admitted.ensures.0 c.admitted.ensures.1 _ c.in_ok-rows.was in omega arith

pub slice_bounds-fill-start : goal.slice_bounds-fill-start
slice_bounds-fill-start c = let f = has_header_lem c.args.form.now c.args.out.now _ c.admitted.ensures.0 c.admitted.ensures.1 _ c.in_ok-rows.was in omega arith

pub slice_bounds-fill-end-2 : goal.slice_bounds-fill-end-2
slice_bounds-fill-end-2 c = let f = has_room c.args.form.now c.args.out.now _ c.admitted.ensures.0 c.admitted.ensures.1 _ c.in_ok-rows.was in omega arith

pub returns-in_err-rows : goal.returns-in_err-rows
returns-in_err-rows c = let q = sym c.in_err-rows.was in let e = c.admitted.ensures.0 in let r : c.from_residual.result ≡ Err (untold_of c.in_err-rows.field-0.0) = search rules in (rw r (answers_early _ c.args.form.now _ _ (q ∙ e)), leaves_early _ c.args.form.now _ _ (q ∙ e) c.args.out.now refl)

pub shape_of-out : goal.shape_of-out
shape_of-out c = omega (arith, c.out-1.given)

pub returns : goal.returns
returns c = let a = c.admitted.ensures.0 in let b = c.admitted.ensures.1 in let g = c.in_ok-rows.was in (answers_run c.args.form.now c.args.out.now _ a b _ g c.shared_slice_known-1.given _ _ c.fill.ensures, leaves_run c.args.form.now c.args.out.now _ a b _ g c.shared_slice_known-1.given _ _ c.fill.ensures)
