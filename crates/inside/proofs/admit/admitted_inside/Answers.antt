-- `inside::admit::admitted_inside` meets its contract.
use Rattle.inside.proofs.Ways.{admits, few_rows, enough, refuses_header}
use native.Mathlib.Omega.{arith}
use Rattle.inside.proofs.admit.admitted_inside.Goals as goal

pub overflow_mul-rows : goal.overflow_mul-rows
overflow_mul-rows c = let f = few_rows c.args.i c.args.form.now c.args.room _ c.held-limits.ensures _ c.header_to.ensures _ c.in_ok-rows.was in let h = c.header_size-header.ensures.1 in omega arith

pub overflow_add-header : goal.overflow_add-header
overflow_add-header c = let f = few_rows c.args.i c.args.form.now c.args.room _ c.held-limits.ensures _ c.header_to.ensures _ c.in_ok-rows.was in let h = c.header_size-header.ensures.1 in omega arith

pub returns-then-room-header : goal.returns-then-room-header
returns-then-room-header c = (search admits, search admits)

pub slice_bounds-read_rows-count : goal.slice_bounds-read_rows-count
slice_bounds-read_rows-count c = search admits

pub slice_bounds-read_rows-start : goal.slice_bounds-read_rows-start
slice_bounds-read_rows-start c = search admits

pub returns-in_err-rows : goal.returns-in_err-rows
returns-in_err-rows c = let e = refuses_header c.args.i c.args.form.now c.args.room _ c.held-limits.ensures _ c.header_to.ensures _ c.from_residual.result c.in_err-rows.was c.from_residual.ensures.1 in (e, enough _ _ _ _ e)

pub returns : goal.returns
returns c = (search admits, search admits)
