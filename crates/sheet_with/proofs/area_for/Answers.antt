-- `sheet_with::area_for` meets its contract.
use native.Mathlib.Omega.{arith}
use Rattle.sheet_with.proofs.Ways.{rows_few, area_sized, area_few}
use Rattle.sheet_with.proofs.area_for.Goals as goal

pub overflow_mul-result : goal.overflow_mul-result
overflow_mul-result c = let f = rows_few c.args.i _ c.of_input-limits.ensures _ c.header_size.ensures.0 in omega (arith, f)

pub overflow_add-result : goal.overflow_add-result
overflow_add-result c = let f = rows_few c.args.i _ c.of_input-limits.ensures _ c.header_size.ensures.0 in let h = c.header_size.ensures.1 in omega (arith, f, h)

pub returns : goal.returns
returns c = (area_sized c.args.i _ c.of_input-limits.ensures _ c.header_size.ensures.0, area_few c.args.i _ c.of_input-limits.ensures _ c.header_size.ensures.0 c.header_size.ensures.1)
