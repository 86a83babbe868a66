-- `resolver::run::is_short` meets its contract.
use native.Mathlib.Omega.{arith}
use Rattle.resolver.proofs.Admits.{ways, short_few}
use Rattle.resolver.proofs.run.is_short.Goals as goal

pub overflow_mul-result : goal.overflow_mul-result
overflow_mul-result c = let f = short_few c.args.i c.args.form.now c.args.room _ c.of_input.ensures _ c.header_to.ensures _ c.in-Ok.is in omega arith

pub overflow_add-result : goal.overflow_add-result
overflow_add-result c = let f = short_few c.args.i c.args.form.now c.args.room _ c.of_input.ensures _ c.header_to.ensures _ c.in-Ok.is in omega arith

pub returns-in-Err-Wrong : goal.returns-in-Err-Wrong
returns-in-Err-Wrong c = search ways

pub returns-in-Err-Count : goal.returns-in-Err-Count
returns-in-Err-Count c = search ways

pub returns-in-Ok : goal.returns-in-Ok
returns-in-Ok c = search ways
