-- `resolver_with::sizes::slots_for` meets its contract.
use native.Mathlib.Omega.{arith}
use Rattle.resolver_with.proofs.Zeros.{rows_are, rows_few}
use Rattle.resolver_with.proofs.sizes.slots_for.Goals as goal

pub overflow_add-result : goal.overflow_add-result
overflow_add-result c = let f = rows_few c.args.i _ c.of_input-limits.ensures in omega arith

pub returns : goal.returns
returns c = let f = rows_few c.args.i _ c.of_input-limits.ensures in let e = rows_are c.args.i _ c.of_input-limits.ensures in (omega arith, omega arith)
