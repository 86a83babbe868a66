-- `form::part::field_end` meets its contract.
use native.Mathlib.Omega.{arith}
use Rattle.form.proofs.FieldEnd.{ways}
use Rattle.form.proofs.part.field_end.Goals as goal

pub returns-then-ends-at : goal.returns-then-ends-at
returns-then-ends-at c = (search ways, omega arith, omega arith)

pub returns-then-end-at : goal.returns-then-end-at
returns-then-end-at c = (search ways, omega arith, omega arith)

pub returns-then-rows-end : goal.returns-then-rows-end
returns-then-rows-end c = (search ways, omega arith, omega arith)

pub returns : goal.returns
returns c = (search ways, omega arith, omega arith)
