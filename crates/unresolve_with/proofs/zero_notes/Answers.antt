-- `unresolve_with::zero_notes` meets its contract.
use Prim.Native.Nat.{◌-◌}
use native.Mathlib.Omega.{arith}
use lib.ListN.{length-set}
use Rattle.areas.proofs.Zeros.{ways}
use Rattle.unresolve_with.proofs.zero_notes.Goals as goal

pub loop-i-init : goal.loop-i-init
loop-i-init c = search ways

pub offset_bounds-noted-i : goal.offset_bounds-noted-i
offset_bounds-noted-i c = search ways

pub bounds-noted-i : goal.bounds-noted-i
bounds-noted-i c = search ways

pub overflow_add-i : goal.overflow_add-i
overflow_add-i c = search ways

pub loop-i-smaller : goal.loop-i-smaller
loop-i-smaller c = search ways

pub loop-i-preserved : goal.loop-i-preserved
loop-i-preserved c = (search ways, simp length-set (omega arith), simp length-set (omega arith))

pub shape_of-noted : goal.shape_of-noted
shape_of-noted c = search ways

pub returns : goal.returns
returns c = search ways
