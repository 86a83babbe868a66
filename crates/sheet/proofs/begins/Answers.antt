-- `sheet::begins` meets its contract. The invariant: what the bytes that are left say is what all say.
use Prim.Native.Nat.{◌-◌}
use Rattle.sheet.proofs.Ways.{ways}
use Rattle.sheet.proofs.begins.Goals as goal

pub loop-i-init : goal.loop-i-init
loop-i-init c = search ways

pub returns-then-area-i : goal.returns-then-area-i
returns-then-area-i c = search ways

pub bounds-bytes-i : goal.bounds-bytes-i
bounds-bytes-i c = search ways

pub bounds-area-i : goal.bounds-area-i
bounds-area-i c = search ways

pub returns-then-bytes-i : goal.returns-then-bytes-i
returns-then-bytes-i c = search ways

pub overflow_add-i : goal.overflow_add-i
overflow_add-i c = search ways

pub loop-i-smaller : goal.loop-i-smaller
loop-i-smaller c = search ways

pub loop-i-preserved : goal.loop-i-preserved
loop-i-preserved c = search ways

pub returns : goal.returns
returns c = search ways
