-- `copy::copy` meets its contract. The invariant: with what is left to copy, the buffer is as it must be.
use Prim.Native.Nat.{◌-◌}
use borrow.Author.Rules.{rules}
use Rattle.copy.proofs.Laws.{ways}
use Rattle.copy.proofs.copy.Goals as goal

pub loop-k-init : goal.loop-k-init
loop-k-init c = (search rules, search rules)

pub returns-then-to-i : goal.returns-then-to-i
returns-then-to-i c = search ways

pub loop-k-preserved : goal.loop-k-preserved
loop-k-preserved c = (search ways, search rules)

pub returns : goal.returns
returns c = search ways
