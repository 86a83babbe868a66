-- `form::header::is_zero` meets its contract. The invariant: from here on is as from the start.
use mathlib.Core.Path.{◌≡◌}
use Prim.Native.Nat.{◌-◌}
use lib.ListN.{take, drop}
use Rattle.rules.specs.Tools.{zeros}
use Rattle.form.proofs.header.is_zero.Given as goal

abbrev pub invariant-loop-i : goal.invariant-loop-i
invariant-loop-i l = zeros (drop l.i (take l.to l.form)) ≡ zeros (drop l.from (take l.to l.form))

abbrev pub decreases-loop-i : goal.decreases-loop-i
decreases-loop-i l = l.to - l.i
