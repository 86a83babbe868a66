-- `areas::fill` meets its contract.
use mathlib.Core.Path.{◌≡◌}
use lib.ListN.{length, take, replicate}
use Rattle.areas.proofs.fill.Given as goal

abbrev pub invariant-loop-i : goal.invariant-loop-i
invariant-loop-i g l = (take l.i l.area ≡ replicate l.i l.entry) × (length l.area ≡ length l.initial.area)
