-- `sheet::begins` meets its contract. The invariant: what the bytes that are left say is what all say.
use mathlib.Core.Path.{◌≡◌}
use Prim.Native.Nat.{◌-◌}
use lib.ListN.{length, take, drop}
use Rattle.rules.specs.Answer.{same_numbers}
use Rattle.sheet.proofs.begins.Given as goal

abbrev pub invariant-loop-i : goal.invariant-loop-i
invariant-loop-i l = same_numbers (drop l.i l.bytes) (take (length l.bytes - l.i) (drop l.i l.area)) ≡ same_numbers l.bytes (take (length l.bytes) l.area)

abbrev pub decreases-loop-i : goal.decreases-loop-i
decreases-loop-i l = length l.bytes - l.i
