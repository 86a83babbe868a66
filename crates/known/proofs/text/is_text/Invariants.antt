-- `known::text::is_text` meets its contract. The invariant: the bytes from here on are text exactly if all of them are.
use mathlib.Core.Path.{◌≡◌}
use Prim.Native.Nat.{◌-◌}
use lib.ListN.{length, drop}
use Rattle.known.specs.Text.{is_text}
use Rattle.known.proofs.text.is_text.Given as goal

abbrev pub invariant-loop-i : goal.invariant-loop-i
invariant-loop-i l = is_text (drop l.i l.bytes) ≡ is_text l.bytes

abbrev pub decreases-loop-i : goal.decreases-loop-i
decreases-loop-i l = length l.bytes - l.i
