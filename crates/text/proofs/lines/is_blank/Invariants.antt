-- `text::lines::is_blank` meets its contract. The invariant: the bytes from here on are blank exactly if all of them are.
use mathlib.Core.Path.{◌≡◌}
use Prim.Native.Nat.{◌-◌}
use lib.ListN.{length, drop}
use Rattle.text.specs.Lines.{is_blank}
use Rattle.text.proofs.lines.is_blank.Given as goal

abbrev pub invariant-loop-i : goal.invariant-loop-i
invariant-loop-i l = is_blank (drop l.i l.line) ≡ is_blank l.line

abbrev pub decreases-loop-i : goal.decreases-loop-i
decreases-loop-i l = length l.line - l.i
