-- `text::lines::has_bracket` meets its contract. The invariant: a bracket opens from here on exactly if one opens from the start on.
use mathlib.Core.Path.{◌≡◌}
use Prim.Native.Nat.{◌-◌}
use lib.ListN.{length, drop}
use Rattle.text.specs.Lines.{has_bracket}
use Rattle.text.proofs.lines.has_bracket.Given as goal

abbrev pub invariant-loop-i : goal.invariant-loop-i
invariant-loop-i l = has_bracket (drop l.i l.line) ≡ has_bracket (drop l.from l.line)

abbrev pub decreases-loop-i : goal.decreases-loop-i
decreases-loop-i l = length l.line - l.i
