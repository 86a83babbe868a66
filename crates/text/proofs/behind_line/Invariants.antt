-- `text::behind_line` meets its contract. The invariant: the line is as long as what is passed of it and what is left.
use mathlib.Core.Path.{◌≡◌}
use Prim.Native.Nat.{◌+◌, ◌-◌, ◌≤◌}
use lib.ListN.{length, drop}
use Rattle.text.specs.Lines.{line_length}
use Rattle.text.proofs.behind_line.Given as goal

abbrev pub invariant-loop-end : goal.invariant-loop-end
invariant-loop-end l = (l.end + line_length (drop l.end l.text) ≡ l.from + line_length (drop l.from l.text)) × (l.from ≤ l.end) × (l.end ≤ length l.text)

abbrev pub decreases-loop-end : goal.decreases-loop-end
decreases-loop-end l = length l.text - l.end
