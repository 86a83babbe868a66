-- `text::parse` meets its contract. The invariant: the lines from here on make of the rows so far what all lines make.
use mathlib.Core.Path.{◌≡◌}
use Prim.Native.Nat.{◌-◌, ◌≤◌}
use lib.ListN.{length, drop}
use Rattle.text.specs.Lines.{lines_of}
use Rattle.text.specs.Text.{most_rows, lines_then, parsed}
use Rattle.text.proofs.parse.Given as goal

abbrev pub invariant-loop-from : goal.invariant-loop-from
invariant-loop-from l = (lines_then (lines_of (drop l.from l.text)) l.most l.line l.rows l.out ≡ parsed l.text l.initial.out) × (l.most ≡ most_rows (length l.initial.out)) × (length l.out ≡ length l.initial.out) × (l.rows ≤ l.most) × (l.line ≤ l.from) × (l.from ≤ length l.text)

abbrev pub decreases-loop-from : goal.decreases-loop-from
decreases-loop-from l = length l.text - l.from
