-- `name_file::wrong_line` meets its contract. The invariant: what is left of the file makes of the line and the count so far what the whole file makes.
use mathlib.Core.Path.{◌≡◌}
use Prim.Native.Nat.{◌-◌}
use lib.ListN.{length, drop}
use Rattle.name_file.specs.Names.{wrong_from, wrong_line}
use Rattle.name_file.proofs.wrong_line.Given as goal

abbrev pub invariant-loop-i : goal.invariant-loop-i
invariant-loop-i l = wrong_from (drop l.i l.names) l.i l.line l.count ≡ wrong_line l.names

abbrev pub decreases-loop-i : goal.decreases-loop-i
decreases-loop-i l = length l.names - l.i
