-- `name_file::find` meets its contract. The invariant: what is left of the file makes of the line so far what the whole file makes.
use mathlib.Core.Path.{◌≡◌}
use Prim.Native.Nat.{◌-◌}
use lib.ListN.{length, drop}
use Rattle.name_file.specs.Names.{find_from, word_for}
use Rattle.name_file.proofs.find.Given as goal

abbrev pub invariant-loop-i : goal.invariant-loop-i
invariant-loop-i l = find_from (drop l.i l.names) l.i l.line l.number l.exported ≡ word_for l.names l.number l.exported

abbrev pub decreases-loop-i : goal.decreases-loop-i
decreases-loop-i l = length l.names - l.i
