-- `runs_rules::sum_of` is safe and ends. The measure is the bytes that are left.
use Rattle.std.specs.Prelude.{◌-◌, length}
use Rattle.runs_rules.proofs.sum_of.Given as goal

abbrev pub decreases-loop-i : goal.decreases-loop-i
decreases-loop-i l = length l.out - l.i
