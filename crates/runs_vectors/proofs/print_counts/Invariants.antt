-- `runs_vectors::print_counts` is safe and ends. The measure is the counts that are left.
use Rattle.std.specs.Prelude.{◌-◌}
use Rattle.runs_vectors.proofs.print_counts.Given as goal

abbrev pub decreases-loop-place : goal.decreases-loop-place
decreases-loop-place l = 15 - l.place
