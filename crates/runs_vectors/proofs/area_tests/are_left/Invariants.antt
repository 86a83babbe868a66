-- `runs_vectors::area_tests::are_left` is safe and ends. The measure is the elements that are left.
use Rattle.std.specs.Prelude.{◌-◌}
use Rattle.runs_vectors.proofs.area_tests.are_left.Given as goal

abbrev pub decreases-loop-i : goal.decreases-loop-i
decreases-loop-i l = 32800 - l.i
