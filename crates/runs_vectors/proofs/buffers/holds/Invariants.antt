-- `runs_vectors::buffers::holds` is safe and ends. The measure is the bytes that are left.
use Rattle.std.specs.Prelude.{◌-◌}
use Rattle.runs_vectors.proofs.buffers.holds.Given as goal

abbrev pub decreases-loop-i : goal.decreases-loop-i
decreases-loop-i l = 65536 - l.i
