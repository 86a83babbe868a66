-- `runs_vectors::calls::put` is safe and ends. The invariant: the buffer keeps its length. The measure is the bytes that are left.
use Rattle.std.specs.Prelude.{◌-◌, ◌≡◌, ◌≤◌, length}
use Rattle.runs_vectors.proofs.calls.put.Given as goal

abbrev pub invariant-loop-i : goal.invariant-loop-i
invariant-loop-i l = (l.i ≤ length l.form) × (length l.buffer ≡ length l.initial.buffer)

abbrev pub decreases-loop-i : goal.decreases-loop-i
decreases-loop-i l = length l.form - l.i
