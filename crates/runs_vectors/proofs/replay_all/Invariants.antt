-- `runs_vectors::replay_all` is safe and ends. The measure is the turns that are left.
use Rattle.runs_vectors.proofs.replay_all.Given as goal

abbrev pub decreases-loop-turns : goal.decreases-loop-turns
decreases-loop-turns l = l.turns
