-- `files::path_parts::copy` is safe. The invariant: the buffer keeps its length.
use mathlib.Core.Path.{◌≡◌}
use lib.ListN.{length}
use Rattle.files.proofs.path_parts.copy.Given as goal

abbrev pub invariant-loop-i : goal.invariant-loop-i
invariant-loop-i l = length l.buffer ≡ length l.initial.buffer
