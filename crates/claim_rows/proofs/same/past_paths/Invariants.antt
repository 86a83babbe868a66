-- `claim_rows::same::past_paths` meets its contract.
use mathlib.Core.Path.{◌≡◌}
use Rattle.claim_rows.specs.Left.{rows_at}
use Rattle.claim_rows.specs.Same.{past_paths}
use Rattle.claim_rows.proofs.same.past_paths.Given as goal

abbrev pub invariant-loop-i : goal.invariant-loop-i
invariant-loop-i l = past_paths (rows_at l.rows l.i) ≡ past_paths (rows_at l.rows l.from)
