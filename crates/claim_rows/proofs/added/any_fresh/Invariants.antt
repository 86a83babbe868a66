-- `claim_rows::added::any_fresh` meets its contract.
use mathlib.Core.Path.{◌≡◌}
use Rattle.claim_rows.specs.Left.{rows_at}
use Rattle.claim_rows.specs.Added.{any_fresh}
use Rattle.claim_rows.proofs.added.any_fresh.Given as goal

abbrev pub invariant-loop-i : goal.invariant-loop-i
invariant-loop-i l = any_fresh (rows_at l.rows l.i) ≡ any_fresh (rows_at l.rows l.from)
