-- `claim_rows::same::try_rows` meets its contract.
use mathlib.Core.Path.{◌≡◌}
use Prim.Native.Nat.{◌≤◌}
use Rattle.claim_rows.specs.Left.{rows_at}
use Rattle.claim_rows.specs.Same.{differs_t}
use Rattle.claim_rows.proofs.same.try_rows.Given as goal

abbrev pub invariant-loop-i : goal.invariant-loop-i
invariant-loop-i l = (differs_t l.i l.depth (rows_at l.claim l.i) (rows_at l.input l.j) ≡ differs_t 0 0 (rows_at l.claim 0) (rows_at l.input 0)) × (l.depth ≤ l.i)
