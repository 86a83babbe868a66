-- `meanings::chains::note_numbers` meets its contract.
use mathlib.Core.Path.{◌≡◌}
use Prim.Native.Nat.{◌≤◌}
use lib.ListN.{length}
use Rattle.row_parts.specs.Parts.{rows_in}
use Rattle.scopes.specs.Tables.{Scopes, Counts, Chains}
use Rattle.meanings.proofs.chains.note_numbers.Given as goal

abbrev pub invariant-loop-row : goal.invariant-loop-row
invariant-loop-row l = Scopes l.form l.known 4096 × Counts l.form l.known l.row × Chains l.form 0 l.spaces l.row × (l.row ≤ rows_in l.form) × (length l.known ≡ length l.initial.known) × (length l.spaces ≡ length l.initial.spaces)
