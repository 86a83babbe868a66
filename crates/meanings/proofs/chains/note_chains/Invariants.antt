-- `meanings::chains::note_chains` meets its contract.
use mathlib.Core.Path.{◌≡◌}
use Prim.Native.Nat.{◌≤◌}
use lib.ListN.{length}
use Rattle.row_parts.specs.Parts.{rows_in}
use Rattle.scopes.specs.Tables.{Chains}
use Rattle.meanings.proofs.chains.note_chains.Given as goal

abbrev pub invariant-loop-row : goal.invariant-loop-row
invariant-loop-row l = Chains l.form l.kind l.chains l.row × (l.row ≤ rows_in l.form) × (length l.chains ≡ length l.initial.chains)
