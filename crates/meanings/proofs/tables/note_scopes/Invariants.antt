-- `meanings::tables::note_scopes` meets its contract.
use mathlib.Core.Path.{◌≡◌}
use Prim.Native.Nat.{◌≤◌}
use lib.ListN.{length}
use Rattle.scopes.specs.Scopes.{scope_of}
use Rattle.scopes.specs.Tables.{Scopes}
use Rattle.meanings.proofs.tables.note_scopes.Given as goal

abbrev pub invariant-loop-row : goal.invariant-loop-row
invariant-loop-row l = Scopes l.form l.known l.row × (l.around ≡ scope_of l.form l.row) × (length l.known ≡ length l.initial.known) × (l.row ≤ 4096)
