-- `meanings::note_rows` meets its contract.
use mathlib.Core.Path.{◌≡◌}
use Prim.Native.Nat.{◌-◌}
use lib.ListN.{length}
use Rattle.row_parts.specs.Parts.{rows_in}
use Rattle.meanings.specs.Entries.{note_from}
use Rattle.meanings.proofs.note_rows.Given as goal

abbrev pub invariant-loop-row : goal.invariant-loop-row
invariant-loop-row l = (note_from l.form l.entries l.row (l.rows - l.row) ≡ note_from l.form l.initial.entries 0 (rows_in l.form)) × (length l.entries ≡ length l.initial.entries)
