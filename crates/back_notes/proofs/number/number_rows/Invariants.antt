-- `back_notes::number::number_rows` meets its contract.
use Rattle.back_notes.proofs.Ways.{Goes}
use mathlib.Core.Path.{◌≡◌}
use mathlib.Core.List.{[]}
use lib.ListN.{length}
use lib.Seq.{sets}
use Rattle.claim_rows.specs.Left.{rows_at}
use Rattle.back_notes.specs.Number.{notes_t}
use Rattle.back_notes.proofs.number.number_rows.Given as goal

abbrev pub invariant-loop-i : goal.invariant-loop-i
invariant-loop-i l = Goes l.rows l.scopes l.counts l.noted l.depth l.i (sets l.initial.noted 0 (notes_t 0 [] [] (rows_at l.rows 0))) × (length l.noted ≡ length l.initial.noted)
