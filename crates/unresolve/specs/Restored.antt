-- The restored form of the setting at place i, as the code puts it: in notes that are lent, with a table of this many slots.
use Rattle.std.specs.Prelude.{List, [], ◌++◌, ℕ, ◌-◌, ◌*◌, ◌/◌, length, take, drop, replicate}
use Rattle.std.proofs.lemmas.List.Edits.{sets}
use Rattle.kit.specs.Out.{Out, ◌&◌}
use Rattle.rules.specs.Answer.{header_bytes}
use Rattle.limits.specs.Held.{setting}
use Rattle.claim_rows.specs.Left.{rows_at}
use Rattle.back_notes.specs.Note.{Note, no_note}
use Rattle.back_notes.specs.Number.{notes_t}
use Rattle.back_notes.specs.Names.{names_t}
use Rattle.back_rows.specs.Below.{below}
use Rattle.back_rows.specs.Restore.{Wrote}
use Rattle.back_rows.specs.Write.{start_t, write_back_t}

-- those of version 1, which start empty
abbrev pub no_notes : List Note
no_notes = replicate 4092 no_note

-- the notes after both passes
unfoldable pub noted_t : (slots : ℕ) (noted : List Note) (rows : List ℕ) → List Note
noted_t slots noted rows = names_t slots rows (sets noted 0 (notes_t 0 [] [] (rows_at rows 0)))

-- writes the restored rows to the end of `out`, and answers the row at which they begin there
unfoldable pub restore_rows_t : (slots : ℕ) (noted : List Note) (rows out : List ℕ) → Wrote
restore_rows_t slots noted rows out = write_back_t (below rows (noted_t slots noted rows) (length rows / 16)) (start_t (length out / 16)) out

-- `front` is what stands before the rows: the header overwrites the last of it
unfoldable pub headed_t : (i : ℕ) (front : List ℕ) → Wrote → Out ℕ (List ℕ)
headed_t i front (to & body) =
    let count = (setting i).version.rows - to in
    let at = 16 * ((setting i).version.rows - count) in
    at & take at (front ++ body) ++ sets (drop at (front ++ body)) 0 (header_bytes (setting i) count)

-- the restored form at the end of the area: its header, and its rows from the last to the first
unfoldable pub restore_t : (i slots : ℕ) (noted : List Note) (rows area : List ℕ) → Out ℕ (List ℕ)
restore_t i slots noted rows area =
    headed_t i (take (setting i).version.header area) (restore_rows_t slots noted rows (drop (setting i).version.header area))
