-- Rows with their notes from the last to the first.
use Rattle.std.specs.Prelude.{ℕ, zero, suc, List, [], ◌∷◌, slice_index_or}
use Rattle.parts.specs.PartsAt.{parts}
use Rattle.back_notes.specs.Note.{Note, no_note, Noted, row_at}

-- those before row i
unfoldable pub below : (rows : List ℕ) (noted : List Note) (i : ℕ) → List Noted
below rows noted zero = []
below rows noted (suc k) = row_at rows noted k ∷ below rows noted k

-- where there is no row
abbrev pub no_row : Noted
no_row = record { bytes = []; parts = parts 0 0 0 0 0 0; note = no_note }

abbrev pub nth : List Noted → (k : ℕ) → Noted
nth l k = slice_index_or l k no_row
