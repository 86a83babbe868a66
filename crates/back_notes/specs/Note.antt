-- Rows with what is noted of them.
use Rattle.std.specs.Prelude.{List, [], ◌∷◌, ℕ, zero, suc, ◌+◌, ◌-◌, ◌*◌, ◌/◌, length, get_or, take, drop}
use Rattle.parts.specs.declared.Parts.{Parts}
use Rattle.parts.specs.PartsAt.{parts_at}

-- two numbers
abbrev pub Note : Type 0
Note = List ℕ

abbrev pub note : (value scope : ℕ) → Note
note value scope = value ∷ scope ∷ []

-- what is noted of a row that is no DECL and no OUTER
abbrev pub no_note : Note
no_note = note 0 0

-- a row: its sixteen bytes, its parts and its note
pub record Noted : Type 0 where
  pub bytes : List ℕ
  pub parts : Parts
  pub note : Note

-- row i
unfoldable pub row_at : (rows : List ℕ) (noted : List Note) (i : ℕ) → Noted
row_at rows noted i = record { bytes = take 16 (drop (16 * i) rows); parts = parts_at rows i; note = get_or noted i no_note }

-- this many rows from row i on
unfoldable pub noted_from : (rows : List ℕ) (noted : List Note) (i count : ℕ) → List Noted
noted_from rows noted i zero = []
noted_from rows noted i (suc count) = row_at rows noted i ∷ noted_from rows noted (i + 1) count

-- those from row i on to the last
unfoldable pub noted_at : (rows : List ℕ) (noted : List Note) (i : ℕ) → List Noted
noted_at rows noted i = noted_from rows noted i (length rows / 16 - i)
