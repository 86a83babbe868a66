-- Where arcs lead.
use Rattle.std.specs.Prelude.{List, ℕ, Option, Some, None}
use Rattle.kit.specs.Pick.{pick}
use Rattle.row_parts.specs.Parts.{is_reference}
use Rattle.meanings.specs.Entries.{Entry, meaning_at}
use Rattle.readings.specs.declared.Meaning.{Meaning}

-- the row that is meant; a reference that means nothing has its own
abbrev pub row_meant : Option Meaning → (row : ℕ) → ℕ
row_meant (Some meaning) row = meaning.row
row_meant None row = row

-- from a reference to what it means, by the entries of the form; from any other row to itself
unfoldable pub target_of : (form : List ℕ) → List Entry → (row : ℕ) → ℕ
target_of form entries row = pick (is_reference form row) (row_meant (meaning_at form entries row) row) row
