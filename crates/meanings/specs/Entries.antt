-- What is noted of the rows of a form: the declaration that each has or means.
use Rattle.std.specs.Prelude.{Bool, ◌&&◌, List, [], ◌∷◌, ℕ, zero, suc, ◌+◌, ◌-◌, eqb, ltb, leb, length, get_or, set, Option, Some, None}
use Rattle.kit.specs.Pick.{pick}
use Rattle.row_parts.specs.Parts.{code_at, x_at, rows_in, next_of, is_reference}
use Rattle.scopes.specs.Scopes.{number_of}
use Rattle.readings.specs.Meaning.{meaning_of, is_inserted_outer}
use Rattle.readings.specs.declared.Meaning.{Meaning}

-- four numbers
abbrev pub Entry : Type 0
Entry = List ℕ

-- its four numbers: one more than the row, the number, how many scopes out, the name
abbrev pub entry : (row number out name : ℕ) → Entry
entry row number out name = row ∷ number ∷ out ∷ name ∷ []

-- that of no declaration
abbrev pub no_entry : Entry
no_entry = entry 0 0 0 0

-- a declaration's row is noted as one more, so that 0 says that there is none
abbrev pub told : Option Meaning → Entry
told (Some meaning) = entry (meaning.row + 1) meaning.number meaning.out meaning.name
told None = no_entry

-- of a DECL itself, of a REF or an OUTER what it means, of any other row none
unfoldable pub meant_by : (form : List ℕ) (row : ℕ) → Option Meaning
meant_by form row =
    pick (eqb (code_at form row) 2) (Some (record { row = row; number = number_of form row; out = 0; name = x_at form row }))
    (pick (is_reference form row) (meaning_of form row) None)

-- the entries of the rows from `row` on, of which `left` are left
unfoldable pub note_from : (form : List ℕ) → List Entry → (row left : ℕ) → List Entry
note_from form entries row zero = entries
note_from form entries row (suc left) = note_from form (set entries row (told (meant_by form row))) (row + 1) left

-- the entries that there is room for; a form of more than 4,096 rows has none
unfoldable pub noted : (form : List ℕ) → List Entry → List Entry
noted form entries = pick (ltb 4096 (rows_in form)) entries (note_from form entries 0 (rows_in form))

-- ---- what is read of them

-- is there an entry of a row?
unfoldable pub is_noted : (form : List ℕ) → List Entry → (row : ℕ) → Bool
is_noted form entries row = leb (rows_in form) 4096 && (ltb row (rows_in form) && ltb row (length entries))

-- no row has a number past 65,535
unfoldable pub read : Entry → Option Meaning
read e = pick (eqb (get_or e 0 0) 0) None (pick (ltb 65536 (get_or e 0 0)) None (Some (record { row = get_or e 0 0 - 1; number = get_or e 1 0; out = get_or e 2 0; name = get_or e 3 0 })))

-- what a reference means, and without an entry the same by the readings
unfoldable pub meaning_at : (form : List ℕ) → List Entry → (row : ℕ) → Option Meaning
meaning_at form entries row = pick (is_noted form entries row) (read (get_or entries row no_entry)) (meaning_of form row)

-- the number of the declaration at a DECL row
unfoldable pub number_at : (form : List ℕ) → List Entry → (row : ℕ) → ℕ
number_at form entries row = pick (is_noted form entries row) (get_or (get_or entries row no_entry) 1 0) (number_of form row)

-- behind an inserted outer alias, what its OUTER means
unfoldable pub behind_at : (form : List ℕ) → List Entry → Option Meaning → Option Meaning
behind_at form entries (Some meaning) = pick (is_inserted_outer form meaning.row) (meaning_at form entries (next_of meaning.row)) (Some meaning)
behind_at form entries None = None

-- what a reference means in the end: behind an inserted outer alias, what its OUTER means
unfoldable pub final_at : (form : List ℕ) → List Entry → (row : ℕ) → Option Meaning
final_at form entries row = behind_at form entries (meaning_at form entries row)
