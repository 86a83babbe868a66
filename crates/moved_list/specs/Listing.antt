-- The entries of an input's rows, in their order, and the two lists written.
use Rattle.std.specs.Prelude.{◌||◌, List, [], ◌∷◌, ℕ, zero, suc, ◌+◌, ◌*◌, ◌-◌, eqb, length, Option, Some, None}
use Rattle.std.proofs.lemmas.List.Edits.{sets}
use Rattle.kit.specs.Pick.{pick}
use Rattle.kit.specs.Out.{Out, ◌&◌}
use Rattle.row_parts.specs.Parts.{code_at, rows_in}
use Rattle.moving.specs.Moved.{MovedNumber, NoItem}
use Rattle.moving.specs.MovedAnswer.{moved_bytes, apart_bytes}
use Rattle.numbers.specs.Entries.{entry_at}
use Rattle.moved_list.specs.declared.Listed.{Listed}
use Rattle.numbers.specs.declared.Entry.TheVariants.{Moved, Apart}
use Rattle.numbers.specs.declared.Entry.{Entry}

-- ---- a row of the output in the same scope

-- behind the next OPEN or CLOSE from `row` on, where `left` rows are left
unfoldable pub behind_from : (out : List ℕ) (row left : ℕ) → ℕ
behind_from out row zero = row
behind_from out row (suc left) = pick (eqb (code_at out row) 7 || eqb (code_at out row) 8) (row + 1) (behind_from out (row + 1) left)

-- the row behind the next OPEN or CLOSE, from a row on
unfoldable pub behind_next : (out : List ℕ) (row : ℕ) → ℕ
behind_next out row = behind_from out row (rows_in out - row)

-- behind a row of the input that has that code
unfoldable pub follow : (out : List ℕ) (at code : ℕ) → ℕ
follow out at code = pick (eqb code 7 || eqb code 8) (behind_next out at) at

-- ---- the entries

-- of the rows from `row` on, of which `left` are left; `at` is in the scope of `row`, or before its OPEN
unfoldable pub entries_from : (form out : List ℕ) (row left at : ℕ) → List (Option Entry)
entries_from form out row zero at = []
entries_from form out row (suc left) at =
    let here = follow out at (code_at form row) in
    entry_at form row out here ∷ entries_from form out (row + 1) left here

-- the entries of both lists together, in the order of rows
unfoldable pub entries_in : (form out : List ℕ) → List (Option Entry)
entries_in form out = entries_from form out 0 (rows_in form) 0

-- an entry of the first list, by its four numbers
abbrev pub moved_number : (z space meant gets : ℕ) → MovedNumber
moved_number z space meant gets = record { z = z; space = space; meant = meant; gets = gets }

-- an entry of the second list, by its three numbers
abbrev pub no_item : (z space number : ℕ) → NoItem
no_item z space number = record { z = z; space = space; number = number }

-- those of the first list
unfoldable pub moved_of : List (Option Entry) → List MovedNumber
moved_of [] = []
moved_of (Some (Moved z space meant gets) ∷ es) = moved_number z space meant gets ∷ moved_of es
moved_of (Some (Apart z space number) ∷ es) = moved_of es
moved_of (None ∷ es) = moved_of es

-- those of the second
unfoldable pub apart_of : List (Option Entry) → List NoItem
apart_of [] = []
apart_of (Some (Moved z space meant gets) ∷ es) = apart_of es
apart_of (Some (Apart z space number) ∷ es) = no_item z space number ∷ apart_of es
apart_of (None ∷ es) = apart_of es

-- ---- the lists

abbrev pub listed : (moved apart : ℕ) → Listed
listed moved apart = record { moved = moved; apart = apart }

-- no entry on either list
abbrev pub none : Listed
none = listed 0 0

-- further entries behind those so far: how many there are then, and what the two lists hold
unfoldable pub noted : Listed → (moved apart : List ℕ) → List (Option Entry) → Out Listed (Out (List ℕ) (List ℕ))
noted s moved apart es =
    listed (s.moved + length (moved_of es)) (s.apart + length (apart_of es))
    & sets moved (16 * s.moved) (moved_bytes (moved_of es))
    & sets apart (12 * s.apart) (apart_bytes (apart_of es))
