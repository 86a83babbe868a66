-- The other two passes: declarations under their numbers, and the names that OUTERs count to.
use Rattle.std.specs.Prelude.{List, [], ◌∷◌, ℕ, zero, suc, ◌+◌, ◌%◌, ◌/◌, eqb, ltb, length, get_or, set, unwrap_or}
use Rattle.kit.specs.Pick.{pick}
use Rattle.kit.specs.Out.{Out, ◌&◌}
use Rattle.parts.specs.declared.Parts.{Parts}
use Rattle.parts.specs.PartsAt.{parts_at}
use Rattle.names.specs.Table.{Slot, pushed}
use Rattle.claim_scopes.specs.Entries.{slot_t, look_t, enter_t}
use Rattle.back_notes.specs.Note.{Note, note, no_note, Noted, noted_at}

-- ---- entered under numbers

-- the slot of a DECL
unfoldable pub slot_of : Parts → Note → Slot
slot_of p n = slot_t (get_or n 1 0) p.b (get_or n 0 0 % 65536 + 1) p.x

-- enters a DECL with this note under its number, counted from 1
unfoldable pub entered_t : Parts → Note → List Slot → (used : ℕ) → Out ℕ (List Slot)
entered_t p n table used = pick (eqb p.code 2) (pushed table used (slot_of p n)) (used & table)

-- the slots that are used behind a row, of `room`
unfoldable pub note_entry_t : (room : ℕ) → List Slot → Parts → Note → List Slot
note_entry_t room ss p n = pick (eqb p.code 2) (enter_t room ss (slot_of p n)) ss

-- every DECL of these rows is entered
unfoldable pub slots_t : (room : ℕ) → List Slot → List Noted → List Slot
slots_t room ss [] = ss
slots_t room ss (r ∷ rs) = slots_t room (note_entry_t room ss r.parts r.note) rs

-- ---- looked up

-- what a number is entered under
unfoldable pub key_t : ℕ → ℕ
key_t number = pick (ltb number 65535) (number + 1) 0

-- the name of what an OUTER with this note counts to, 0 where there is nothing
unfoldable pub name_of_t : List Slot → Parts → Note → ℕ
name_of_t ss p n = unwrap_or (look_t ss (get_or n 1 0) p.b (key_t p.y)) 0

-- the note of a row with its name
unfoldable pub named_t : List Slot → Parts → Note → Note
named_t ss p n = pick (eqb p.code 5) (note (name_of_t ss p n) (get_or n 1 0)) n

-- notes the name of row i, if it is an OUTER
unfoldable pub name_row_t : List Slot → Parts → (i : ℕ) (noted : List Note) → List Note
name_row_t ss p i noted = pick (eqb p.code 5) (set noted i (named_t ss p (get_or noted i no_note))) noted

-- this many rows from row i on
unfoldable pub naming_t : List Slot → (rows : List ℕ) (noted : List Note) (i count : ℕ) → List Note
naming_t ss rows noted i zero = noted
naming_t ss rows noted i (suc count) = naming_t ss rows (name_row_t ss (parts_at rows i) i noted) (i + 1) count

-- notes the names that the OUTERs count to
unfoldable pub named_from : List Slot → (rows : List ℕ) (noted : List Note) → List Note
named_from ss rows noted = naming_t ss rows noted 0 (length rows / 16)

-- notes the names that the OUTERs of a numbered form count to
unfoldable pub names_t : (room : ℕ) (rows : List ℕ) (noted : List Note) → List Note
names_t room rows noted = named_from (slots_t room [] (noted_at rows noted 0)) rows noted
