-- All declarations of a claim, as the code enters them.
use Rattle.std.specs.Prelude.{Bool, List, [], ◌∷◌, ℕ, ◌+◌, ◌%◌, eqb, length}
use Rattle.kit.specs.Pick.{pick}
use Rattle.kit.specs.Out.{Out, ◌&◌}
use Rattle.parts.specs.declared.Parts.{Parts}
use Rattle.names.specs.Table.{Slot, pushed}
use Rattle.claim_rows.specs.Added.{is_added_t}
use Rattle.claim_scopes.specs.Open.{open_behind_t, open_in, here_t, open_one_t}
use Rattle.claim_scopes.specs.Entries.{slot_t, enter_t, laid_t}
use Rattle.claim_numbers.specs.Count.{count_before_t, number_before_t, counts_t}
use Rattle.claim_numbers.specs.declared.enter.Cursor.{Cursor}

-- ---- one row

-- the slot of a DECL with this number, which is row i
unfoldable pub decl_slot : (added : Bool) (scope : ℕ) → Parts → (number i : ℕ) → Slot
decl_slot added scope p number i = pick added (slot_t (scope % 65536 + 1) p.b (number % 65536 + 1) (i % 65536)) (slot_t scope p.b p.x number)

-- enters a DECL that is row i: an alias under its number counted from 1, with its row; one of the input under its name, with its number
unfoldable pub enter_decl_t : List Slot → (scope : ℕ) → Parts → (number i : ℕ) → Cursor → Out ℕ (List Slot)
enter_decl_t table scope p number i c = pick (eqb p.code 2) (pushed table c.used (decl_slot c.added scope p number i)) (c.used & table)

-- at a row, with these behind it: whether its field is added
unfoldable pub enter_at_t : Parts → List Parts → Cursor → Cursor
enter_at_t p ps c = record { depth = c.depth; used = c.used; added = is_added_t c.added p.code ps }

-- the cursor, the table, the scopes and their counts behind a row
abbrev pub Went : Type 0
Went = Out Cursor (Out (List Slot) (Out (List (List ℕ)) (List (List ℕ))))

unfoldable pub enter_went_t : Cursor → Out ℕ (List Slot) → Out ℕ (List (List ℕ)) → (counts : List (List ℕ)) → Went
enter_went_t c (used & table) (depth & scopes) counts = record { depth = depth; used = used; added = c.added } & table & scopes & counts

unfoldable pub enter_counted_t : Out ℕ (List (List ℕ)) → Parts → (i : ℕ) (table : List Slot) (scopes : List (List ℕ)) → Cursor → Went
enter_counted_t (number & counts) p i table scopes c = enter_went_t c (enter_decl_t table (here_t (open_in scopes c.depth)) p number i c) (open_behind_t scopes c.depth p i) counts

-- behind row i: it is entered if it is to be, and its scope is opened or closed
unfoldable pub enter_on_t : Parts → (i : ℕ) (table : List Slot) (scopes counts : List (List ℕ)) → Cursor → Went
enter_on_t p i table scopes counts c = enter_counted_t (count_before_t counts c.depth p) p i table scopes c

-- behind the first of these rows, which is row i
unfoldable pub enter_turn_t : List Parts → (i : ℕ) (table : List Slot) (scopes counts : List (List ℕ)) → Cursor → Went
enter_turn_t [] i table scopes counts c = c & table & scopes & counts
enter_turn_t (p ∷ ps) i table scopes counts c = enter_on_t p i table scopes counts (enter_at_t p ps c)

-- ---- all rows, from row i on

-- the slots that are used behind a row
unfoldable pub decl_entry_t : (room : ℕ) (added : Bool) → List Slot → (scope : ℕ) → Parts → (number i : ℕ) → List Slot
decl_entry_t room added ss scope p number i = pick (eqb p.code 2) (enter_t room ss (decl_slot added scope p number i)) ss

-- `added`: whether the field of the row before is; `st`: the scopes that are open; `cs`: how many declarations they have;
-- `ss`: the slots that are used, of `room`
unfoldable pub entries_t : (room i : ℕ) (added : Bool) (st cs : List (List ℕ)) (ss : List Slot) → List Parts → List Slot
entries_t room i added st cs ss [] = ss
entries_t room i added st cs ss (p ∷ ps) =
    let a = is_added_t added p.code ps in
    entries_t room (i + 1) a (open_one_t 64 st p i) (counts_t 64 cs p) (decl_entry_t room a ss (here_t st) p (number_before_t cs p) i) ps

-- how many they are, and the whole table
unfoldable pub laid_by : (ss table : List Slot) → Out ℕ (List Slot)
laid_by ss table = length ss & laid_t ss table
