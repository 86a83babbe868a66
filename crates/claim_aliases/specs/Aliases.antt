-- Condition 3 as the code tries it: the claim's rows one after another.
use Rattle.std.specs.Prelude.{Bool, true, false, ◌&&◌, ◌||◌, not, List, [], ◌∷◌, ℕ, ◌+◌, ◌-◌, eqb, ltb, take, Option, Some, None, Result, Ok, Err, ⊤, is_some}
use Rattle.kit.specs.Pick.{pick}
use Rattle.kit.specs.Out.{Out, ◌&◌}
use Rattle.parts.specs.declared.Parts.{Parts}
use Rattle.names.specs.Table.{Slot, pushed}
use Rattle.claim_rows.specs.Added.{is_added_t}
use Rattle.claim_scopes.specs.Open.{open_behind_t, open_in, here_t, open_one_t}
use Rattle.claim_scopes.specs.Entries.{slot_t, look_t, enter_t, laid_t}
use Rattle.index.specs.Indexed.{Holds}
use Rattle.claim_aliases.specs.declared.Cursor.{Cursor}

-- ---- one row

-- whether a field of this code is an alias
unfoldable pub is_alias : (code : ℕ) → Bool
is_alias code = eqb code 9 || (eqb code 10 || eqb code 11)

-- a name from 2147483648 up, counted from 1; 0 for any other
abbrev pub alias_new_t : ℕ → ℕ
alias_new_t name = name - 2147483647

-- was the name of a DECL entered for its scope and space?
unfoldable pub is_known : List Slot → (scope : ℕ) → Parts → Bool
is_known ss scope p = is_some (look_t ss scope p.b (alias_new_t p.x))

-- does the row break the condition?
unfoldable pub alias_breaks_t : (added : Bool) → List Slot → (scope : ℕ) → Parts → Bool
alias_breaks_t added ss scope p =
    pick added (pick (eqb p.code 1) (not (is_alias p.b)) (pick (eqb p.code 2) (is_known ss scope p) ((eqb p.code 3 || eqb p.code 5) && ltb 0 p.e))) false

-- the slot of a DECL
unfoldable pub name_slot : (scope : ℕ) → Parts → Slot
name_slot scope p = slot_t scope p.b (alias_new_t p.x) 0

-- a table behind the row
unfoldable pub alias_entered_t : (added : Bool) → List Slot → (used scope : ℕ) → Parts → Out ℕ (List Slot)
alias_entered_t added table used scope p = pick added (pick (eqb p.code 2) (pushed table used (name_slot scope p)) (used & table)) (used & table)

-- at a row, with these behind it: whether its field is added
unfoldable pub alias_at_t : Parts → List Parts → Cursor → Cursor
alias_at_t p ps c = record { depth = c.depth; used = c.used; added = is_added_t c.added p.code ps }

-- the cursor, the table and the scopes behind a row
abbrev pub Went : Type 0
Went = Out Cursor (Out (List Slot) (List (List ℕ)))

unfoldable pub alias_went_t : (added : Bool) → Out ℕ (List Slot) → Out ℕ (List (List ℕ)) → Went
alias_went_t added (used & table) (depth & scopes) = record { depth = depth; used = used; added = added } & table & scopes

-- behind a row that does not break the condition, which is row i
unfoldable pub alias_on_t : Parts → (i : ℕ) (table : List Slot) (scopes : List (List ℕ)) → Cursor → Went
alias_on_t p i table scopes c = alias_went_t c.added (alias_entered_t c.added table c.used (here_t (open_in scopes c.depth)) p) (open_behind_t scopes c.depth p i)

abbrev pub Turned : Type 0
Turned = Out (Option Cursor) (Out (List Slot) (List (List ℕ)))

unfoldable pub turned_t : Went → Turned
turned_t (c & rest) = Some c & rest

-- what a row leads to, where it is known whether its field is added
unfoldable pub over_t : Parts → (i : ℕ) (table : List Slot) (scopes : List (List ℕ)) → Cursor → Turned
over_t p i table scopes c =
    pick (alias_breaks_t c.added (take c.used table) (here_t (open_in scopes c.depth)) p) (None & table & scopes) (turned_t (alias_on_t p i table scopes c))

-- what the first of these rows leads to, which is row i
unfoldable pub alias_turn_t : List Parts → (i : ℕ) (table : List Slot) (scopes : List (List ℕ)) → Cursor → Turned
alias_turn_t [] i table scopes c = None & table & scopes
alias_turn_t (p ∷ ps) i table scopes c = over_t p i table scopes (alias_at_t p ps c)

-- the index serves the table then
abbrev pub HeldBy : Option Cursor → (table : List Slot) (index : List ℕ) → Type 0
HeldBy (Some c) table index = Holds table index c.used
HeldBy None table index = Unit {0}

-- its slots that are used
unfoldable pub alias_names_t : (room : ℕ) (added : Bool) → List Slot → (scope : ℕ) → Parts → List Slot
alias_names_t room added ss scope p = pick added (pick (eqb p.code 2) (enter_t room ss (name_slot scope p)) ss) ss

-- ---- all rows, from row i on

-- what is answered, and the slots that are used then
abbrev pub Names : Type 0
Names = Out (Result ⊤ ℕ) (List Slot)

-- `added`: whether the field of the row before is; `st`: the scopes that are open; `ss`: the slots that are used, of `room`
unfoldable pub try_aliases_t : (room i : ℕ) (added : Bool) (st : List (List ℕ)) (ss : List Slot) → List Parts → Names
try_aliases_t room i added st ss [] = Ok tt & ss
try_aliases_t room i added st ss (p ∷ ps) =
    let a = is_added_t added p.code ps in
    pick (alias_breaks_t a ss (here_t st) p) (Err i & ss) (try_aliases_t room (i + 1) a (open_one_t 64 st p i) (alias_names_t room a ss (here_t st) p) ps)

-- what is answered, and the whole table
unfoldable pub laid_by : Names → List Slot → Names
laid_by (a & ss) table = a & laid_t ss table
