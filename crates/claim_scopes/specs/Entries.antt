-- What was entered for the scopes of a claim: slots with a space of a scope, a name or number, and a value.
use Rattle.std.specs.Prelude.{List, [], ◌∷◌, ◌++◌, ℕ, ◌+◌, ◌*◌, ◌%◌, ltb, length, drop, Option}
use Rattle.kit.specs.Pick.{pick}
use Rattle.names.specs.Table.{Slot, find_in}

-- a space of a scope, by the row of its OPEN
unfoldable pub entry_key_t : (scope space : ℕ) → ℕ
entry_key_t scope space = scope % 65536 * 257 + space

-- a slot of a claim's table: the space of a scope as one number, the name, and the value
unfoldable pub slot_t : (scope space name value : ℕ) → Slot
slot_t scope space name value = entry_key_t scope space ∷ name ∷ value ∷ 0 ∷ 0 ∷ 0 ∷ []

-- the value of the first of the slots that were entered so
unfoldable pub look_t : List Slot → (scope space name : ℕ) → Option ℕ
look_t ss scope space name = find_in ss (entry_key_t scope space) name

-- one slot more, where there is room
unfoldable pub enter_t : (room : ℕ) → List Slot → Slot → List Slot
enter_t room ss s = pick (ltb (length ss) room) (ss ++ (s ∷ [])) ss

-- a table whose first slots are these, and the others as they were
unfoldable pub laid_t : (ss table : List Slot) → List Slot
laid_t ss table = ss ++ drop (length ss) table
