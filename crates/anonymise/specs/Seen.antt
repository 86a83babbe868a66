-- The table of names, and the names that stand in it: each once, with its number, in the order in which they were entered.
use Rattle.std.specs.Prelude.{◌≡◌, List, [], ◌∷◌, map, ℕ, suc, ◌+◌, ◌≤◌, length, take}
use Rattle.renaming.specs.Renaming.{renamed, firsts, place_of}
use Rattle.names.specs.Table.{Slot, name_of}
use Rattle.index.specs.Indexed.{Holds}

abbrev pub slot_of : (name number : ℕ) → Slot
slot_of name number = 0 ∷ name ∷ number ∷ 0 ∷ 0 ∷ 0 ∷ []

-- the slots of these names, the first of them with this number
unfoldable pub slots_from : (number : ℕ) → List ℕ → List Slot
slots_from number [] = []
slots_from number (n ∷ ns) = slot_of n number ∷ slots_from (suc number) ns

-- the names in the first slots, this many
unfoldable pub seen_in : List Slot → (used : ℕ) → List ℕ
seen_in table used = map name_of (take used table)

-- the table has names in its first slots, numbered from 1, and the index serves it
pub record Knows (table : List Slot) (index : List ℕ) (used : ℕ) : Type 0 where
  pub holds : Holds table index used
  pub numbered : take used table ≡ slots_from 1 (seen_in table used)

-- the table `table'` has these names besides, those that were not there yet
pub record Enters (table : List Slot) (used : ℕ) (names : List ℕ) (table' : List Slot) (index' : List ℕ) (used' : ℕ) : Type 0 where
  pub knows : Knows table' index' used'
  pub seen : seen_in table' used' ≡ firsts (seen_in table used) names
  pub few : used' ≤ used + length names
  pub long : length table' ≡ length table

-- a name becomes its number in the table
abbrev pub new_name : List Slot → (used : ℕ) → ℕ → ℕ
new_name table used = renamed (place_of (seen_in table used))
