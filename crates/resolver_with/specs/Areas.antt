-- The working areas: their sizes by version, and what they hold after a call.
use Rattle.std.specs.Prelude.{◌≡◌, Bool, ◌&&◌, List, ℕ, ◌+◌, leb, length}
use Rattle.clearing.specs.Cleared.{cleared}
use Rattle.rules.specs.Versions.{Version}
use Rattle.names.specs.Table.{Slot, empty_slot}

-- the slots of each table, and the ends: one more than the form may have rows
abbrev pub slots_for : Version → ℕ
slots_for v = v.rows + 1

-- the numbers of the index of a table: as many heads of chains as slots, and a link for each slot
abbrev pub links_for : Version → ℕ
links_for v = slots_for v + slots_for v

-- how long the areas are that are lent: two tables, the index of each, and the ends
pub record Lent : Type 0 where
  pub entered : ℕ
  pub names : ℕ
  pub known : ℕ
  pub chains : ℕ
  pub ends : ℕ

-- the lengths of the areas that are lent
abbrev pub lent_of : (entered names : List Slot) (known chains ends : List ℕ) → Lent
lent_of entered names known chains ends =
    record { entered = length entered; names = length names; known = length known; chains = length chains; ends = length ends }

-- is each area large enough for this version?
unfoldable pub roomy : Version → Lent → Bool
roomy v l =
    leb (slots_for v) l.entered && (leb (slots_for v) l.names && (leb (links_for v) l.known && (leb (links_for v) l.chains && leb (slots_for v) l.ends)))

-- what each area holds then, beside what it held before
pub record Cleared (v : Version) (e e' n n' : List Slot) (k k' c c' m m' : List ℕ) : Type 0 where
  pub entered : e' ≡ cleared empty_slot (slots_for v) e
  pub names : n' ≡ cleared empty_slot (slots_for v) n
  pub known : k' ≡ cleared 0 (links_for v) k
  pub chains : c' ≡ cleared 0 (links_for v) c
  pub ends : m' ≡ cleared 0 (slots_for v) m
