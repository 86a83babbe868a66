-- The working areas of a member, by its prelude's version: the one in which the prelude is resolved, and the tables.
use Rattle.std.specs.Prelude.{◌≡◌, Bool, false, ◌||◌, List, ℕ, ◌+◌, ◌*◌, ◌<◌, ltb, length}
use Rattle.rules.specs.Versions.{Version}
use Rattle.limits.specs.Held.{setting}
use Rattle.names.specs.Table.{Slot, empty_slot}
use Rattle.resolver_with.specs.Asked.{asked}
use Rattle.resolver_with.specs.Areas as areas
use Rattle.clearing.specs.Cleared.{cleared}
use Rattle.resolver_with.specs.Areas.{slots_for, links_for}
use Rattle.inside.specs.Areas.{both_for, chains_for}

-- the bytes of the longest output
abbrev pub area_for : Version → ℕ
area_for v = v.header + 64 * v.rows

-- one of the tables is below its size
unfoldable pub is_small : Version → areas.Lent → Bool
is_small v l =
    ltb l.entered (slots_for v) || (ltb l.names (both_for v) || (ltb l.known (links_for v) || (ltb l.chains (chains_for v) || ltb l.ends (slots_for v))))

-- one of all areas is
abbrev pub short_with : (prelude : List ℕ) (work : ℕ) → areas.Lent → Bool
short_with prelude work l = ltb work (area_for (asked prelude).version) || is_small (asked prelude).version l

-- what each table holds after a call, beside what it held before
pub record TablesCleared (v : Version) (e e' n n' : List Slot) (k k' c c' m m' : List ℕ) : Type 0 where
  pub entered : e' ≡ cleared empty_slot (slots_for v) e
  pub names : n' ≡ cleared empty_slot (both_for v) n
  pub known : k' ≡ cleared 0 (links_for v) k
  pub chains : c' ≡ cleared 0 (chains_for v) c
  pub ends : m' ≡ cleared 0 (slots_for v) m

-- ---- what only proofs need

-- the tables are not too small where the prelude has room
abbrev pub Large : (i room : ℕ) → areas.Lent → Type 0
Large i room l = 0 < room → is_small (setting i).version l ≡ false

-- the prelude's area comes back as long as it was
pub record SameArea (l l' : List ℕ) : Type 0 where
  pub long : length l' ≡ length l
