-- The tables for a form inside a root: of the names there are those of both.
use Rattle.std.specs.Prelude.{◌≡◌, List, ℕ, ◌+◌, ◌<◌, length}
use Rattle.rules.specs.Versions.{Version}
use Rattle.limits.specs.Held.{setting}
use Rattle.names.specs.Table.{Slot}
use Rattle.resolver_with.specs.Areas.{slots_for, links_for}

-- the slots of the table of names: the root has no more declarations than a form may have rows
abbrev pub both_for : Version → ℕ
both_for v = slots_for v + slots_for v

-- the numbers of its index: as many heads of chains as that of a form by itself, and a link for each slot
abbrev pub chains_for : Version → ℕ
chains_for v = slots_for v + both_for v

-- tables, indexes and ends for a form of the setting at place i
pub record Suits (i : ℕ) (e n : List Slot) (k c m : List ℕ) : Type 0 where
  pub entered : length e ≡ slots_for (setting i).version
  pub names : length n ≡ both_for (setting i).version
  pub known : length k ≡ links_for (setting i).version
  pub chains : length c ≡ chains_for (setting i).version
  pub ends : length m ≡ slots_for (setting i).version

-- the same where the form whose root it is has room to be resolved; where it has none, no form is walked inside it
abbrev pub SuitsIf : (i room : ℕ) (e n : List Slot) (k c m : List ℕ) → Type 0
SuitsIf i room e n k c m = 0 < room → Suits i e n k c m

-- the tables come back as long as they were
pub record Same (e e' n n' : List Slot) (k k' c c' m m' : List ℕ) : Type 0 where
  pub entered : length e' ≡ length e
  pub names : length n' ≡ length n
  pub known : length k' ≡ length k
  pub chains : length c' ≡ length c
  pub ends : length m' ≡ length m
