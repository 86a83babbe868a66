-- Areas of the very sizes that the run takes: definitions that only proofs need.
use Rattle.std.specs.Prelude.{◌≡◌, Bool, ◌&&◌, List, ℕ, eqb, length, replicate}
use Rattle.rules.specs.Versions.{Version}
use Rattle.limits.specs.Held.{setting}
use Rattle.names.specs.Table.{Slot, empty_slot}
use Rattle.resolver_with.specs.Areas.{slots_for, links_for, Lent}

-- has each area just the size that the version asks for?
unfoldable pub exactly : Version → Lent → Bool
exactly v l =
    eqb l.entered (slots_for v) && (eqb l.names (slots_for v) && (eqb l.known (links_for v) && (eqb l.chains (links_for v) && eqb l.ends (slots_for v))))

-- tables, indexes and ends for a form of the setting at place i
pub record Suits (i : ℕ) (e n : List Slot) (k c m : List ℕ) : Type 0 where
  pub entered : length e ≡ slots_for (setting i).version
  pub names : length n ≡ slots_for (setting i).version
  pub known : length k ≡ links_for (setting i).version
  pub chains : length c ≡ links_for (setting i).version
  pub ends : length m ≡ slots_for (setting i).version

-- each area is zero, and as long as it was
pub record Zeroed (e e' n n' : List Slot) (k k' c c' m m' : List ℕ) : Type 0 where
  pub entered : e' ≡ replicate (length e) empty_slot
  pub names : n' ≡ replicate (length n) empty_slot
  pub known : k' ≡ replicate (length k) 0
  pub chains : c' ≡ replicate (length c) 0
  pub ends : m' ≡ replicate (length m) 0
