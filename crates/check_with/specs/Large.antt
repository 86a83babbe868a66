-- Areas that are large enough for the steps on a form of the setting at place i.
use Rattle.std.specs.Prelude.{List, ℕ, ◌≤◌, length}
use Rattle.limits.specs.Held.{setting}
use Rattle.names.specs.Table.{Slot}
use Rattle.resolver_with.specs.Areas.{slots_for, links_for}

-- every area has at least the size that the setting at place i asks for
pub record Large (i : ℕ) (e n : List Slot) (k c m : List ℕ) : Type 0 where
  pub entered : slots_for (setting i).version ≤ length e
  pub names : slots_for (setting i).version ≤ length n
  pub known : links_for (setting i).version ≤ length k
  pub chains : links_for (setting i).version ≤ length c
  pub ends : slots_for (setting i).version ≤ length m
