-- How large the tables are in which a form is walked. Nothing here or above knows a version's numbers.
use Rattle.std.specs.Prelude.{◌≡◌, List, ℕ, ◌/◌, ◌≤◌, length}
use Rattle.names.specs.Table.{Slot}

-- rows, slots, scopes and insertions: up to this many, every number and every fresh name stays within 32 bits
abbrev pub most : ℕ
most = 2147483647

-- how many slots the table of entered names and that of declarations have, and how many scopes may be open
pub record Sizes : Type 0 where
  pub entered : ℕ
  pub names : ℕ
  pub scopes : ℕ

-- the rows fit tables of these sizes: the table of entered names has a slot for each
pub record Fits (sizes : Sizes) (rows : List ℕ) : Type 0 where
  pub short : length rows / 16 ≤ sizes.entered
  pub entered : sizes.entered ≤ most
  pub names : sizes.names ≤ most
  pub scopes : sizes.scopes ≤ most

-- the tables have these sizes, whatever stands in them
pub record Sized (sizes : Sizes) (entered names : List Slot) (scopes : List (List ℕ)) : Type 0 where
  pub room : length entered ≡ sizes.entered
  pub size : length names ≡ sizes.names
  pub depths : length scopes ≡ sizes.scopes
