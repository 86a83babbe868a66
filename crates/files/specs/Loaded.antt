-- What can be told without the system of what was read: how long it is.
use Rattle.std.specs.Prelude.{ℕ, ◌≤◌, Option, Some, None}

-- no more bytes than that
abbrev pub Fits : (most : ℕ) → Option ℕ → Type 0
Fits most (Some count) = count ≤ most
Fits most None = Unit {0}
