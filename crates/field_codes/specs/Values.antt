-- What the kind of an inner scope stands for in the rules.
use Rattle.std.proofs.Math.Option.{Option, none, some}
use Rattle.std.specs.Prelude.{ℕ, Option as CodeOption, Some, None}

-- the kind of scope that a field opens, as the rules have it
unfoldable pub as_option : CodeOption ℕ → Option ℕ
as_option None = none
as_option (Some k) = some k
