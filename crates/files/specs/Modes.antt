-- What a file's mode tells.
use Rattle.std.specs.Prelude.{Bool, ℕ, ◌/◌, eqb}

-- is it that of a regular file? The kind stands above twelve bits, and a regular file's is 8.
abbrev pub is_regular : ℕ → Bool
is_regular mode = eqb (mode / 4096) 8
