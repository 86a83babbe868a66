-- Zeros in bytes that are lent.
use Rattle.std.specs.Prelude.{List, ◌++◌, ℕ, ◌-◌, length, take, replicate}

-- every byte from a place on becomes 0
unfoldable pub zero_from : List ℕ → (from : ℕ) → List ℕ
zero_from l from = take from l ++ replicate (length l - from) 0
