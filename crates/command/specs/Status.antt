-- The exit status of several answers, and where an answer goes.
use Rattle.std.specs.Prelude.{List, ℕ, ltb, ℤ, pos}
use Rattle.kit.specs.Pick.{pick}
use Rattle.files.specs.Paths.{is_dash}

-- the worse of two is the larger
unfoldable pub worse_of : (one other : ℕ) → ℕ
worse_of one other = pick (ltb one other) other one

-- standard error beside a form that goes to standard output, which is 1
unfoldable pub talk_beside : (path : List ℕ) → ℤ
talk_beside path = pick (is_dash path) (pos 2) (pos 1)
