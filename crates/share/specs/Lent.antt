-- What is answered with the working areas that are lent, and what the output holds then: a table of slots and an index of numbers, of
-- the sizes that the check has for version 1.
use Rattle.std.specs.Prelude.{Bool, ◌||◌, List, ℕ, ltb}
use Rattle.rules.specs.Tools.{when◌then◌else◌}
use Rattle.rules.specs.Versions.{base}
use Rattle.rules.specs.Answer.{Answer}
use Rattle.sharing.specs.Sharing.{shared, shared_output}

-- whether an area is below its size
unfoldable pub too_small : (slots links : ℕ) → Bool
too_small slots links = ltb slots 2046 || ltb links 3070

-- an area that is too small is refused as an output that is
unfoldable pub shared_with : (input : List ℕ) (room slots links : ℕ) → Answer
shared_with input room slots links = shared base input (when too_small slots links then 0 else room)

-- and leaves the output as it was
unfoldable pub output_with : (input old : List ℕ) (slots links : ℕ) → List ℕ
output_with input old slots links = when too_small slots links then old else shared_output base input old
