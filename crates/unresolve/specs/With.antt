-- The way back where the working areas are lent: how large they are, what is answered, and what is left in each buffer.
use Rattle.std.specs.Prelude.{◌||◌, List, ℕ, ◌+◌, ◌*◌, ltb, length}
use Rattle.rules.specs.Tools.{when◌then◌else◌}
use Rattle.rules.specs.Versions.{Version, version1, base}
use Rattle.clearing.specs.Cleared.{cleared}
use Rattle.unresolving.specs.BackAnswer.{Returned, refused, back_answer, over}

-- ---- their fixed sizes: an input of the most rows, and the share of the output that it has

-- how long the longest input of a version is
abbrev pub input_size : Version → ℕ
input_size v = v.header + 16 * v.rows

-- how long the longest output of a version is
abbrev pub output_size : Version → ℕ
output_size v = v.header + 64 * v.rows

-- ---- the answer: an area that is too small is refusal 3, ahead of all else

-- refusal 3 where an area is too small, else the rules' answer
unfoldable pub back_with : (claim : List ℕ) (room restored again : ℕ) → Returned
back_with claim room restored again =
    when ltb restored (input_size version1) || ltb again (output_size version1) then refused 3 0
    else back_answer base claim room

-- the output's bytes behind the result stay, and all of them after a refusal
unfoldable pub out_with : (claim old : List ℕ) (restored again : ℕ) → List ℕ
out_with claim old restored again = over (back_with claim (length old) restored again) old

-- ---- the areas: zero up to that size, and beyond as they were

-- what the area of the restored form holds then
unfoldable pub restored_after : List ℕ → List ℕ
restored_after old = cleared 0 (input_size version1) old

-- what the area in which it was resolved again holds then
unfoldable pub again_after : List ℕ → List ℕ
again_after old = cleared 0 (output_size version1) old
