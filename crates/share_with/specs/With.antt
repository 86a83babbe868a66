-- R-12 for every setting in force, in working areas that are lent: what is answered, and what the output holds then. They are the bytes of the
-- marked rows, the table and the index of R-4's check, and those of the steps. One that is too small is answered as an output of no bytes is:
-- refusal 3, behind 1 and 2.
use Rattle.std.specs.Prelude.{Bool, ◌||◌, not, List, ℕ, ◌*◌, ltb}
use Rattle.rules.specs.Tools.{when◌then◌else◌}
use Rattle.rules.specs.Versions.{Version, all}
use Rattle.rules.specs.Answer.{Answer}
use Rattle.checking.specs.CheckAnswer.{slots_of, links_of}
use Rattle.sharing.specs.Sharing.{shared, shared_output}
use Rattle.resolver_with.specs.Areas.{Lent, roomy}
use Rattle.resolver_with.specs.Asked.{asked}

-- as many bytes as the rows of a form may have
abbrev pub bytes_for : Version → ℕ
bytes_for v = 16 * v.rows

-- whether an area is below its size: `bytes`, `slots` and `links` are the lengths of the marked rows' and of the check's two
unfoldable pub too_small : Version → (bytes slots links : ℕ) → Lent → Bool
too_small v bytes slots links lent = not (roomy v lent) || (ltb bytes (bytes_for v) || (ltb slots (slots_of v) || ltb links (links_of v)))

-- the rules' answer; areas that are too small count as an output without room
unfoldable pub shared_with : (input : List ℕ) (room bytes slots links : ℕ) → Lent → Answer
shared_with input room bytes slots links lent =
    shared all input (when too_small (asked input).version bytes slots links lent then 0 else room)

-- what the output holds then
unfoldable pub output_with : (input old : List ℕ) (bytes slots links : ℕ) → Lent → List ℕ
output_with input old bytes slots links lent =
    when too_small (asked input).version bytes slots links lent then old else shared_output all input old
