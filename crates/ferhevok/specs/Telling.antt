-- The answer where two numbers are told besides, and what the buffers hold then. A buffer for them that is too short is answered as an
-- output of no bytes is: refusal 3, behind 1 and 2.
use Rattle.std.specs.Prelude.{List, ◌∷◌, ℕ, leb, length, drop}
use Rattle.rules.specs.Tools.{when◌then◌else◌}
use Rattle.rules.specs.Versions.{base}
use Rattle.rules.specs.Answer.{Answer, answer, output}
use Rattle.refusal.specs.declared.Told.{Told}

-- `room` is the length of the output, `long` how many numbers can be told
unfoldable pub answer_told : (input : List ℕ) (room long : ℕ) → Answer
answer_told input room long = answer base input (when leb 2 long then room else 0)

-- what the output holds; it stays as it was where there is no room to tell what a refusal carries
unfoldable pub output_told : (input old : List ℕ) (long : ℕ) → List ℕ
output_told input old long = when leb 2 long then output base input old else old

-- the space, the place of the first declaration, and what lies beyond as it was
unfoldable pub told_after : Told → (old : List ℕ) → List ℕ
told_after told old = when leb 2 (length old) then told.space ∷ told.first ∷ drop 2 old else old
