-- The answer where the working areas are lent, and what the output holds then. An area that is too small is answered as an output
-- of no bytes is: refusal 3, behind 1 and 2.
use Rattle.std.specs.Prelude.{◌≡◌, Bool, List, [], ◌∷◌, ℕ, length, Result}
use Rattle.rules.specs.Tools.{when◌then◌else◌}
use Rattle.rules.specs.Versions.{Setting, all}
use Rattle.rules.specs.Answer as rules
use Rattle.rules.specs.Answer.{answer, output}
use Rattle.resolver.specs.Meaning.{meaning, ruled}
use Rattle.resolver_with.specs.Areas.{Lent, roomy}
use Rattle.resolver_with.specs.Asked.{asked}
use Rattle.refusal.specs.declared.Refused.{Refused}

-- the rules' answer; areas that are too small count as an output without room
unfoldable pub answer_with : (input : List ℕ) (room : ℕ) → Lent → rules.Answer
answer_with input room lent = answer all input (when roomy (asked input).version lent then room else 0)

-- what the output holds after that answer
unfoldable pub output_with : (input old : List ℕ) → Lent → List ℕ
output_with input old lent = when roomy (asked input).version lent then output all input old else old

-- the answer and the output are those of one setting; `enough`: whether the areas are large enough
pub record Ran (s : Setting) (enough : Bool) (input old new : List ℕ) (a : Result ℕ Refused) : Type 0 where
  pub answers : meaning a ≡ ruled (answer (s ∷ []) input (when enough then length old else 0))
  pub leaves : new ≡ (when enough then output (s ∷ []) input old else old)
