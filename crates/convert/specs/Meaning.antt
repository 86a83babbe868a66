-- The rules' answer for each answer of the code: a refusal's number and place, or how many rows the converted form has.
use Rattle.std.specs.Prelude.{◌≡◌, List, [], ℕ, Result, Ok, Err}
use Rattle.rules.specs.Versions.{all}
use Rattle.rules.specs.Answer.{AnswerOf, refused, accepted, map_answer}
use Rattle.converting.specs.Convert.{buffer_after, rows_said}
use Rattle.refusal.specs.declared.Refusal.{Refusal}

-- what an answer of the code stands for in the rules
unfoldable pub meaning : Result ℕ Refusal → AnswerOf ℕ
meaning (Ok rows) = accepted rows
meaning (Err refusal) = refused refusal.number refusal.place []

-- where the rules answer x: what the code answers, and what it leaves in the buffer
pub record Says (x : AnswerOf (List ℕ)) (old : List ℕ) (r : Result ℕ Refusal) (new : List ℕ) : Type 0 where
  pub answers : meaning r ≡ map_answer (rows_said all) x
  pub leaves : new ≡ buffer_after x old
