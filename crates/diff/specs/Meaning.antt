-- The rules' answer for each answer of the code: a refusal's number and place, or how many bytes the list has.
use Rattle.std.specs.Prelude.{◌≡◌, List, [], ℕ, length, Result, Ok, Err}
use Rattle.rules.specs.Answer.{AnswerOf, refused, accepted, map_answer}
use Rattle.comparing.specs.Compare.{Entry, list_bytes, list_after}
use Rattle.refusal.specs.declared.Refusal.{Refusal}

-- what an answer of the code stands for in the rules
unfoldable pub meaning : Result ℕ Refusal → AnswerOf ℕ
meaning (Ok bytes) = accepted bytes
meaning (Err refusal) = refused refusal.number refusal.place []

-- how many bytes a list has
unfoldable pub bytes_of : List Entry → ℕ
bytes_of es = length (list_bytes es)

-- where the rules answer x: what the code answers, and what it leaves in the buffer
pub record Says (x : AnswerOf (List Entry)) (old : List ℕ) (r : Result ℕ Refusal) (new : List ℕ) : Type 0 where
  pub answers : meaning r ≡ map_answer bytes_of x
  pub leaves : new ≡ list_after x old
