-- The rules' answer for each answer of the code: a refusal's number and place, or how many names there are.
use Rattle.anonymise.specs.declared.run.Fault.TheVariants.{Header, RowCount, Room, Broken, Deep}
use Rattle.std.specs.Prelude.{[], ℕ, Result, Ok, Err}
use Rattle.rules.specs.Answer.{AnswerOf, refused, accepted}
use Rattle.anonymise.specs.declared.run.Fault.{Fault}

-- what an answer of the code stands for in the rules
abbrev pub meaning : Result ℕ Fault → AnswerOf ℕ
meaning (Ok names) = accepted names
meaning (Err Header) = refused 1 0 []
meaning (Err RowCount) = refused 2 0 []
meaning (Err Room) = refused 3 0 []
meaning (Err (Broken row)) = refused 4 row []
meaning (Err (Deep row)) = refused 5 row []
