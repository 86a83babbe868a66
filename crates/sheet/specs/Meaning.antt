-- Document 01's number and place for each answer, and on success how many slots are not bound as written.
use Rattle.std.specs.Prelude.{Result, Ok, Err, ℕ}
use Rattle.rules.specs.Answer as rules
use Rattle.binding.specs.Sheet.{SheetAnswer, failing}
use Rattle.resolver.specs.Meaning.{Numbers, numbers}
use Rattle.refusal.specs.declared.Refusal.{Refusal}

-- of the code
abbrev pub meaning : Result ℕ Refusal → Numbers
meaning (Ok n) = numbers 0 n
meaning (Err refusal) = numbers refusal.number refusal.place

-- of the rules
abbrev pub ruled : SheetAnswer → Numbers
ruled (rules.refused number place carried) = numbers number place
ruled (rules.accepted bs) = numbers 0 (failing bs)
