-- Document 01's number and place for each answer, and on acceptance how many numbers are on the lists.
use Rattle.std.specs.Prelude.{List, ℕ, ◌+◌, ◌*◌, Result, Ok, Err}
use Rattle.rules.specs.Answer as rules
use Rattle.moving.specs.MovedAnswer.{MovedAnswer, counts, Buffers}
use Rattle.resolver.specs.Meaning.{Numbers, numbers}
use Rattle.moved_list.specs.declared.Listed.{Listed}
use Rattle.refusal.specs.declared.Refusal.{Refusal}

-- of the code
abbrev pub meaning : Result Listed Refusal → Numbers
meaning (Ok n) = numbers 0 (65536 * n.apart + n.moved)
meaning (Err refusal) = numbers refusal.number refusal.place

-- of the rules
abbrev pub ruled : MovedAnswer → Numbers
ruled (rules.refused number place carried) = numbers number place
ruled (rules.accepted l) = numbers 0 (counts l.moved l.apart)

-- what the three buffers hold
abbrev pub held : (out moved apart : List ℕ) → Buffers
held out moved apart = record { out = out; moved = moved; apart = apart }
