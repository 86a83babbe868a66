-- The number that a C function answers: a refusal's number times 2^32 plus its place; on acceptance the number of rows.
use Rattle.std.specs.Prelude.{ℕ, ◌+◌, ◌*◌}
use Rattle.mend.specs.Meaning as mending
use Rattle.claim_check.specs.Meaning as claims
use Rattle.rules.specs.Answer.{AnswerOf, refused, accepted}
use Rattle.resolver.specs.Meaning.{Numbers}

-- number and place in one number: the place in its lower 32 bits
abbrev pub packed : Numbers → ℕ
packed n = n.number * 4294967296 + n.place

-- the same of a mending: where nothing is refused, the number of changes
abbrev pub packed_mending : mending.Numbers → ℕ
packed_mending n = n.number * 4294967296 + n.place

-- of what answers a number that is not of rows
abbrev pub packed_answer : AnswerOf ℕ → ℕ
packed_answer (refused number place carried) = number * 4294967296 + place
packed_answer (accepted n) = n

-- of a verdict on a claim: the conditions are numbered from 101 up, beside the refusals
abbrev pub packed_verdict : claims.Said → ℕ
packed_verdict claims.yes = 0
packed_verdict (claims.no condition row) = (100 + condition) * 4294967296 + row
packed_verdict (claims.refused number place) = number * 4294967296 + place
