-- R-1 where the working areas are lent: an area that is too small is answered as an output of no bytes is, with refusal 3 behind 1 and 2.
use Rattle.std.specs.Prelude.{List, ℕ}
use Rattle.rules.specs.Tools.{when◌then◌else◌}
use Rattle.moving.specs.MovedAnswer.{MovedAnswer, Rooms, moved_answer, Buffers, buffers}
use Rattle.resolver_with.specs.Areas.{Lent, roomy}
use Rattle.rules.specs.Versions.{all}
use Rattle.resolver_with.specs.Asked.{asked}

-- the rules' answer; tables that are too small count as an output without room
unfoldable pub moved_with : (input : List ℕ) → Rooms → Lent → MovedAnswer
moved_with input rooms lent =
    moved_answer all input (record { out = when roomy (asked input).version lent then rooms.out else 0; moved = rooms.moved; apart = rooms.apart })

-- what the three buffers then hold
unfoldable pub buffers_with : (input : List ℕ) → Buffers → Lent → Buffers
buffers_with input old lent = when roomy (asked input).version lent then buffers all input old else old
