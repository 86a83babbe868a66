-- R-4 where the tables of the steps are lent too: one that is too small is answered as a table of no slots is, with refusal 3 behind 1 and 2.
use Rattle.std.specs.Prelude.{List, ℕ}
use Rattle.rules.specs.Tools.{when◌then◌else◌}
use Rattle.checking.specs.Check.{Verdict}
use Rattle.checking.specs.CheckAnswer.{check_answer}
use Rattle.resolver_with.specs.Areas.{Lent, roomy}
use Rattle.rules.specs.Versions.{all}
use Rattle.resolver_with.specs.Asked.{asked}

-- `slots` and `links` are the lengths of the claim's table and its index
unfoldable pub check_with : (input claim : List ℕ) (slots links : ℕ) → Lent → Verdict
check_with input claim slots links lent =
    check_answer all input claim (when roomy (asked input).version lent then slots else 0) links
