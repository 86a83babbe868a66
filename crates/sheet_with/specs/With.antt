-- R-13 where the tables are lent too: one that is too small is answered as a working area of no bytes is, with refusal 3 behind the
-- sheet's own 15 and before all that is said of the forms.
use Rattle.std.specs.Prelude.{Bool, List, ℕ, ◌+◌, ◌*◌, Option, Some, None}
use Rattle.kit.specs.Pick.{pick}
use Rattle.rules.specs.Tools.{when◌then◌else◌}
use Rattle.rules.specs.Versions.{Setting, all}
use Rattle.binding.specs.Sheet.{SheetAnswer, sound_sheet, sheet_answer}
use Rattle.resolver_with.specs.Areas.{Lent, roomy}
use Rattle.resolver_with.specs.Asked.{asked}

-- the rules' answer; tables that are too small count as a working area of no bytes
unfoldable pub sheet_with : (input resolved sheet : List ℕ) (room work : ℕ) → Lent → SheetAnswer
sheet_with input resolved sheet room work lent = sheet_answer all input resolved sheet room (when roomy (asked input).version lent then work else 0)

-- ---- what only the proofs need

-- as many bytes as the longest output takes
abbrev pub area_for : Setting → ℕ
area_for s = s.version.header + 64 * s.version.rows

-- the number of the refusal before all that is said of the forms, if there is one
unfoldable pub early_t : (sheet : List ℕ) (enough : Bool) → Option ℕ
early_t sheet enough = pick (sound_sheet sheet) (pick enough None (Some 3)) (Some 15)
