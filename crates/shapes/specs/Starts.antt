-- What a field wants behind its DECLs.
use Rattle.std.specs.Prelude.{Bool, false, List, [], ◌∷◌, ℕ, eqb, leb, get_or}
use Rattle.std.proofs.Math.Option.{Option}
use Rattle.kit.specs.Pick.{pick}
use Rattle.rules.specs.Tools.{only, when◌then◌else◌}
use Rattle.rules.specs.Versions.{RuleSet, today}
use Rattle.rules.specs.Shapes.{FIVE, SIX, Part, r, p, out, one, opt, any, variants, options, signature, ascribed, builtin_parts, declares, enough}

-- The rules' `parts`, by the space of the field's first DECL and whether it has one.
unfoldable pub parts_by : RuleSet → (code builtin space : ℕ) (has-decl : Bool) → List Part
parts_by rules code builtin space has-decl =
    get_or
    ([]
    ∷ []
    ∷ (one (r (7 ∷ [])) ∷ any (r (6 ∷ [])) ∷ [])
    ∷ (any (r FIVE) ∷ [])
    ∷ (any (p (4 ∷ [])) ∷ [])
    ∷ (when has-decl then any (p (4 ∷ [])) ∷ [] else [])
    ∷ []
    ∷ (one (r (11 ∷ [])) ∷ any (r SIX) ∷ [])
    ∷ (any (r SIX) ∷ [])
    ∷ (one (p (10 ∷ [])) ∷ [])
    ∷ (one (p (6 ∷ [])) ∷ [])
    ∷ (one (out space) ∷ [])
    ∷ (variants ∷ [])
    ∷ (any (p (9 ∷ [])) ∷ [])
    ∷ []
    ∷ []
    ∷ (opt (p (rules.heap ∷ [])) ∷ opt (r (0 ∷ [])) ∷ [])
    ∷ []
    ∷ (one (r (9 ∷ [])) ∷ one (r (0 ∷ [])) ∷ options ∷ [])
    ∷ builtin_parts rules builtin
    ∷ (one (p (8 ∷ [])) ∷ any (r (12 ∷ [])) ∷ [])
    ∷ signature space
    ∷ (when eqb builtin 0 then one (r (space ∷ [])) ∷ [] else ascribed space)
    ∷ signature space
    ∷ (any (p (4 ∷ [])) ∷ [])
    ∷ []
    ∷ [])
    code []

-- the space, or 0 for a number that is not a space
unfoldable pub known : ℕ → ℕ
known space = pick (leb space 12) space 0

-- what a field without DECLs wants, if it may be without, under any rule set: those with a heap type have a DECL
unfoldable pub bare_parts : (code : ℕ) → Option (List Part)
bare_parts code = only (enough (declares code) 0) (parts_by today code 0 0 false)
