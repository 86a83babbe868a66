-- What a field may still want, each by a number, and what is left of it after a row.
use Rattle.std.specs.Prelude.{◌≡◌, ◌||◌, List, [], ◌∷◌, ℕ, ◌+◌, ◌-◌, ◌*◌, ◌/◌, ◌%◌, eqb, leb, ltb, get_or}
use Rattle.std.proofs.Math.Option.{Option, none, some}
use Rattle.kit.specs.Pick.{pick}
use Rattle.rules.specs.Tools.{only, ◌then◌}
use Rattle.rules.specs.Shapes.{FIVE, SIX, Part, r, p, out, one, opt, any, cases, variants, typed, options, fits_ref, fits_outer, is_case, next, complete}

-- ---- what is wanted

-- the lists of wants, from number 48 on
unfoldable pub states : List (List Part)
states =
    ([])
    ∷ (one (r (0 ∷ [])) ∷ [])
    ∷ (one (r (1 ∷ [])) ∷ [])
    ∷ (one (r (2 ∷ [])) ∷ [])
    ∷ (one (r (3 ∷ [])) ∷ [])
    ∷ (one (r (4 ∷ [])) ∷ [])
    ∷ (one (r (5 ∷ [])) ∷ [])
    ∷ (one (r (6 ∷ [])) ∷ [])
    ∷ (one (r (7 ∷ [])) ∷ [])
    ∷ (one (r (8 ∷ [])) ∷ [])
    ∷ (one (r (9 ∷ [])) ∷ [])
    ∷ (one (r (10 ∷ [])) ∷ [])
    ∷ (one (r (11 ∷ [])) ∷ [])
    ∷ (one (r (12 ∷ [])) ∷ [])
    ∷ (one (out 0) ∷ [])
    ∷ (one (out 1) ∷ [])
    ∷ (one (out 2) ∷ [])
    ∷ (one (out 3) ∷ [])
    ∷ (one (out 4) ∷ [])
    ∷ (one (out 5) ∷ [])
    ∷ (one (out 6) ∷ [])
    ∷ (one (out 7) ∷ [])
    ∷ (one (out 8) ∷ [])
    ∷ (one (out 9) ∷ [])
    ∷ (one (out 10) ∷ [])
    ∷ (one (out 11) ∷ [])
    ∷ (one (out 12) ∷ [])
    ∷ (typed 0 ∷ [])
    ∷ (typed 1 ∷ [])
    ∷ (typed 2 ∷ [])
    ∷ (typed 3 ∷ [])
    ∷ (typed 4 ∷ [])
    ∷ (typed 5 ∷ [])
    ∷ (typed 6 ∷ [])
    ∷ (one (r (4 ∷ [])) ∷ one (r (7 ∷ [])) ∷ [])
    ∷ (one (r (9 ∷ [])) ∷ one (r (8 ∷ [])) ∷ [])
    ∷ (typed 9 ∷ [])
    ∷ (one (r (9 ∷ [])) ∷ one (r (10 ∷ [])) ∷ [])
    ∷ (one (r (9 ∷ [])) ∷ one (r (11 ∷ [])) ∷ [])
    ∷ (typed 12 ∷ [])
    ∷ (one (r (7 ∷ [])) ∷ any (r (6 ∷ [])) ∷ [])
    ∷ (any (r (6 ∷ [])) ∷ [])
    ∷ (any (r FIVE) ∷ [])
    ∷ (any (p (4 ∷ [])) ∷ [])
    ∷ (one (r (11 ∷ [])) ∷ any (r SIX) ∷ [])
    ∷ (any (r SIX) ∷ [])
    ∷ (one (p (10 ∷ [])) ∷ [])
    ∷ (one (p (6 ∷ [])) ∷ [])
    ∷ (variants ∷ [])
    ∷ (any (p (9 ∷ [])) ∷ [])
    ∷ (opt (p (9 ∷ [])) ∷ cases ∷ [])
    ∷ (cases ∷ [])
    ∷ (opt (p (9 ∷ [])) ∷ opt (r (0 ∷ [])) ∷ [])
    ∷ (opt (r (0 ∷ [])) ∷ [])
    ∷ (one (r (9 ∷ [])) ∷ one (r (0 ∷ [])) ∷ options ∷ [])
    ∷ (one (r (0 ∷ [])) ∷ options ∷ [])
    ∷ (options ∷ [])
    ∷ (one (p (8 ∷ [])) ∷ any (r (12 ∷ [])) ∷ [])
    ∷ (any (r (12 ∷ [])) ∷ [])
    ∷ (one (r (8 ∷ [])) ∷ options ∷ [])
    ∷ (one (r (4 ∷ [])) ∷ one (r (2 ∷ [])) ∷ [])
    ∷ (opt (p (9 ∷ [])) ∷ options ∷ [])
    ∷ (opt (p (9 ∷ [])) ∷ [])
    ∷ (one (r (9 ∷ [])) ∷ options ∷ [])
    ∷ (opt (r (9 ∷ [])) ∷ [])
    ∷ (opt (p (4 ∷ [])) ∷ opt (r (0 ∷ [])) ∷ [])
    ∷ (opt (p (4 ∷ [])) ∷ [])
    ∷ []

-- What a number stands for: nothing below 48, which is the number of a row that does not fit.
unfoldable pub left_of : ℕ → Option (List Part)
left_of n = pick (leb 48 n) (some (get_or states (n - 48) [])) none

-- ---- what is left after a row

-- by the row's column: a REF of each space, without PATHs and with one or more; a CASE; an OUTER of each space; the field's end
unfoldable pub after : (column : ℕ) → List Part → Option (List Part)
after column ps =
    pick (ltb column 26) (next (λ w. fits_ref w (column / 2) (column % 2)) ps)
    (pick (eqb column 26) (next is_case ps)
    (pick (ltb column 40) (next (λ w. fits_outer w (column - 27)) ps)
    (pick (eqb column 40) (only (complete ps) ps)
    none)))

-- the entry of a table for what is left and a column
unfoldable pub entry : List (List ℕ) → (left column : ℕ) → ℕ
entry table left column =
    pick (ltb left 48) 46
    (pick (leb 41 column) 46
    (get_or (get_or table (pick (ltb left 115) (left - 48) 0) []) column 0))

-- for a REF: one to the spaces 0 to 6 has at most one PATH
unfoldable pub ref_entry : List (List ℕ) → (left space paths : ℕ) → ℕ
ref_entry table left space paths =
    pick (ltb 12 space) 46
    (pick (eqb paths 0) (entry table left (space * 2))
    (pick (leb 7 space || leb paths 1) (entry table left (space * 2 + 1)) 46))

-- for an OUTER
unfoldable pub outer_entry : List (List ℕ) → (left space : ℕ) → ℕ
outer_entry table left space = pick (ltb 12 space) 46 (entry table left (27 + space))

-- does each entry say what is left?
unfoldable pub Right : List (List ℕ) → Type 0
Right table = (left column : ℕ) → left_of (entry table left column) ≡ (left_of left then after column)
