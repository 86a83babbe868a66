-- The scopes of a claim that are open, the innermost first: each by its name and the row of its OPEN.
use Rattle.std.specs.Prelude.{List, [], ◌∷◌, ℕ, zero, suc, ◌+◌, ◌-◌, eqb, ltb, length, get_or, set}
use Rattle.kit.specs.Pick.{pick}
use Rattle.kit.specs.Out.{Out, ◌&◌}
use Rattle.names.specs.Table.{scope_at}
use Rattle.parts.specs.declared.Parts.{Parts}

abbrev pub open_scope_t : (name row : ℕ) → List ℕ
open_scope_t name row = name ∷ row ∷ 0 ∷ 0 ∷ []

abbrev pub name_in : List ℕ → ℕ
name_in s = get_or s 0 0

abbrev pub row_in : List ℕ → ℕ
row_in s = get_or s 1 0

-- ---- as the code has them: the first `depth` of an array, the outermost first

-- behind a row, which is row i
unfoldable pub open_behind_t : (scopes : List (List ℕ)) (depth : ℕ) → Parts → (i : ℕ) → Out ℕ (List (List ℕ))
open_behind_t scopes depth p i =
    pick (eqb p.code 7) (pick (ltb depth (length scopes)) (depth + 1 & set scopes depth (open_scope_t p.x i)) (depth & scopes))
    (pick (eqb p.code 8) (depth - 1 & scopes)
    (depth & scopes))

-- ---- as a list

-- the open scopes as a list, the innermost first
unfoldable pub open_in : (scopes : List (List ℕ)) (depth : ℕ) → List (List ℕ)
open_in scopes zero = []
open_in scopes (suc k) = scope_at scopes k ∷ open_in scopes k

-- the row of the innermost
unfoldable pub here_t : List (List ℕ) → ℕ
here_t [] = 0
here_t (s ∷ st) = row_in s

unfoldable pub open_closed_t : List (List ℕ) → List (List ℕ)
open_closed_t [] = []
open_closed_t (s ∷ st) = st

-- behind a row, which is row i: at most `room` are open
unfoldable pub open_one_t : (room : ℕ) → List (List ℕ) → Parts → (i : ℕ) → List (List ℕ)
open_one_t room st p i = pick (eqb p.code 7) (pick (ltb (length st) room) (open_scope_t p.x i ∷ st) st) (pick (eqb p.code 8) (open_closed_t st) st)
