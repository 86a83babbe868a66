-- The rows of one scope, its inner scopes passed over: each with whether the names of its field are walked, and its parts.
use Rattle.std.specs.Prelude.{ℕ, zero, suc, ◌+◌, ◌/◌, Bool, false, not, List, [], ◌∷◌, length, ◌==◌, nat_lt, slice_index}
use Rattle.kit.specs.Pick.{pick}
use Rattle.rules.specs.Shapes.{here_only}
use Rattle.parts.specs.declared.Parts.{Parts}
use Rattle.parts.specs.PartsAt.{parts_at}
use Rattle.mark.specs.declared.Place.{Place}

abbrev pub place : (row end : ℕ) (walked : Bool) → Place
place row end walked = record { row = row; end = end; walked = walked }

-- before the first field of a scope
abbrev pub place_at : (first : ℕ) → Place
place_at first = place first first false

-- the row behind a row of `count`; past the last there is none
unfoldable pub visits_behind_t : (count row : ℕ) → ℕ
visits_behind_t count row = pick (nat_lt row count) (row + 1) row

-- on from a row with these parts: at a FIELD its end is looked up, and at an OPEN the scope is passed over
unfoldable pub visit_step_t : (ends : List ℕ) (count : ℕ) → Parts → Place → Place
visit_step_t ends count p at =
    pick (p.code == 1) (place (visits_behind_t count at.row) (slice_index ends at.row) (not (here_only p.b)))
    (pick (p.code == 7) (place at.end at.end at.walked)
    (place (visits_behind_t count at.row) at.end at.walked))

-- a row that is gone through
pub record Visit : Type 0 where
  pub row : ℕ
  pub walked : Bool
  pub parts : Parts

-- from a place up to the scope's CLOSE, this many rows at most
unfoldable pub visits_t : (rows ends : List ℕ) (turns : ℕ) → Place → List Visit
visits_t rows ends zero at = []
visits_t rows ends (suc turns) at =
    let p = parts_at rows at.row in
    pick (p.code == 8) []
    (record { row = at.row; walked = at.walked; parts = p } ∷ visits_t rows ends turns (visit_step_t ends (length rows / 16) p at))
