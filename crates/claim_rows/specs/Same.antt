-- Condition 2 as the code tries it: the claim's rows and the input's, one after another.
use Rattle.std.specs.Prelude.{Bool, true, false, ◌&&◌, ◌||◌, not, List, [], ◌∷◌, ℕ, ◌+◌, ◌-◌, eqb, ltb, Result, Ok, Err, ⊤}
use Rattle.kit.specs.Pick.{pick}
use Rattle.parts.specs.declared.Parts.{Parts}
use Rattle.claim_rows.specs.Added.{is_added_t}

-- how deep in an added field the claim is behind a row: 0 outside, 1 in one, one more for each scope that is open in it
unfoldable pub depth_behind_t : (depth code : ℕ) (begins : Bool) → ℕ
depth_behind_t depth code begins =
    pick (eqb code 1) (pick (ltb 1 depth) depth (pick begins 1 0))
    (pick (eqb code 8) (depth - 1)
    (pick (eqb code 7) (pick (eqb depth 0) 0 (depth + 1))
    depth))

-- are they the same row, but for e, x and y of REF and OUTER?
unfoldable pub is_same_t : (p q : Parts) → Bool
is_same_t p q =
    eqb p.code q.code && (eqb p.b q.b && ((eqb p.code 3 || (eqb p.code 5 || (eqb p.e q.e && (eqb p.x q.x && eqb p.y q.y)))) && eqb p.z q.z))

-- is a claimed row other than the first of these?
unfoldable pub other_t : Parts → List Parts → Bool
other_t p [] = true
other_t p (q ∷ qs) = not (is_same_t p q)

-- does a claimed row break the condition, where these are left of the input?
unfoldable pub same_breaks_t : Parts → (depth : ℕ) → List Parts → Bool
same_breaks_t p depth qs = pick (eqb p.code 4) true (pick (ltb 0 depth) false (other_t p qs))

-- without the PATHs that come first
unfoldable pub past_paths : List Parts → List Parts
past_paths [] = []
past_paths (p ∷ ps) = pick (eqb p.code 4) (past_paths ps) (p ∷ ps)

unfoldable pub same_next_t : List Parts → List Parts
same_next_t [] = []
same_next_t (p ∷ ps) = past_paths ps

-- what is left of the input behind a claimed row
unfoldable pub rows_behind_t : (depth : ℕ) → List Parts → List Parts
rows_behind_t depth qs = pick (ltb 0 depth) qs (same_next_t qs)

-- no claimed row is left, and the next would be row i
unfoldable pub rest_t : (i : ℕ) → List Parts → Result ⊤ ℕ
rest_t i [] = Ok tt
rest_t i (q ∷ qs) = Err i

-- the claim's rows from row i on, and what is left of the input's
unfoldable pub differs_t : (i depth : ℕ) (ps qs : List Parts) → Result ⊤ ℕ
differs_t i depth [] qs = rest_t i qs
differs_t i depth (p ∷ ps) qs =
    let d = depth_behind_t depth p.code (is_added_t false p.code ps) in
    pick (same_breaks_t p d qs) (Err i) (differs_t (i + 1) d ps (rows_behind_t d qs))
