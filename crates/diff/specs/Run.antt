-- The whole run as the code takes it.
use Rattle.std.specs.Prelude.{Bool, List, ◌++◌, ℕ, ◌-◌, ltb, length, Result, Ok, Err}
use Rattle.std.proofs.lemmas.List.Edits.{sets}
use Rattle.kit.specs.Pick.{pick}
use Rattle.kit.specs.Out.{Out, ◌&◌}
use Rattle.parts.specs.PartsAt.{parts_at}
use Rattle.comparing.specs.Compare.{Choice}
use Rattle.matched.specs.Counted.{same_t}
use Rattle.matched.specs.Alike.{middle_t}
use Rattle.matched.specs.declared.fields.Rest.{Rest}
use Rattle.diff.specs.Written.{entry_t, rows_held, left_t, right_t, pair_t}
use Rattle.refusal.specs.declared.Refusal.{Refusal}

-- ---- the list

-- the roots' OPEN rows
unfoldable pub opening : List ℕ → List ℕ
opening r = entry_t 1 0 1 0 1 ++ rows_held r 0 1

-- the bytes of an entry for one field that another replaces
unfoldable pub pair_bytes : List ℕ → (from end other : ℕ) → List ℕ
pair_bytes r from end other = entry_t 4 from (end - from) from (other - from) ++ rows_held r from other

-- the bytes for rows that differ: a field that another replaces, or all that go and then all that come
unfoldable pub rest_bytes : (l r : List ℕ) (from end other : ℕ) → List ℕ
rest_bytes l r from end other =
    pick (pair_t l r from end other) (pair_bytes r from end other) (left_t l from end from ++ right_t r end other from)

-- the bytes for what is left of both forms
unfoldable pub rest_of : (l r : List ℕ) → Rest → List ℕ
rest_of l r m = rest_bytes l r m.from m.left m.right

-- the whole list: an entry for the root's OPEN where it differs, and then the rest
unfoldable pub both_bytes : (l r : List ℕ) (same : Bool) → Rest → List ℕ
both_bytes l r same m = pick same (rest_of l r m) (opening r ++ rest_of l r m)

unfoldable pub list_t : Choice → (l r : List ℕ) → List ℕ
list_t c l r = both_bytes l r (same_t c (parts_at l 0) (parts_at r 0)) (middle_t c l r)

-- ---- the run

-- an answer, and the buffer for the list
abbrev pub Ran : Type 0
Ran = Out (Result ℕ Refusal) (List ℕ)

-- a refusal at place 0 whose number document 01 gives
abbrev pub refusing : (number place : ℕ) → Result ℕ Refusal
refusing number place = Err (record { number = number; place = place })

-- the list for two forms whose rows these are
unfoldable pub list_rows_t : Choice → (l r list : List ℕ) → Ran
list_rows_t c l r list =
    pick (ltb (length list) (length (list_t c l r))) (refusing 3 0 & list) (Ok (length (list_t c l r)) & sets list 0 (list_t c l r))
