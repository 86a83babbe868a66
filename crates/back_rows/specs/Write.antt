-- All rows, from the last to the first.
use Rattle.std.specs.Prelude.{ℕ, zero, suc, ◌-◌, Bool, true, false, not, ◌&&◌, List, [], ◌∷◌, drop, ◌==◌, nat_lt}
use Rattle.kit.specs.Pick.{pick}
use Rattle.kit.specs.Out.{Out, ◌&◌}
use Rattle.parts.specs.PartsAt.{parts_at}
use Rattle.back_notes.specs.Note.{Note, Noted}
use Rattle.back_rows.specs.Below.{below}
use Rattle.back_rows.specs.Alias.{alias_before_t, for_t}
use Rattle.back_rows.specs.Restore.{Wrote, copy_back_t, Rest, restore_ref_t}
use Rattle.back_rows.specs.declared.write.Cursor.{Cursor}

-- the FIELD that is next before row i
unfoldable pub field_before_t : (rows : List ℕ) (i : ℕ) → ℕ
field_before_t rows zero = 0
field_before_t rows (suc k) = pick ((parts_at rows k).code == 1) k (field_before_t rows k)

-- the rows before it
unfoldable pub before_field : List Noted → List Noted
before_field [] = []
before_field (r ∷ rs) = pick (r.parts.code == 1) rs (before_field rs)

-- how many rows are to be left out
unfoldable pub left_out_t : (skip : ℕ) → List Noted → ℕ
left_out_t skip l = pick (nat_lt 0 skip) skip (alias_before_t l).size

-- ---- where the rows are gone through; `left` are the rows whose inserted fields may serve the next reference

pub record Going : Type 0 where
  pub skip : ℕ
  pub inside : Bool
  pub left : List Noted
  pub to : ℕ

abbrev pub going : (skip : ℕ) (inside : Bool) → List Noted → (to : ℕ) → Going
going skip inside left to = record { skip = skip; inside = inside; left = left; to = to }

-- where the code has come to, as the definitions have it
abbrev pub cursor_at : (rows : List ℕ) (noted : List Note) → Cursor → Going
cursor_at rows noted c = going c.skip c.inside (below rows noted c.next) c.to

-- before the last row nothing is left out, and no field is being gone through
abbrev pub start_t : (to : ℕ) → Going
start_t to = going 0 false [] to

unfoldable pub goes : Out Rest (List ℕ) → Out Going (List ℕ)
goes (r & out) = going 0 true r.left r.to & out

unfoldable pub goes_on : (inside : Bool) → List Noted → Wrote → Out Going (List ℕ)
goes_on inside l (to & out) = going 0 inside l to & out

-- ---- a row, with those before it

-- a reference, where these rows have the inserted fields that may serve it
unfoldable pub served_t : Noted → List Noted → (to : ℕ) (out : List ℕ) → Out Going (List ℕ)
served_t r l to out =
    pick (for_t (alias_before_t l) r.parts) (goes (restore_ref_t (alias_before_t l) (drop (alias_before_t l).size l) to out))
    (goes_on true l (copy_back_t r to out))

-- a reference, which is row i: as it was before the inserted fields that served it, or as it is
unfoldable pub back_ref_t : Noted → List Noted → Going → (out : List ℕ) → Out Going (List ℕ)
back_ref_t r rs c out = served_t r (pick c.inside c.left (before_field rs)) c.to out

-- a row: left out with an inserted field, restored where it is a reference, else written as it is
unfoldable pub back_row_t : Noted → List Noted → Going → (out : List ℕ) → Out Going (List ℕ)
back_row_t r rs c out =
    pick (nat_lt 0 (left_out_t c.skip (r ∷ rs))) (going (left_out_t c.skip (r ∷ rs) - 1) c.inside c.left c.to & out)
    (pick (r.parts.code == 3) (back_ref_t r rs c out)
    (goes_on (c.inside && not (r.parts.code == 1)) c.left (copy_back_t r c.to out)))

unfoldable pub goes_then : {A : Type 0} → Out Going (List ℕ) → (Going → List ℕ → A) → A
goes_then (c & out) f = f c out

-- writes the rows of the input to the end of `out`, and answers the row at which they begin there
unfoldable pub write_back_t : List Noted → Going → (out : List ℕ) → Wrote
write_back_t [] c out = c.to & out
write_back_t (r ∷ rs) c out = goes_then (back_row_t r rs c out) λ c' out'. write_back_t rs c' out'
