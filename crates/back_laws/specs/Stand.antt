-- Rows that stand in bytes, with what was noted of them.
use Rattle.std.specs.Prelude.{◌≡◌, refl, ℕ, zero, suc, ◌+◌, ◌-◌, ◌*◌, ◌/◌, ◌<◌, ◌≤◌, length, get_or, take, drop}
use Rattle.std.proofs.Common.{sym, ap, ap₂, ◌∙◌, arith, add-one, drop-drop, get_or-drop, take_at, drop_at}
use mathlib.Core.List.{List, [], ◌∷◌, ◌++◌, append_assoc, append-nil, reverse_aux}
use Rattle.rules.specs.Rows.{Raw, raw, Row, encode, encode_row}
use Rattle.rules.specs.Answer.{rows_bytes}
use Rattle.read_form.proofs.Laws.OutputLength.{rows_length}
use Rattle.parts.specs.declared.Parts.{Parts}
use Rattle.parts.specs.PartsAt.{parts_at}
use Rattle.matched.specs.Counted.{raw_of}
use Rattle.matched.proofs.Ends.{At}
use Rattle.claim_rows.specs.Left.{rows_from, rows_at}
use Rattle.claim_laws.specs.RowParts.{of_raw, as_parts, all_parts}
use Rattle.back_notes.specs.Note.{Note, no_note, Noted, row_at, noted_from, noted_at}
use Rattle.back_rows.specs.Below.{below}

-- ---- a row with its note

abbrev pub with : Row → Note → Noted
with r n = record { bytes = encode_row r; parts = as_parts r; note = n }

-- rows with their notes, as far as both go
unfoldable pub with_notes : List Row → List Note → List Noted
with_notes [] ns = []
with_notes (r ∷ rs) [] = []
with_notes (r ∷ rs) (n ∷ ns) = with r n ∷ with_notes rs ns

pub with_append : (xs ys : List Row) (ms ns : List Note) → length xs ≡ length ms → with_notes (xs ++ ys) (ms ++ ns) ≡ with_notes xs ms ++ with_notes ys ns
unfolding with_notes
with_append [] ys [] ns e = refl
with_append [] ys (m ∷ ms) ns e = absurd (omega arith)
with_append (x ∷ xs) ys [] ns e = absurd (omega arith)
with_append (x ∷ xs) ys (m ∷ ms) ns e = ap (λ (l : List Noted). with x m ∷ l) (with_append xs ys ms ns (omega arith))

pub with_length : (xs : List Row) (ms : List Note) → length xs ≡ length ms → length (with_notes xs ms) ≡ length xs
unfolding with_notes
with_length [] ms e = refl
with_length (x ∷ xs) [] e = absurd (omega arith)
with_length (x ∷ xs) (m ∷ ms) e = ap suc (with_length xs ms (omega arith))

-- ---- rows that stand in bytes

pub part_is : (p : Parts) (r : Row) → raw_of p ≡ encode r → p ≡ as_parts r
unfolding as_parts
part_is p r e = ap of_raw e

pub rows_are : (l : List ℕ) (i : ℕ) (rs : List Row) → At l i rs → rows_from l i (length rs) ≡ all_parts rs
unfolding rows_from all_parts
rows_are l i [] a = refl
rows_are l i (r ∷ rs) a = ap₂ (λ (p : Parts) (ps : List Parts). p ∷ ps) (part_is (parts_at l i) r a.0) (rows_are l (i + 1) rs a.1)

pub row_size : (r : Row) → length (encode_row r) ≡ 16
row_size r = let e : rows_bytes (r ∷ []) ≡ encode_row r = unfold rows_bytes in append-nil (encode_row r) in rw (← e) (rows_length (r ∷ []))

-- from row i on these rows stand there, with these notes
pub record Stands (l : List ℕ) (noted : List Note) (i : ℕ) (rs : List Row) (ns : List Note) : Type 0 where
  pub at : At l i rs
  pub more : List ℕ
  pub bytes : drop (16 * i) l ≡ rows_bytes rs ++ more
  pub rest : List Note
  pub notes : drop i noted ≡ ns ++ rest

first_bytes : (l : List ℕ) (i : ℕ) (r : Row) (rs : List Row) (more : List ℕ) → drop (16 * i) l ≡ rows_bytes (r ∷ rs) ++ more → (take 16 (drop (16 * i) l) ≡ encode_row r) × (drop (16 * (i + 1)) l ≡ rows_bytes rs ++ more)
unfolding rows_bytes
first_bytes l i r rs more e =
    let k : 16 * i + 16 ≡ 16 * (i + 1) = omega arith in
    let split : drop (16 * i) l ≡ encode_row r ++ (rows_bytes rs ++ more) = e ∙ append_assoc (encode_row r) (rows_bytes rs) more in (
      rw split (take_at (encode_row r) (rows_bytes rs ++ more) 16 (row_size r)),
      ap (λ (a : ℕ). drop a l) (sym k) ∙ sym (drop-drop 16 (16 * i) l) ∙ rw split (drop_at (encode_row r) (rows_bytes rs ++ more) 16 (row_size r)),
    )

first_note : (noted : List Note) (i : ℕ) (n : Note) (ns rest : List Note) → drop i noted ≡ (n ∷ ns) ++ rest → (get_or noted i no_note ≡ n) × (drop (i + 1) noted ≡ ns ++ rest)
first_note noted i n ns rest e =
    let z : i + 0 ≡ i = omega arith in
    let there : get_or (drop i noted) 0 no_note ≡ n = rw e in
    let behind : drop 1 (drop i noted) ≡ ns ++ rest = rw e in
    (sym (get_or-drop i noted 0 no_note ∙ rw z) ∙ there, sym (drop-drop 1 i noted) ∙ behind)

pub noted_are : (l : List ℕ) (noted : List Note) (i : ℕ) (rs : List Row) (ns : List Note) → Stands l noted i rs ns → length rs ≡ length ns → noted_from l noted i (length rs) ≡ with_notes rs ns
unfolding noted_from with_notes row_at
noted_are l noted i [] ns s e = refl
noted_are l noted i (r ∷ rs) [] s e = absurd (omega arith)
noted_are l noted i (r ∷ rs) (n ∷ ns) s e =
    let b = first_bytes l i r rs s.more s.bytes in
    let m = first_note noted i n ns s.rest s.notes in
    let p = part_is (parts_at l i) r s.at.0 in
    let later = noted_are l noted (i + 1) rs ns (record { at = s.at.1; more = s.more; bytes = b.1; rest = s.rest; notes = m.1 }) (omega arith) in
    rw (b.0, m.0, p, later)

-- ---- from the last to the first

pub below_are : (l : List ℕ) (noted : List Note) (i count : ℕ) → below l noted (i + count) ≡ reverse_aux (noted_from l noted i count) (below l noted i)
unfolding noted_from
below_are l noted i zero = let e : i + 0 ≡ i = omega arith in rw e
below_are l noted i (suc count) =
    let e : i + suc count ≡ i + 1 + count = omega arith in
    rw e (below_are l noted (i + 1) count ∙ ap (reverse_aux (noted_from l noted (i + 1) count)) (next l noted i))
  where
    next : (l : List ℕ) (noted : List Note) (i : ℕ) → below l noted (i + 1) ≡ row_at l noted i ∷ below l noted i
    next l noted i = rw (add-one i) (unfold below in refl)
