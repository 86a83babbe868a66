-- The rows that bytes are read as, written again, are these bytes: header and all.
use Rattle.std.specs.Prelude.{◌≡◌, refl, true, ℕ, zero, suc, ◌+◌, ◌*◌, ◌≤◌, take, drop}
use Rattle.std.proofs.Math.Path.{ap, sym}
use Rattle.std.proofs.Common.{ap₂, ◌∙◌, arith, take-append-drop, take-add, drop-drop}
use Rattle.std.proofs.Math.Option.{some}
use mathlib.Core.List.{List, [], ◌∷◌, ◌++◌, map, cons≢nil, head-eq_of_cons-eq, tail-eq_of_cons-eq}
use Rattle.std.proofs.Math.ListN.{length, length-drop}
use Rattle.std.proofs.lemmas.List.{length-map}
use Rattle.rules.specs.Versions.{Setting}
use Rattle.rules.specs.Rows.{value, bytes, raw_at, raw_bytes, Row, decode_row, encode_row}
use Rattle.rules.specs.Answer.{has_header, row_count, rows_of, rows_bytes, form_bytes}
use Rattle.rules.specs.Laws.ToolLaws.{ok_at}
use Rattle.rules.specs.Laws.RowLaws.{decode_parts, Bytes, bytes_drop}
use Rattle.rules.proofs.Laws.Read.BeginsWritten.{rows_length}
use Rattle.headers.specs.Laws.Written.{bytes_value, header_bytes_lem}

-- ---- a row

raw_bytes_lem : (bs : List ℕ) → Bytes bs → 16 ≤ length bs → raw_bytes (raw_at bs) ≡ take 16 bs
unfolding raw_at raw_bytes
raw_bytes_lem bs p h =
    let part : (k n : ℕ) → k + n ≤ 16 → bytes n (value (take n (drop k bs))) ≡ take n (drop k bs) =
    λ k n l. bytes_value n (drop k bs) (bytes_drop k bs p) (omega (arith, length-drop k bs)) in
    let cut : (k n m : ℕ) → take (n + m) (drop k bs) ≡ take n (drop k bs) ++ take m (drop (k + n) bs) =
    λ k n m. take-add n m (drop k bs) ∙ ap (λ (l : List ℕ). take n (drop k bs) ++ take m l) (drop-drop n k bs) in
    rw (part 0 1 (omega arith), part 1 1 (omega arith), part 2 2 (omega arith), part 4 4 (omega arith), part 8 4 (omega arith), part 12 4 (omega arith))
    (sym (cut 0 1 15 ∙ ap (λ (l : List ℕ). take 1 bs ++ l) (cut 1 1 14 ∙ ap (λ (l : List ℕ). take 1 (drop 1 bs) ++ l) (cut 2 2 12
    ∙ ap (λ (l : List ℕ). take 2 (drop 2 bs) ++ l) (cut 4 4 8 ∙ ap (λ (l : List ℕ). take 4 (drop 4 bs) ++ l) (cut 8 4 4))))))

row_bytes_lem : (top : ℕ) (bs : List ℕ) (r : Row) → Bytes bs → 16 ≤ length bs → decode_row top bs ≡ some r → encode_row r ≡ take 16 bs
unfolding decode_row encode_row
row_bytes_lem top bs r p h e = rw (ok_at _ _ r (decode_parts top (raw_at bs)) e) (raw_bytes_lem bs p h)

-- ---- rows

rows_bytes_lem : (top count : ℕ) (bs : List ℕ) (rs : List Row) → Bytes bs → length bs ≡ 16 * count → map some rs ≡ rows_of top count bs → rows_bytes rs ≡ bs
unfolding rows_of rows_bytes
rows_bytes_lem top zero [] [] p h e = refl
rows_bytes_lem top zero (b ∷ bs) [] p h e = absurd (omega arith)
rows_bytes_lem top zero bs (r ∷ rs) p h e = absurd (cons≢nil e)
rows_bytes_lem top (suc count) bs [] p h e = absurd (cons≢nil (sym e))
rows_bytes_lem top (suc count) bs (r ∷ rs) p h e =
    ap₂ (λ (x y : List ℕ). x ++ y) (row_bytes_lem top bs r p (omega arith) (sym (head-eq_of_cons-eq e)))
    (rows_bytes_lem top count (drop 16 bs) rs (bytes_drop 16 bs p) (omega (arith, length-drop 16 bs)) (tail-eq_of_cons-eq e))
    ∙ take-append-drop 16 bs

-- ---- the header

module _ (s : Setting) (input : List ℕ) (p : Bytes input) (fits : 6 + s.version.counting ≤ s.version.header) (h : has_header s input ≡ true) where
  -- What is read is written again.
  pub form_bytes_lem : (top : ℕ) (rs : List Row) → length input ≡ s.version.header + 16 * row_count s.version input
      → map some rs ≡ rows_of top (row_count s.version input) (drop s.version.header input) → form_bytes s rs ≡ input
  unfolding form_bytes
  form_bytes_lem top rs long e =
      let n = s.version.header in
      let k = row_count s.version input in
      let count : length rs ≡ k = sym (length-map rs some) ∙ ap length e ∙ rows_length top k (drop n input) in
      rw (count, header_bytes_lem s input p fits h, rows_bytes_lem top k (drop n input) rs (bytes_drop n input p) (omega (arith, length-drop n input)) e) (take-append-drop n input)
