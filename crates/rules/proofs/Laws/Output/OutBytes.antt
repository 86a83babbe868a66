-- The bytes of an accepted form, read as an output may be (`claimed`): its rows again.
use Rattle.std.specs.Prelude.{◌≡◌, length, take, drop}
use Rattle.std.proofs.Math.Path.{refl, ap}
use Rattle.std.proofs.Common.{ap₂, sym, ◌∙◌, arith}
use Rattle.std.proofs.Math.Option.{some}
use mathlib.Core.List.{List, [], ◌∷◌, ◌++◌, map, append_assoc}
use Prim.Native.Nat.{ℕ, zero, suc, ◌+◌, ◌-◌, ◌^◌, ◌≤◌, ◌<◌, ◌/◌, ◌%◌}
use Rattle.std.proofs.Math.ListN.{replicate, length-append, length-replicate}
use Rattle.rules.specs.Versions.{Setting, claimed, as_claimed}
use Rattle.rules.specs.Rows.{value, bytes, Row}
use Rattle.rules.specs.Answer.{mark, row_count, rows_of, rows_in, rows_bytes, header_bytes, form_bytes}
use Rattle.rules.specs.Laws.ToolLaws.{All}
use Rattle.rules.specs.Laws.RowLaws.{Written, value_bytes}
use Rattle.rules.proofs.Laws.Read.BeginsWritten.{rows_again}
use Rattle.rules.proofs.Laws.Output.OutFits.{out_name}

pub take_bytes : (c n : ℕ) (rest : List ℕ) → take c (bytes c n ++ rest) ≡ bytes c n
unfolding bytes
take_bytes zero n rest = refl
take_bytes (suc c) n rest = ap (λ (l : List ℕ). n % 256 ∷ l) (take_bytes c (n / 256) rest)

pub bytes_length : (c n : ℕ) → length (bytes c n) ≡ c
unfolding bytes
bytes_length zero n = refl
bytes_length (suc c) n = ap suc (bytes_length c (n / 256))

pub drop_first : {A : Type 0} (xs ys : List A) → drop (length xs) (xs ++ ys) ≡ ys
drop_first [] ys = refl
drop_first (x ∷ xs) ys = drop_first xs ys

module _ (v : Setting) (n : ℕ) (rest : List ℕ) where
  -- what stands behind the mark
  counted_by : drop 6 (header_bytes v n ++ rest) ≡ bytes v.version.counting n ++ (replicate (v.version.header - (6 + v.version.counting)) 0 ++ rest)
  unfolding header_bytes mark bytes
  counted_by = append_assoc (bytes v.version.counting n) (replicate (v.version.header - (6 + v.version.counting)) 0) rest

  pub header_count : n < 256 ^ v.version.counting → row_count (claimed v.version) (header_bytes v n ++ rest) ≡ n
  unfolding row_count
  header_count h =
      ap (λ (l : List ℕ). value (take v.version.counting l)) counted_by
      ∙ (ap value (take_bytes v.version.counting n _) ∙ value_bytes v.version.counting n h)

  pub mark_length : length (mark v) ≡ 6
  unfolding mark bytes
  mark_length = refl

  pub header_length : 6 + v.version.counting ≤ v.version.header → length (header_bytes v n) ≡ v.version.header
  unfolding header_bytes
  header_length h =
      let c = v.version.counting in
      let pad : List ℕ = replicate (v.version.header - (6 + c)) 0 in
      omega (arith, mark_length, bytes_length c n, length-replicate {A = ℕ} (v.version.header - (6 + c)) 0, length-append (mark v) (bytes c n ++ pad), length-append (bytes c n) pad)

  pub header_drop : 6 + v.version.counting ≤ v.version.header → drop v.version.header (header_bytes v n ++ rest) ≡ rest
  header_drop h = ap (λ (m : ℕ). drop m (header_bytes v n ++ rest)) (sym (header_length h)) ∙ drop_first (header_bytes v n) rest

-- What is written, whatever follows it, has these rows.
pub out_rows : (v : Setting) (rs : List Row) (rest : List ℕ) → 6 + v.version.counting ≤ v.version.header → length rs < 256 ^ v.version.counting
    → All (Written out_name) rs → rows_in (as_claimed v) (form_bytes v rs ++ rest) ≡ map some rs
unfolding form_bytes
out_rows v rs rest h low a =
    let split = append_assoc (header_bytes v (length rs)) (rows_bytes rs) rest in
    let count = ap (row_count (claimed v.version)) split ∙ header_count v (length rs) (rows_bytes rs ++ rest) low in
    let body = ap (drop v.version.header) split ∙ header_drop v (length rs) (rows_bytes rs ++ rest) h in
    ap₂ (λ (c : ℕ) (l : List ℕ). rows_of out_name c l) count body ∙ rows_again out_name rs rest a
