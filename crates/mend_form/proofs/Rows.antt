-- Row by row: the rows that the code makes one at a time are all of the mended form, and each is made of the old row alone.
use mathlib.Core.Path.{◌≡◌, refl, sym, ap, ap₂, ◌∙◌}
use mathlib.Core.Bool.{true, false}
use mathlib.Core.Logic.{◌⊎◌, inl, inr}
use mathlib.Core.List.{List, ◌++◌, append_assoc}
use native.Mathlib.Omega.{arith}
use native.Mathlib.Nat.{add-zero, zero-add}
use Prim.Native.Nat.{ℕ, zero, suc, ◌+◌, ◌-◌, ◌*◌, ◌/◌, ◌≤◌, ◌<◌}
use lib.Dec.{leb, ltb}
use lib.ListN.{length, get_or, take, drop, replicate}
use lib.Seq.{take_at, drop_at, drop-drop, get_or-take, get_or-drop}
use Rattle.kit.specs.Pick.{pick}
use Rattle.kit.proofs.Laws.{tests, lt_or_le, yes! }
use Rattle.rules.specs.Rows.{Close, encode_row}
use Rattle.parts.specs.PartsAt.{parts_in, parts_at}
use Rattle.mending.specs.Mend.{close_rows}
use Rattle.mend_form.specs.Filled.{mended_row_t, mended_rows_t, mended_body_t, row_in, from_t}
use Rattle.mend_form.specs.declared.Kept.{Kept}
use Rattle.mend_form.proofs.Laws.{row_past, row_stays, row_size, close_size, body_size}

module _ (rows : List ℕ) (k : Kept) where
  closed : (i : ℕ) → k.rows ≤ i → i - k.rows < k.scopes → row_in rows k i ≡ encode_row Close
  unfolding row_in
  closed i h g = sym (yes! _ (omega tests) (yes! _ (omega tests) refl))

  from_closes : (i left : ℕ) → k.rows ≤ i → i + left ≡ k.rows + k.scopes → from_t rows k i left ≡ close_rows left
  unfolding from_t close_rows
  from_closes i zero h e = refl
  from_closes i (suc left) h e = ap₂ (λ (p q : List ℕ). p ++ q) (closed i h (omega arith)) (from_closes (i + 1) left (omega arith) (omega arith))

  module _ (there : k.rows ≤ length rows / 16) where
    from_rows : (i n : ℕ) → i + n ≡ k.rows → from_t rows k i (n + k.scopes) ≡ mended_rows_t rows i n ++ close_rows k.scopes
    unfolding from_t mended_rows_t
    from_rows i zero e = ap (from_t rows k i) (zero-add k.scopes) ∙ from_closes i k.scopes (omega arith) (omega arith)
    from_rows i (suc n) e =
        let row : row_in rows k i ≡ mended_row_t rows (16 * i) 0 16 = sym (row_stays rows k i (omega arith) refl (omega arith)) in
        ap (from_t rows k i) (suc_plus n) ∙ (unfold from_t in (ap₂ (λ (p q : List ℕ). p ++ q) row (from_rows (i + 1) n (omega arith)) ∙ sym (append_assoc (mended_row_t rows (16 * i) 0 16) (mended_rows_t rows (i + 1) n) (close_rows k.scopes))))
      where
        suc_plus : (m : ℕ) → suc m + k.scopes ≡ suc (m + k.scopes)
        suc_plus m = omega arith

    -- the rows one behind the other are all of the mended form
    pub from_body : from_t rows k 0 (k.rows + k.scopes) ≡ mended_body_t rows k
    unfolding mended_body_t
    from_body = from_rows 0 k.rows (zero-add k.rows)

  pub in_size : (i : ℕ) → length (row_in rows k i) ≡ 16
  unfolding row_in pick
  in_size i = go (lt_or_le i k.rows) (lt_or_le (i - k.rows) k.scopes) (lt_or_le i (length rows / 16))
    where
      go : (i < k.rows) ⊎ (k.rows ≤ i) → (i - k.rows < k.scopes) ⊎ (k.scopes ≤ i - k.rows) → (i < length rows / 16) ⊎ (length rows / 16 ≤ i)
          → length (pick (leb k.rows i) (pick (ltb (i - k.rows) k.scopes) (encode_row Close) (replicate 16 0)) (pick (leb (length rows / 16) i) (replicate 16 0) (mended_row_t rows (16 * i) 0 16))) ≡ 16
      go (inl a) b (inl c) =
          let t : leb k.rows i ≡ false = omega tests in
          let u : leb (length rows / 16) i ≡ false = omega tests in
          rw (t, u) (row_size rows (16 * i) 0 16)
      go (inl a) b (inr c) =
          let t : leb k.rows i ≡ false = omega tests in
          let u : leb (length rows / 16) i ≡ true = omega tests in
          rw (t, u)
      go (inr a) (inl b) c =
          let t : leb k.rows i ≡ true = omega tests in
          let u : ltb (i - k.rows) k.scopes ≡ true = omega tests in
          rw (t, u) close_size
      go (inr a) (inr b) c =
          let t : leb k.rows i ≡ true = omega tests in
          let u : ltb (i - k.rows) k.scopes ≡ false = omega tests in
          rw (t, u)

  behind : (i n : ℕ) → drop 16 (from_t rows k i (suc n)) ≡ from_t rows k (i + 1) n
  unfolding from_t
  behind i n = drop_at (row_in rows k i) _ 16 (in_size i)

  from_drop : (i j n : ℕ) → drop (16 * j) (from_t rows k i (j + n)) ≡ from_t rows k (i + j) n
  from_drop i zero n = rw (zero-add, add-zero)
  from_drop i (suc j) n =
      let more : suc j + n ≡ suc (j + n) = omega arith in
      let far : 16 * suc j ≡ 16 + 16 * j = omega arith in
      let at : i + 1 + j ≡ i + suc j = omega arith in
      ap₂ (λ (d m : ℕ). drop d (from_t rows k i m)) far more ∙ (sym (drop-drop (16 * j) 16 (from_t rows k i (suc (j + n)))) ∙ (ap (drop (16 * j)) (behind i (j + n)) ∙ (from_drop (i + 1) j n ∙ ap (λ (m : ℕ). from_t rows k m n) at)))

  -- row i of the mended form
  pub body_row : k.rows ≤ length rows / 16 → (i : ℕ) → i < k.rows + k.scopes → take 16 (drop (16 * i) (mended_body_t rows k)) ≡ row_in rows k i
  unfolding from_t
  body_row there i h =
      let n = k.rows + k.scopes - (i + 1) in
      let all : k.rows + k.scopes ≡ i + suc n = omega arith in
      ap (λ (l : List ℕ). take 16 (drop (16 * i) l)) (sym (from_body there) ∙ ap (from_t rows k 0) all)
      ∙ (ap (take 16) (from_drop 0 i (suc n) ∙ ap (λ (m : ℕ). from_t rows k m (suc n)) (zero-add i)) ∙ take_at (row_in rows k i) _ 16 (in_size i))

-- ---- the parts of a row

-- the parts of a row are those of its bytes alone
parts_alone : (l : List ℕ) (i : ℕ) → i < length l / 16 → (row : List ℕ) → take 16 (drop (16 * i) l) ≡ row → length row ≡ 16 → parts_at l i ≡ parts_at row 0
unfolding parts_at parts_in pick
parts_alone l i h row e size =
    let at : (c : ℕ) → c < 16 → get_or l (16 * i + c) 0 ≡ get_or row c 0 = λ c g. sym (ap (λ (r : List ℕ). get_or r c 0) (sym e) ∙ (get_or-take 16 (drop (16 * i) l) c 0 g ∙ get_or-drop (16 * i) l c 0)) in
    let zeroth : get_or l (16 * i) 0 ≡ get_or row 0 0 = ap (λ (n : ℕ). get_or l n 0) (sym (add-zero (16 * i))) ∙ at 0 (omega arith) in
    let t : leb (length l / 16) i ≡ false = omega tests in
    let u : leb (length row / 16) 0 ≡ false = omega tests in
    let plus : (c d : ℕ) → 16 * i + c + d ≡ 16 * i + (c + d) = λ c d. omega arith in
    rw (t, u, zeroth, at 1 (omega arith), plus 2 1, plus 4 1, plus 4 2, plus 4 3, plus 8 1, plus 8 2, plus 8 3, plus 12 1, plus 12 2, plus 12 3, at 2 (omega arith), at 3 (omega arith), at 4 (omega arith), at 5 (omega arith), at 6 (omega arith), at 7 (omega arith), at 8 (omega arith), at 9 (omega arith), at 10 (omega arith), at 11 (omega arith), at 12 (omega arith), at 13 (omega arith), at 14 (omega arith), at 15 (omega arith))

-- those of row i of the mended form, also where it has none
parts_past : (rows : List ℕ) (k : Kept) (i : ℕ) → k.rows + k.scopes ≤ i → parts_at (mended_body_t rows k) i ≡ parts_at (replicate 16 0) 0
unfolding parts_at parts_in pick
parts_past rows k i h = let t : leb (length (mended_body_t rows k) / 16) i ≡ true = omega (tests, body_size rows k) in rw t

pub parts_body : (rows : List ℕ) (k : Kept) → k.rows ≤ length rows / 16 → (i : ℕ) → parts_at (mended_body_t rows k) i ≡ parts_at (row_in rows k i) 0
parts_body rows k there i = go (lt_or_le i (k.rows + k.scopes))
  where
    go : (i < k.rows + k.scopes) ⊎ (k.rows + k.scopes ≤ i) → parts_at (mended_body_t rows k) i ≡ parts_at (row_in rows k i) 0
    go (inl h) = parts_alone (mended_body_t rows k) i (omega (arith, body_size rows k)) (row_in rows k i) (body_row rows k there i h) (in_size rows k i)
    go (inr h) = parts_past rows k i h ∙ ap (λ (l : List ℕ). parts_at l 0) (row_past rows k i (omega arith) (omega arith))
