-- Laws of rows that stand in bytes: one run behind another, the rows of a form, the rows of one field.
use Rattle.std.specs.Prelude.{◌≡◌, refl, ◌⊎◌, get_or}
use Rattle.std.proofs.Math.Path.{sym, ap}
use Rattle.std.proofs.Common.{◌∙◌, inl, inr, drop-drop, length-take-le, get_or-drop, get_or-take, take-take, lt-ltb}
use Rattle.std.proofs.Math.Option.{some}
use mathlib.Core.List.{List, [], ◌∷◌, ◌++◌, map}
use Rattle.std.proofs.Math.Nat.{add-zero}
use native.Mathlib.Omega.{arith}
use Prim.Native.Nat.{ℕ, zero, suc, ◌+◌, ◌*◌, ◌-◌, ◌/◌, ◌<◌, ◌≤◌}
use Rattle.std.proofs.Math.ListN.{length, take, drop, length-drop, get_or-eq_default}
use Rattle.kit.proofs.Laws.{yes!, no!, tests, lt_or_le}
use Rattle.rules.specs.Rows.{Row, Field, Decl, Ref, Path, Outer, Case, Open, Close, Export, bytes, raw_bytes, encode, decode_row, encode_row}
use Rattle.rules.specs.Answer.{rows_of}
use Rattle.rules.specs.Laws.RowLaws.{Bytes, bytes_drop}
use Rattle.rows.specs.RowAt.{taken, any_name, row_at, code_at}
use Rattle.rows.specs.declared.row.Row.TheVariants.{Broken}
use Rattle.rows.proofs.Laws.{row_past}
use Rattle.rows.proofs.Runs.{row_in, row_part_lem, decode_wider, encode_again}
use Rattle.form.specs.Part.{field_end, field_rows}
use Rattle.plan.specs.Enter.{row_number}
use Rattle.agree.specs.Rows.At.{Is, At}

-- ---- one run behind another

module _ (bytes : List ℕ) where
  -- rows stand behind rows
  pub at_append : (p : ℕ) (xs ys : List Row) → At bytes p xs → At bytes (p + length xs) ys → At bytes p (xs ++ ys)
  unfolding At
  at_append p [] ys h g = rw add-zero at g
  at_append p (x ∷ xs) ys h g =
      let e : p + suc (length xs) ≡ p + 1 + length xs = omega arith in
      (h.0, at_append (p + 1) xs ys h.1 (rw e at g))

  -- of rows that stand one behind another the first stand there
  pub at_left : (p : ℕ) (xs ys : List Row) → At bytes p (xs ++ ys) → At bytes p xs
  unfolding At
  at_left p [] ys h = tt
  at_left p (x ∷ xs) ys h = (h.0, at_left (p + 1) xs ys h.1)

  -- and so do the others, behind them
  pub at_right : (p : ℕ) (xs ys : List Row) → At bytes p (xs ++ ys) → At bytes (p + length xs) ys
  unfolding At
  at_right p [] ys h = rw add-zero h
  at_right p (x ∷ xs) ys h =
      let e : p + suc (length xs) ≡ p + 1 + length xs = omega arith in
      rw e (at_right (p + 1) xs ys h.1)

  -- the first of rows
  pub at_head : (p : ℕ) (x : Row) (xs : List Row) → At bytes p (x ∷ xs) → Is bytes p x
  unfolding At
  at_head p x xs h = h.0

  -- the rows after the first
  pub at_tail : (p : ℕ) (x : Row) (xs : List Row) → At bytes p (x ∷ xs) → At bytes (p + 1) xs
  unfolding At
  at_tail p x xs h = h.1

  -- the rows are within the bytes
  pub at_fits : (p : ℕ) (xs : List Row) → p ≤ length bytes / 16 → At bytes p xs → p + length xs ≤ length bytes / 16
  unfolding At
  at_fits p [] l h = omega arith
  at_fits p (x ∷ xs) l h = omega (arith, at_fits (p + 1) xs (omega (arith, h.0.there)) h.1)

  -- a row that stands behind rows is there
  pub at_behind : (p : ℕ) (xs : List Row) (x : Row) → At bytes p (xs ++ (x ∷ [])) → p + length xs < length bytes / 16
  at_behind p xs x h = (at_head (p + length xs) x [] (at_right p xs (x ∷ []) h)).there

-- ---- the rows of a form, whatever its names are

-- equal lists have equal heads
cons_head : {A : Type 0} (x y : A) (xs ys : List A) → x ∷ xs ≡ y ∷ ys → x ≡ y
cons_head x y xs ys e = cc

-- and equal tails
cons_tail : {A : Type 0} (x y : A) (xs ys : List A) → x ∷ xs ≡ y ∷ ys → xs ≡ ys
cons_tail x y xs ys e = cc

-- no list with an entry is empty
no_cons : {X A : Type 0} (x : A) (xs : List A) → [] ≡ x ∷ xs → X
no_cons x xs e = let z : ◌≡◌ {A = ℕ} 0 1 = cc in absurd (omega arith)

-- and no empty list has one
no_nil : {X A : Type 0} (x : A) (xs : List A) → x ∷ xs ≡ [] → X
no_nil x xs e = let z : ◌≡◌ {A = ℕ} 0 1 = cc in absurd (omega arith)

module _ (top : ℕ) (bytes : List ℕ) (all : Bytes bytes) (any : top ≤ any_name) where
  -- the rows that are read from place p on, `count` of them, stand there
  rows_at : (count p : ℕ) (rs : List Row) → p + count ≡ length bytes / 16 → rows_of top count (drop (16 * p) bytes) ≡ map some rs → At bytes p rs × (count ≡ length rs)
  unfolding At rows_of
  rows_at zero p [] h e = (tt, refl)
  rows_at zero p (r ∷ rs) h e = no_cons _ _ e
  rows_at (suc count) p [] h e = no_nil _ _ e
  rows_at (suc count) p (r ∷ rs) h e =
      let d : decode_row top (drop (16 * p) bytes) ≡ some r = cons_head _ _ _ _ e in
      let q : 16 * p + 16 ≡ 16 * (p + 1) = omega arith in
      let t : rows_of top count (drop (16 * (p + 1)) bytes) ≡ map some rs = rw (drop-drop 16 (16 * p) bytes, q) at (cons_tail _ _ _ _ e) in
      let l = length-drop (16 * p) bytes in
      let rest = rows_at count (p + 1) rs (omega arith) t in (
        (record { there = omega arith; reads = row_in bytes p (omega arith) ∙ ap taken (decode_wider top any_name (drop (16 * p) bytes) r any d); holds = sym (encode_again top (drop (16 * p) bytes) r (bytes_drop (16 * p) bytes all) (omega arith) d) }, rest.0),
        ap suc rest.1,
      )

  -- the rows that are read from all bytes stand there
  pub at_form : (rs : List Row) → rows_of top (length bytes / 16) bytes ≡ map some rs → At bytes 0 rs × (length bytes / 16 ≡ length rs)
  at_form rs e = rows_at (length bytes / 16) 0 rs (omega arith) e

-- ---- the rows of one field

-- a part of the first n elements
part_take : {A : Type 0} (m f n : ℕ) (l : List A) → f + m ≤ n → take m (drop f (take n l)) ≡ take m (drop f l)
part_take m zero n l h = take-take m n l (omega arith)
part_take m (suc f) zero l h = absurd (omega arith)
part_take m (suc f) (suc n) [] h = refl
part_take m (suc f) (suc n) (x ∷ l) h = part_take m f n l (omega arith)

module _ (bytes : List ℕ) (a m : ℕ) (fits : a + m ≤ length bytes / 16) where
  -- a part of m rows has m rows
  cut_size : length (take (16 * m) (drop (16 * a) bytes)) / 16 ≡ m
  cut_size =
      let e : length (take (16 * m) (drop (16 * a) bytes)) ≡ 16 * m = length-take-le (16 * m) (drop (16 * a) bytes) (simp length-drop (omega arith)) in
      omega arith

  -- rows that stand in the part's place stand in the part
  cut_at : (i : ℕ) (rs : List Row) → i + length rs ≤ m → At bytes (a + i) rs → At (take (16 * m) (drop (16 * a) bytes)) i rs
  unfolding At
  cut_at i [] h g = tt
  cut_at i (r ∷ rs) h g =
      let e : a + i + 1 ≡ a + (i + 1) = omega arith in
      let q : 16 * a + 16 * i ≡ 16 * (a + i) = omega arith in (
        record {
          there = omega (arith, cut_size);
          reads = row_part_lem bytes a m fits i (omega arith) ∙ g.0.reads;
          holds = part_take 16 (16 * i) (16 * m) (drop (16 * a) bytes) (omega arith) ∙ ap (take 16) (drop-drop (16 * i) (16 * a) bytes ∙ ap (λ n. drop n bytes) q) ∙ g.0.holds;
        },
        cut_at (i + 1) rs (omega arith) (rw e at g.1),
      )

module _ (bytes ends : List ℕ) (p : ℕ) (rs : List Row) (some_rows : 0 < length rs) (noted : get_or ends p 0 ≡ p + length rs) (at : At bytes p rs) where
  -- an end is noted for the field
  noted_in : p < length ends
  noted_in = go (lt_or_le p (length ends))
    where
      go : ((p < length ends) ⊎ (length ends ≤ p)) → p < length ends
      go (inl l) = l
      go (inr l) = let e = get_or-eq_default ends 0 l in absurd (omega arith)

  -- the first row is there
  starts : (xs : List Row) → 0 < length xs → At bytes p xs → p < length bytes / 16
  unfolding At
  starts [] l h = absurd (omega arith)
  starts (x ∷ xs) l h = h.0.there

  -- all rows are there
  within : p + length rs ≤ length bytes / 16
  within = at_fits bytes p rs (omega (arith, starts rs some_rows at)) at

  -- the part is cut at the noted end
  part_is : field_rows bytes ends p ≡ take (16 * length rs) (drop (16 * p) bytes)
  unfolding field_rows field_end
  part_is =
      let i = noted_in in
      let w = within in
      let q : 16 * (p + length rs) - 16 * p ≡ 16 * length rs = omega arith in
      sym (no! _ (omega tests) (rw (noted) (sym (ap (λ e. take (16 * e - 16 * p) (drop (16 * p) bytes)) (sym (no! _ (omega tests) (no! _ (omega tests) (no! _ (omega tests) refl)))) ∙ rw q))))

  -- the field has these rows, from its own row 0 on
  pub part_at : At (field_rows bytes ends p) 0 rs
  part_at = rw part_is (cut_at bytes p (length rs) within 0 rs (omega arith) (rw add-zero at))

  -- and no others
  pub part_size : length (field_rows bytes ends p) / 16 ≡ length rs
  part_size = rw part_is (cut_size bytes p (length rs) within)

  -- behind them no row is found
  pub part_past : (i : ℕ) → length rs ≤ i → row_at (field_rows bytes ends p) i ≡ Broken
  part_past i h = row_past (field_rows bytes ends p) i (rw part_size h)

-- ---- codes and numbers of rows

-- the code of each kind of row
abbrev pub row_code : Row → ℕ
row_code (Field code builtin z) = 1
row_code (Decl space name z) = 2
row_code (Ref space at paths z) = 3
row_code (Path name) = 4
row_code (Outer space up at z) = 5
row_code (Case name z) = 6
row_code (Open kind name) = 7
row_code Close = 8
row_code (Export name) = 9

-- a row begins with its code
first_byte : (r : Row) → get_or (encode_row r) 0 0 ≡ row_code r
unfolding encode_row encode raw_bytes bytes
first_byte (Field code builtin z) = refl
first_byte (Decl space name z) = refl
first_byte (Ref space at paths z) = refl
first_byte (Path name) = refl
first_byte (Outer space up at z) = refl
first_byte (Case name z) = refl
first_byte (Open kind name) = refl
first_byte Close = refl
first_byte (Export name) = refl

-- the code of a row that stands there
pub code_is : (bytes : List ℕ) (p : ℕ) (r : Row) → Is bytes p r → code_at bytes p ≡ row_code r
unfolding code_at
code_is bytes p r i =
    sym (yes! _ (lt-ltb _ _ i.there) (sym (ap (λ n. get_or bytes n 0) (sym (add-zero (16 * p))) ∙ sym (get_or-drop (16 * p) bytes 0 0) ∙ sym (get_or-take 16 (drop (16 * p) bytes) 0 0 (omega arith)) ∙ ap (λ l. get_or l 0 0) i.holds ∙ first_byte r)))

-- the number of a row of a field, where nothing wraps
pub row_number_lem : (at i : ℕ) → at + i < 4294967296 → row_number at i ≡ at + i
unfolding row_number
row_number_lem at i h = omega arith
