-- The references at a place as a list of rows: what the search through the rows finds, and rows that have none.
use Rattle.std.specs.Prelude.{◌≡◌, Bool, ◌&&◌, not, leb}
use Rattle.std.proofs.Math.Path.{refl, ap, sym}
use Rattle.std.proofs.Common.{◌∙◌, subst}
use Rattle.std.proofs.Math.Bool.{true, false}
use mathlib.Core.List.{List, [], ◌∷◌, ◌++◌, append_assoc}
use native.Mathlib.Omega.{arith}
use Prim.Native.Nat.{ℕ, zero, suc, ◌+◌, ◌-◌, ◌<◌}
use Rattle.std.proofs.Math.Dec.{eqb}
use Rattle.std.proofs.Math.ListN.{length}
use Rattle.kit.specs.Pick.{pick}
use Rattle.kit.proofs.Laws.{yes!, no!, tests}
use Rattle.rules.specs.Tools.{only}
use Rattle.rules.specs.Rows.{Row, Ref, encode}
use Rattle.rules.specs.Readings.{is_fresh}
use Rattle.rules.specs.Laws.ToolLaws.{All, ◌&◌, eqb-false}
use Rattle.moving.specs.Moved.{if_any}
use Rattle.row_parts.specs.Parts.{code_at, x_at, z_at, rows_in, is_inserted}
use Rattle.reading_laws.specs.Stand.{Is, At, code_part, x_part, z_part}
use Rattle.reading_laws.specs.Even.{code_of}
use Rattle.reading_laws.specs.EveryRow.{NotRef}
use Rattle.bound.specs.Bound.{is_reference, next_from, next_reference, reference_at}
use Rattle.bound.specs.declared.Reference.{Reference}
use Rattle.bound.specs.declared.Reference.TheVariants.{Nothing, At as OneAt, Several as Many}

-- ---- the search

-- none, one, or more
abbrev pub by_rows : List ℕ → Reference
by_rows [] = Nothing
by_rows (r ∷ []) = OneAt r
by_rows (r ∷ q ∷ rs) = Many

not_empty : {X : Type 0} (r : ℕ) (rs : List ℕ) → r ∷ rs ≡ [] → X
not_empty r rs e = let no_way : ◌≡◌ {A = ℕ} 0 1 = cc in absurd (omega arith)

module _ (form : List ℕ) (z : ℕ) where
  unfoldable pub ref_rows : (row left : ℕ) → List ℕ
  ref_rows row zero = []
  ref_rows row (suc left) = if_any (only (is_reference form row z) row) (ref_rows (row + 1) left)

  next_none : (row left : ℕ) → ref_rows row left ≡ [] → next_from form z row left ≡ row + left
  unfolding ref_rows next_from if_any only pick
  next_none row zero e = omega arith
  next_none row (suc left) e = go (is_reference form row z) (λ q. next_none (row + 1) left q) e
    where
      go : (b : Bool) → (ref_rows (row + 1) left ≡ [] → next_from form z (row + 1) left ≡ row + 1 + left) → if_any (only b row) (ref_rows (row + 1) left) ≡ []
          → pick b row (next_from form z (row + 1) left) ≡ row + suc left
      go true below e = not_empty row _ e
      go false below e = let h = below e in omega (arith, h)

  -- the first, and those behind it
  record Next (row left r : ℕ) (rs : List ℕ) : Type 0 where
    is : next_from form z row left ≡ r
    low : r < row + left
    others : ref_rows (r + 1) (row + left - (r + 1)) ≡ rs

  next_some : (row left r : ℕ) (rs : List ℕ) → ref_rows row left ≡ r ∷ rs → Next row left r rs
  unfolding ref_rows next_from if_any only pick
  next_some row zero r rs e = not_empty r rs (sym e)
  next_some row (suc left) r rs e = go (is_reference form row z) refl (λ q. next_some (row + 1) left r rs q) e
    where
      on : row + suc left ≡ row + 1 + left
      on = omega arith

      go : (b : Bool) → is_reference form row z ≡ b → (ref_rows (row + 1) left ≡ r ∷ rs → Next (row + 1) left r rs) → if_any (only b row) (ref_rows (row + 1) left) ≡ r ∷ rs → Next row (suc left) r rs
      go true t below e =
          let same : row ≡ r = cc in
          let rest : ref_rows (row + 1) left ≡ rs = cc in
          let many : row + suc left - (row + 1) ≡ left = omega arith in
          record {
            is = ap (λ (b : Bool). pick b row (next_from form z (row + 1) left)) t ∙ same;
            low = omega (arith, same);
            others = subst (λ (n : ℕ). ref_rows (n + 1) (row + suc left - (n + 1)) ≡ rs) same (ap (ref_rows (row + 1)) many ∙ rest);
          }
      go false t below e =
          let N = below e in
          let low = N.low in
          record {
            is = ap (λ (b : Bool). pick b row (next_from form z (row + 1) left)) t ∙ N.is;
            low = omega (arith, low);
            others = ap (λ (n : ℕ). ref_rows (r + 1) (n - (r + 1))) on ∙ N.others;
          }

  -- What the code finds is by their list.
  pub reference_is : reference_at form z ≡ by_rows (ref_rows 0 (rows_in form))
  unfolding reference_at next_reference
  reference_is = go (ref_rows 0 (rows_in form)) refl
    where
      rows : ℕ
      rows = rows_in form

      all : rows - 0 ≡ rows
      all = omega arith

      answer : ℕ → Reference
      answer row = pick (leb rows row) Nothing (pick (leb rows (next_from form z (row + 1) (rows - (row + 1)))) (OneAt row) Many)

      first : (r : ℕ) → next_from form z 0 rows ≡ r → reference_at form z ≡ answer r
      first r e = ap answer (ap (next_from form z 0) all ∙ e)

      whole : (r : ℕ) → ref_rows (r + 1) (0 + rows - (r + 1)) ≡ ref_rows (r + 1) (rows - (r + 1))
      whole r = ap (λ (n : ℕ). ref_rows (r + 1) (n - (r + 1))) (omega arith)

      go : (rs : List ℕ) → ref_rows 0 rows ≡ rs → reference_at form z ≡ by_rows rs
      go [] e =
          let N = next_none 0 rows e in
          let n : next_from form z 0 rows ≡ rows = omega (arith, N) in
          let t : leb rows rows ≡ true = omega tests in
          first rows n ∙ sym (yes! _ t refl)
      go (r ∷ []) e =
          let N = next_some 0 rows r [] e in
          let low = N.low in
          let t : leb rows r ≡ false = omega (tests, low) in
          let S = next_none (r + 1) (rows - (r + 1)) (sym (whole r) ∙ N.others) in
          let n : rows ≡ next_from form z (r + 1) (rows - (r + 1)) = omega (arith, S, low) in
          let u : leb rows (next_from form z (r + 1) (rows - (r + 1))) ≡ true = omega (tests, n) in
          first r N.is ∙ sym (no! _ t (yes! _ u refl))
      go (r ∷ q ∷ rs) e =
          let N = next_some 0 rows r (q ∷ rs) e in
          let low = N.low in
          let t : leb rows r ≡ false = omega (tests, low) in
          let S = next_some (r + 1) (rows - (r + 1)) q rs (sym (whole r) ∙ N.others) in
          let is = S.is in
          let below = S.low in
          let u : leb rows (next_from form z (r + 1) (rows - (r + 1))) ≡ false = omega (tests, is, below, low) in
          first r N.is ∙ sym (no! _ t (no! _ u refl))

  -- ---- rows one behind another

  -- of n rows from `row` on
  pub record Span (row n : ℕ) (rs : List ℕ) : Type 0 where
    pub are : (left : ℕ) → ref_rows row (n + left) ≡ rs ++ ref_rows (row + n) left

  pub no_rows_lem : (row : ℕ) → Span row 0 []
  no_rows_lem row = record { are = λ left. (let a : 0 + left ≡ left = omega arith in let b : row + 0 ≡ row = omega arith in rw (a, b)) }

  pub span_append : {row n m : ℕ} {rs qs : List ℕ} → Span row n rs → Span (row + n) m qs → Span row (n + m) (rs ++ qs)
  span_append {row} {n} {m} {rs} {qs} P Q =
      record {
        are = λ left. (
            let a : n + m + left ≡ n + (m + left) = omega arith in
            let b : row + n + m ≡ row + (n + m) = omega arith in
            ap (ref_rows row) a ∙ (P.are (m + left) ∙ (ap (λ (l : List ℕ). rs ++ l) (Q.are left ∙ ap (λ (k : ℕ). qs ++ ref_rows k left) b) ∙ sym (append_assoc rs qs _)))
            );
      }

  pub span_is : {row n m : ℕ} {rs qs : List ℕ} → Span row n rs → n ≡ m → rs ≡ qs → Span row m qs
  span_is S e₁ e₂ = rw (← e₁, ← e₂) S

  -- one row, by its test
  pub one_row : (row : ℕ) (b : Bool) → is_reference form row z ≡ b → Span row 1 (if_any (only b row) [])
  unfolding ref_rows if_any only
  one_row row b e =
      record {
        are = λ left. (let k : 1 + left ≡ suc left = omega arith in ap (ref_rows row) k ∙ (ap (λ (c : Bool). if_any (only c row) (ref_rows (row + 1) left)) e ∙ any b left));
      }
    where
      any : (b : Bool) (left : ℕ) → if_any (only b row) (ref_rows (row + 1) left) ≡ if_any (only b row) [] ++ ref_rows (row + 1) left
      any true left = refl
      any false left = refl

  -- a row that is no REF
  other_row : (row : ℕ) (r : Row) → Is form row r → NotRef r → is_reference form row z ≡ false
  unfolding is_reference encode
  other_row row r is n = let c : code_at form row ≡ code_of r = ap code_part is in let t : eqb (code_at form row) 3 ≡ false = eqb-false (code_at form row) 3 (λ e. n (sym c ∙ e)) in sym (no! _ t refl)

  pub other_rows : (row : ℕ) (rs : List Row) → All NotRef rs → At form row rs → Span row (length rs) []
  unfolding if_any only
  other_rows row [] a stand = no_rows_lem row
  other_rows row (r ∷ rs) (n & a) stand =
      let one : 1 + length rs ≡ suc (length rs) = omega arith in
      let first : Span row 1 [] = one_row row false (other_row row r stand.0 n) in
      span_is (span_append first (other_rows (row + 1) rs a stand.1)) one refl

  -- a REF behind a row that is an inserted DECL, or is not
  pub ref_row : (row space : ℕ) (paths y : ℕ) (at : _) (b : Bool) → Is form row (Ref space at paths y) → is_inserted form (row - 1) ≡ b → is_reference form row z ≡ pick (eqb y z) (not b) false
  unfolding is_reference encode
  ref_row row space paths y at b is e =
      let c : code_at form row ≡ 3 = ap code_part is in
      let p : z_at form row ≡ y = ap z_part is in
      let t : eqb (code_at form row) 3 ≡ true = ap (λ (k : ℕ). eqb k 3) c in
      sym (yes! _ t (rw (p, e)))

-- ---- rows that are no inserted DECL

abbrev pub x_of : Row → ℕ
x_of r = x_part (encode r)

abbrev pub Old : Row → Type 0
Old r = eqb (code_of r) 2 && is_fresh (x_of r) ≡ false

is_old : (form : List ℕ) (row : ℕ) (r : Row) → Is form row r → Old r → is_inserted form row ≡ false
unfolding is_inserted encode
is_old form row r is old = let c : code_at form row ≡ code_of r = ap code_part is in let x : x_at form row ≡ x_of r = ap x_part is in rw (c, x) old

-- the last of some
pub last_old : (form : List ℕ) (row : ℕ) (r : Row) (rs : List Row) → All Old (r ∷ rs) → At form row (r ∷ rs) → is_inserted form (row + suc (length rs) - 1) ≡ false
last_old form row r [] (o & a) stand = let here : row + 1 - 1 ≡ row = omega arith in ap (is_inserted form) here ∙ is_old form row r stand.0 o
last_old form row r (q ∷ rs) (o & a) stand =
    let on : row + suc (suc (length rs)) - 1 ≡ row + 1 + suc (length rs) - 1 = omega arith in
    ap (is_inserted form) on ∙ last_old form (row + 1) q rs a stand.1
