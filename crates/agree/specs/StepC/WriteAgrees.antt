-- What is written: rows one after another, a copied row, and the rows of what was inserted.
use Rattle.std.specs.Prelude.{◌≡◌, refl, List, [], ◌∷◌, ◌++◌, ℕ, ◌%◌, ◌<◌, eqb}
use Rattle.std.proofs.Math.Path.{sym}
use Rattle.std.proofs.Common.{◌∙◌, lt-ltb}
use Rattle.std.proofs.Math.Option.{some}
use native.Mathlib.Omega.{arith}
use Rattle.kit.specs.Pick.{pick}
use Rattle.kit.specs.Out.{Out, ◌&◌}
use Rattle.rules.specs.Rows.{Num, Id, Row, Field, Decl, Ref, Path, Outer, Case, Open, Close, Export}
use Rattle.rules.specs.Tree.{Head, head_rows, decl_rows, operand_rows, operand_row, path_rows, export_rows}
use Rattle.rules.specs.Rules.{outer_alias, export_alias}
use Rattle.rows.specs.RowAt.{as_index, taken}
use Rattle.put.specs.Put.{rule_index, rule_row, bytes_of, row_bytes, put_row, copy_row}
use Rattle.names.specs.Table.{space_of, name_of, out_of, there_of}
use Rattle.write.specs.WriteState.{put_then}
use Rattle.write.specs.Alias.{write_lead_t, write_outer_alias_t, write_export_alias_t}
use Rattle.write.specs.declared.alias.Chain.{Chain}
use Rattle.agree.specs.Rows.At.{Is, put_all}

-- the rows of fields that hold no scope, one after another
unfoldable pub heads_rows : List Head → List Row
heads_rows [] = []
heads_rows (h ∷ hs) = head_rows h ++ heads_rows hs

-- ---- rows written one after another

-- two writings, and then what comes
pub then_then : {A : Type 0} (w : Out ℕ (List ℕ)) (f : ℕ → List ℕ → Out ℕ (List ℕ)) (g : ℕ → List ℕ → A) → put_then (put_then w f) g ≡ put_then w λ to out. put_then (f to out) g
unfolding put_then
then_then (to & out) f g = refl

-- the same after the same writing
pub then_same : {A : Type 0} (w : Out ℕ (List ℕ)) (f g : ℕ → List ℕ → A) → ((to : ℕ) (out : List ℕ) → f to out ≡ g to out) → put_then w f ≡ put_then w g
unfolding put_then
then_same (to & out) f g h = h to out

pub put_append : (out : List ℕ) (to : ℕ) (xs ys : List Row) → put_all out to (xs ++ ys) ≡ put_then (put_all out to xs) λ to' out'. put_all out' to' ys
unfolding put_all put_then
put_append out to [] ys = refl
put_append out to (x ∷ xs) ys =
    then_same (put_row out to (taken (some x))) _ _ (λ to' out'. put_append out' to' xs ys) ∙ sym (then_then (put_row out to (taken (some x))) _ _)

pub put_one_lem : (out : List ℕ) (to : ℕ) (row : Row) → put_all out to (row ∷ []) ≡ put_row out to (taken (some row))
unfolding put_all put_then
put_one_lem out to row = go (put_row out to (taken (some row)))
  where
    go : (w : Out ℕ (List ℕ)) → put_then w (λ to' out'. to' & out') ≡ w
    go (to' & out') = refl

-- on from what was written
pub put_on : {A : Type 0} (out : List ℕ) (to : ℕ) (xs ys : List Row) (f : ℕ → List ℕ → A) → put_then (put_all out to (xs ++ ys)) f ≡ put_then (put_all out to xs) λ to' out'. put_then (put_all out' to' ys) f
put_on out to xs ys f = rw (put_append out to xs ys) (then_then (put_all out to xs) _ f)

-- rows behind rows: from what the first leave
pub put_then_lem : (out : List ℕ) (to : ℕ) (xs ys : List Row) (to' : ℕ) (out' : List ℕ) → (to' & out') ≡ put_all out to xs → put_all out to (xs ++ ys) ≡ put_all out' to' ys
unfolding put_then
put_then_lem out to xs ys to' out' e = put_append out to xs ys ∙ rw (← e)

-- ---- a copied row

-- what the code holds of a row is that row
pub row_taken : (row : Row) → rule_row (taken (some row)) ≡ some row
unfolding rule_row taken rule_index as_index
row_taken (Field c b z) = refl
row_taken (Decl s n z) = refl
row_taken (Ref s (Num n) p z) = refl
row_taken (Ref s (Id n) p z) = refl
row_taken (Path n) = refl
row_taken (Outer s (Num u) (Num n) z) = refl
row_taken (Outer s (Num u) (Id n) z) = refl
row_taken (Outer s (Id u) (Num n) z) = refl
row_taken (Outer s (Id u) (Id n) z) = refl
row_taken (Case n z) = refl
row_taken (Open k n) = refl
row_taken Close = refl
row_taken (Export n) = refl

pub row_copied : (form : List ℕ) (i : ℕ) (row : Row) (out : List ℕ) (to : ℕ) → Is form i row → copy_row form i out to ≡ put_row out to (taken (some row))
unfolding copy_row put_row row_bytes bytes_of pick
row_copied form i row out to h = rw (row_taken row, ← h.holds, lt-ltb _ _ h.there)

-- ---- the rows of what was inserted

put_two : (out : List ℕ) (to : ℕ) (x y : Row) → put_then (put_row out to (taken (some x))) (λ to' out'. put_row out' to' (taken (some y))) ≡ put_all out to (x ∷ y ∷ [])
unfolding put_all
put_two out to x y = then_same (put_row out to (taken (some x))) _ _ (λ to' out'. sym (put_one_lem out' to' y))

module _ (out : List ℕ) (to : ℕ) (slot : List ℕ) where
  lead : (code space new z : ℕ) → space < 256 → space_of slot ≡ space → name_of slot ≡ new → write_lead_t out to code slot z ≡ put_all out to (Field code 0 z ∷ Decl space new z ∷ [])
  unfolding write_lead_t taken
  lead code space new z l es en =
      let e : space_of slot % 256 ≡ space = omega arith in
      rw (e, en) (put_two out to (Field code 0 z) (Decl space new z))

  pub outer_alias_lem : (space new d n z : ℕ) → space < 256 → space_of slot ≡ space → name_of slot ≡ new → out_of slot ≡ d → there_of slot ≡ n → write_outer_alias_t out to slot z ≡ put_all out to (head_rows (outer_alias space new d n z))
  unfolding write_outer_alias_t head_rows decl_rows operand_rows operand_row export_rows outer_alias taken as_index
  outer_alias_lem space new d n z l es en ed ei =
      let e : space_of slot % 256 ≡ space = omega arith in
      rw (e, ed, ei, lead 11 space new z l es en)
      (then_same (put_all out to (Field 11 0 z ∷ Decl space new z ∷ [])) _ _ (λ to' out'. sym (put_one_lem out' to' (Outer space (Num d) (Num n) z)))
      ∙ sym (put_append out to (Field 11 0 z ∷ Decl space new z ∷ []) (Outer space (Num d) (Num n) z ∷ [])))

  pub export_alias_lem : (code space new n name : ℕ) (c : Chain) → space < 256 → space_of slot ≡ space → name_of slot ≡ new → pick (eqb c.of 6) 10 9 ≡ code → c.instance ≡ n
      → write_export_alias_t out to slot c name ≡ put_all out to (head_rows (export_alias code space new c.of (Num n) name c.z))
  unfolding write_export_alias_t head_rows decl_rows operand_rows operand_row path_rows export_rows export_alias taken as_index
  export_alias_lem code space new n name c l es en ec ei =
      rw (ec, ei, lead code space new c.z l es en)
      (then_same (put_all out to (Field code 0 c.z ∷ Decl space new c.z ∷ [])) _ _ (λ to' out'. put_two out' to' (Ref c.of (Num n) 0 c.z) (Export name))
      ∙ sym (put_append out to (Field code 0 c.z ∷ Decl space new c.z ∷ []) (Ref c.of (Num n) 0 c.z ∷ Export name ∷ [])))
