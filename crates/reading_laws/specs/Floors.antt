-- The scopes around a place, each with the row behind its OPEN, are the scopes around its rows.
use Rattle.std.specs.Prelude.{◌≡◌, Bool, true, false}
use Rattle.std.proofs.Math.Path.{refl, ap, sym, subst}
use Rattle.std.proofs.Common.{◌∙◌, arith}
use Rattle.std.proofs.Math.Option.{some}
use mathlib.Core.List.{List, [], ◌∷◌, ◌++◌}
use Prim.Native.Nat.{ℕ, zero, suc, ◌+◌, ◌≤◌}
use Rattle.std.proofs.Math.ListN.{length, length-append, get_elem?}
use Rattle.rules.specs.Tools.{when◌then◌else◌, ◌then◌}
use Rattle.rules.specs.Rows.{Row, Open, Close, encode}
use Rattle.rules.specs.Tree.{Scope, scope, Fields, end, ◌▸◌, Item, plain, holds, head_of, flatten, fields_rows, item_rows, head_rows}
use Rattle.rules.specs.Readings.{is_inserted, level, held, root}
use Rattle.rules.specs.Laws.ToolLaws.{then_some}
use Rattle.rules.specs.Laws.Results.{some_same, no_option}
use Rattle.places.specs.PlaceRows.{Placed, originals_from, Floor, floor, inside_of, floors, floors_at}
use Rattle.row_parts.specs.Parts.{code_at, rows_in}
use Rattle.scopes.specs.Scopes.{scope_above, scope_of}
use Rattle.reading_laws.specs.Stand.{At, code_part, behind, behind_length, behind_append, at_left, at_right, at_both}
use Rattle.reading_laws.specs.Even.{Even, nothing, even_append, head_even, item_even, up_even, up_open}

-- ---- an original field among the rows of its scope's fields

pub record FieldAt (form : List ℕ) (row rows : ℕ) (x : Placed) : Type 0 where
  pub before : List Row
  pub are_even : Even before
  pub stand : At form row before
  pub is_at : x.row ≡ behind row before
  pub own : At form x.row (item_rows x.item)
  pub fits : x.row + length (item_rows x.item) ≤ row + rows

module _ (form : List ℕ) where
  further : (row : ℕ) (i : Item) (fs : Fields) (x : Placed) → At form row (item_rows i ++ fields_rows fs) → FieldAt form (row + length (item_rows i)) (length (fields_rows fs)) x
      → FieldAt form row (length (item_rows i ++ fields_rows fs)) x
  further row i fs x a F =
      let last = behind_length row (item_rows i) in
      let item = at_left form row (item_rows i) (fields_rows fs) a in
      let n = length-append (item_rows i) (fields_rows fs) in
      let f = F.fits in
      record {
        before = item_rows i ++ F.before;
        are_even = even_append (item_even i) F.are_even;
        stand = at_both form row (item_rows i) F.before item (subst (λ (r : ℕ). At form r F.before) (sym last) F.stand);
        is_at = F.is_at ∙ (ap (λ (r : ℕ). behind r F.before) (sym last) ∙ sym (behind_append row (item_rows i) F.before));
        own = F.own;
        fits = omega (arith, n, f);
      }

  pub field_at : (row : ℕ) (fs : Fields) (n : ℕ) (x : Placed) → At form row (fields_rows fs) → get_elem? (originals_from row fs) n ≡ some x → FieldAt form row (length (fields_rows fs)) x
  unfolding originals_from when◌then◌else◌ flatten
  field_at row end n x a e = no_option x e
  field_at row (i ▸ fs) n x a e =
      let rest : At form (row + length (item_rows i)) (fields_rows fs) = subst (λ (r : ℕ). At form r (fields_rows fs)) (behind_length row (item_rows i)) (at_right form row (item_rows i) (fields_rows fs) a) in
      go (is_inserted (head_of i)) n e (λ m q. further row i fs x a (field_at (row + length (item_rows i)) fs m x rest q))
    where
      later : List Placed
      later = originals_from (row + length (item_rows i)) fs

      go : (b : Bool) (n : ℕ) → get_elem? (when b then later else record { row = row; item = i } ∷ later) n ≡ some x
          → ((m : ℕ) → get_elem? later m ≡ some x → FieldAt form row (length (item_rows i ++ fields_rows fs)) x) → FieldAt form row (length (item_rows i ++ fields_rows fs)) x
      go true n e below = below n e
      go false zero e below =
          let size = length-append (item_rows i) (fields_rows fs) in
          subst (FieldAt form row (length (item_rows i ++ fields_rows fs))) (some_same _ x e)
          (record { before = []; are_even = nothing; stand = tt; is_at = refl; own = at_left form row (item_rows i) (fields_rows fs) a; fits = omega (arith, size) })
      go false (suc n) e below = below n e

-- ---- floors

abbrev pub first_row : List Floor → ℕ
first_row [] = 0
first_row (f ∷ fs) = f.row

-- its OPEN, its fields and its CLOSE stand there, and the scope around its OPEN begins at `outer`
pub record Stands (form : List ℕ) (f : Floor) (outer : ℕ) : Type 0 where
  pub open_row : ℕ
  pub behind_open : f.row ≡ open_row + 1
  pub opens : code_at form open_row ≡ 7
  pub fields : At form f.row (fields_rows f.level.fields ++ (Close ∷ []))
  pub fits : f.row + length (fields_rows f.level.fields) + 1 ≤ rows_in form
  pub around : scope_of form open_row ≡ outer

abbrev pub Chain : (form : List ℕ) → List Floor → Type 0
Chain form [] = Unit {0}
Chain form (f ∷ fs) = Stands form f (first_row fs) × Chain form fs

module _ (form : List ℕ) where
  -- the scope of what stands behind even rows in the scope itself
  pub scope_behind : (f : Floor) (outer : ℕ) → Stands form f outer → (rs : List Row) → Even rs → At form f.row rs → scope_of form (behind f.row rs) ≡ f.row
  unfolding scope_of
  scope_behind f outer S rs e a =
      up_even form e f.row 0 a ∙ (ap (λ (r : ℕ). scope_above form r 0) S.behind_open ∙ (up_open form S.open_row S.opens ∙ sym S.behind_open))

  -- a field of it
  pub field_of_lem : (f : Floor) (outer n : ℕ) (x : Placed) → Stands form f outer → get_elem? (originals_from f.row f.level.fields) n ≡ some x
      → FieldAt form f.row (length (fields_rows f.level.fields)) x
  field_of_lem f outer n x S e = field_at form f.row f.level.fields n x (at_left form f.row (fields_rows f.level.fields) (Close ∷ []) S.fields) e

  -- and what stands behind even rows of that field
  pub scope_in : (f : Floor) (outer n : ℕ) (x : Placed) → Stands form f outer → get_elem? (originals_from f.row f.level.fields) n ≡ some x
      → (rs : List Row) → Even rs → At form x.row rs → scope_of form (behind x.row rs) ≡ f.row
  unfolding scope_of
  scope_in f outer n x S e rs v a =
      let F = field_of_lem f outer n x S e in
      up_even form v x.row 0 a ∙ (ap (λ (r : ℕ). scope_above form r 0) F.is_at ∙ scope_behind f outer S F.before F.are_even F.stand)

  pub held_stands : (f : Floor) (outer n : ℕ) (x : Placed) (gs : Fields) (way : List ℕ) → Stands form f outer → get_elem? (originals_from f.row f.level.fields) n ≡ some x → held x.item ≡ some gs
      → Stands form (floor (level way gs) (inside_of x)) f.row
  unfolding flatten head_of held inside_of encode
  held_stands f outer n x gs way S e h = go x.item refl h
    where
      go : (i : Item) → x.item ≡ i → held i ≡ some gs → Stands form (floor (level way gs) (suc (x.row + length (head_rows (head_of x.item))))) f.row
      go (plain k) q h = no_option gs h
      go (holds k (scope kind name fs)) q h =
          let F = field_of_lem f outer n x S e in
          let own : At form x.row (head_rows k ++ (Open kind name ∷ (fields_rows fs ++ (Close ∷ [])))) = subst (λ (i : Item). At form x.row (item_rows i)) q F.own in
          let same : fs ≡ gs = some_same fs gs h in
          let head = at_left form x.row (head_rows k) _ own in
          let inner = at_right form x.row (head_rows k) _ own in
          let last = behind_length x.row (head_rows k) in
          let heads : length (head_rows (head_of x.item)) ≡ length (head_rows k) = ap (λ (i : Item). length (head_rows (head_of i))) q in
          let row : suc (x.row + length (head_rows (head_of x.item))) ≡ behind x.row (head_rows k) + 1 = omega (arith, last, heads) in
          let size : length (item_rows x.item) ≡ length (head_rows k ++ (Open kind name ∷ (fields_rows fs ++ (Close ∷ [])))) = ap (λ (i : Item). length (item_rows i)) q in
          let n₁ = length-append (head_rows k) (Open kind name ∷ (fields_rows fs ++ (Close ∷ []))) in
          let n₂ = length-append (fields_rows fs) (Close ∷ []) in
          let n₃ = ap (λ (l : Fields). length (fields_rows l)) same in
          let fit = F.fits in
          let fits = S.fits in
          record {
            open_row = behind x.row (head_rows k);
            behind_open = row;
            opens = ap code_part inner.0;
            fields = subst (λ (r : ℕ). At form r (fields_rows gs ++ (Close ∷ []))) (sym row) (subst (λ (l : Fields). At form (behind x.row (head_rows k) + 1) (fields_rows l ++ (Close ∷ []))) same inner.1);
            fits = omega (arith, size, n₁, n₂, n₃, fit, fits, heads);
            around = scope_in f outer n x S e (head_rows k) (head_even k) head;
          }

  chain : (way : List ℕ) (f : Floor) (outside fs : List Floor) → floors way f outside ≡ some fs → Stands form f (first_row outside) → Chain form outside → Chain form fs
  unfolding floors
  chain [] f outside fs e S C = subst (Chain form) (some_same _ fs e) (S, C)
  chain (n ∷ way) f outside fs e S C =
      let s₁ = then_some (get_elem? (originals_from f.row f.level.fields) n) _ fs e in
      let s₂ = then_some (held s₁.0.item) _ fs s₁.2 in
      chain way _ (f ∷ outside) fs s₂.2 (held_stands f (first_row outside) n s₁.0 s₂.0 _ S s₁.1 s₂.1) (S, C)

  root_stands : (s : Scope) → At form 0 (flatten s) → length (flatten s) ≤ rows_in form → Stands form (floor (root s) 1) 0
  unfolding flatten root scope_of scope_above encode
  root_stands (scope kind name fs) a fits =
      let n = length-append (fields_rows fs) (Close ∷ []) in
      record { open_row = 0; behind_open = refl; opens = ap code_part a.0; fields = a.1; fits = omega (arith, n, fits); around = refl }

  -- The scopes around a place of a tree whose rows stand in the form.
  pub floors_chain : (s : Scope) (way : List ℕ) (fs : List Floor) → At form 0 (flatten s) → length (flatten s) ≤ rows_in form → floors_at s way ≡ some fs → Chain form fs
  unfolding floors_at
  floors_chain s way fs a fits e = chain way _ [] fs e (root_stands s a fits) tt
