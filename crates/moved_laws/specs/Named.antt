-- The names of the scopes around a place stand in their OPEN rows: going outward by a name finds the scope that the rules find.
use Rattle.std.specs.Prelude.{◌≡◌, Bool, true, false, Some, None}
use Rattle.std.proofs.Math.Path.{refl, ap, subst}
use Rattle.std.proofs.Common.{sym, ◌∙◌, arith}
use Rattle.std.proofs.Math.Option.{Option, none, some, map}
use mathlib.Core.List.{List, [], ◌∷◌, ◌++◌}
use Prim.Native.Nat.{ℕ, suc, ◌+◌, ◌-◌}
use Rattle.std.proofs.Math.Dec.{eqb}
use Rattle.std.proofs.Math.ListN.{length, get_elem?}
use Rattle.kit.proofs.Laws.{yes!, no! }
use Rattle.rules.specs.Tools.{when◌then◌else◌, ◌then◌}
use Rattle.rules.specs.Rows.{Open, Close, encode}
use Rattle.rules.specs.Tree.{Head, Scope, scope, Fields, Item, plain, holds, head_of, flatten, fields_rows, item_rows, head_rows}
use Rattle.rules.specs.Readings
use Rattle.rules.specs.Readings.{originals, level, fields_of}
use Rattle.rules.specs.Laws.ToolLaws.{then_some}
use Rattle.rules.specs.Laws.Results.{some_same, no_option}
use Rattle.places.specs.PlaceRows.{Placed, originals_from, Floor, floor, inside_of, floors, floors_at}
use Rattle.places.specs.Counting.{originals_from_lem, elem_map}
use Rattle.moving.specs.Moved.{held_scope, names_to, nearest_named}
use Rattle.row_parts.specs.Parts.{x_at}
use Rattle.scopes.specs.declared.Wanted.TheVariants.{Named}
use Rattle.reading_laws.specs.Stand.{At, x_part, behind, behind_length, at_right}
use Rattle.reading_laws.specs.Floors.{Stands, first_row, field_of_lem, held_stands}
use Rattle.reading_laws.specs.Outward.{first_wanted}

abbrev name_of : Scope → ℕ
name_of (scope kind name fs) = name

abbrev pub NamesAre : (form : List ℕ) → List Floor → List ℕ → Type 0
NamesAre form [] [] = Unit {0}
NamesAre form [] (n ∷ ns) = ⊥
NamesAre form (f ∷ fs) [] = ⊥
NamesAre form (f ∷ fs) (n ∷ ns) = (x_at form (f.row - 1) ≡ n) × NamesAre form fs ns

held_scope_lem : (i : Item) (gs : Fields) → Readings.held i ≡ some gs → (h : Head) × (t : Scope) × (i ≡ holds h t) × (gs ≡ fields_of t) × (held_scope i ≡ some t)
unfolding Readings.held held_scope
held_scope_lem (plain h) gs e = no_option gs e
held_scope_lem (holds h t) gs e = (h, t, refl, sym (some_same (fields_of t) gs e), refl)

module _ (form : List ℕ) where
  -- the name of the scope that a field holds
  held_name : (f : Floor) (outer n : ℕ) (x : Placed) (h : Head) (t : Scope) → Stands form f outer → get_elem? (originals_from f.row f.level.fields) n ≡ some x → x.item ≡ holds h t
      → x_at form (inside_of x - 1) ≡ name_of t
  unfolding flatten head_of inside_of encode
  held_name f outer n x h (scope kind name fs) S e q =
      let own : At form x.row (head_rows h ++ (Open kind name ∷ (fields_rows fs ++ (Close ∷ [])))) = subst (λ (i : Item). At form x.row (item_rows i)) q (field_of_lem form f outer n x S e).own in
      let last = behind_length x.row (head_rows h) in
      let heads : length (head_rows (head_of x.item)) ≡ length (head_rows h) = ap (λ (i : Item). length (head_rows (head_of i))) q in
      let row : suc (x.row + length (head_rows (head_of x.item))) - 1 ≡ behind x.row (head_rows h) = omega (arith, last, heads) in
      ap (x_at form) row ∙ ap x_part (at_right form x.row (head_rows h) _ own).0

  record Known (way : List ℕ) (s : Scope) (names : List ℕ) (fs : List Floor) : Type 0 where
    all : List ℕ
    are : names_to way s names ≡ some all
    stand : NamesAre form fs all

  original_item : (f : Floor) (s : Scope) (n : ℕ) (x : Placed) → f.level.fields ≡ fields_of s → get_elem? (originals_from f.row f.level.fields) n ≡ some x → get_elem? (originals (fields_of s)) n ≡ some x.item
  original_item f s n x q e =
      ap (λ (gs : Fields). get_elem? (originals gs) n) (sym q)
      ∙ (ap (λ (l : List Item). get_elem? l n) (sym (originals_from_lem f.row f.level.fields))
      ∙ (elem_map (λ (y : Placed). y.item) (originals_from f.row f.level.fields) n ∙ ap (map (λ (y : Placed). y.item)) e))

  step_in : (n : ℕ) (way : List ℕ) (s t : Scope) (i : Item) (names all : List ℕ) → get_elem? (originals (fields_of s)) n ≡ some i → held_scope i ≡ some t → names_to way t (name_of s ∷ names) ≡ some all
      → names_to (n ∷ way) s names ≡ some all
  unfolding names_to ◌then◌
  step_in n way (scope kind name fs) t i names all e₁ e₂ e₃ = rw (e₁, e₂) e₃

  names_way : (way : List ℕ) (s : Scope) (f : Floor) (outside fs : List Floor) (names : List ℕ) → f.level.fields ≡ fields_of s → Stands form f (first_row outside) → x_at form (f.row - 1) ≡ name_of s → NamesAre form outside names
      → floors way f outside ≡ some fs → Known way s names fs
  unfolding floors names_to
  names_way [] (scope kind name gs) f outside fs names q S here around e =
      record { all = name ∷ names; are = refl; stand = subst (λ (l : List Floor). NamesAre form l (name ∷ names)) (some_same _ fs e) (here, around) }
  names_way (n ∷ way) s f outside fs names q S here around e =
      let s₁ = then_some (get_elem? (originals_from f.row f.level.fields) n) _ fs e in
      let s₂ = then_some (Readings.held s₁.0.item) _ fs s₁.2 in
      let H = held_scope_lem s₁.0.item s₂.0 s₂.1 in
      let K = names_way way H.1 (floor (level (f.level.way ++ (n ∷ [])) s₂.0) (inside_of s₁.0)) (f ∷ outside) fs (name_of s ∷ names) H.3
      (held_stands form f (first_row outside) n s₁.0 s₂.0 (f.level.way ++ (n ∷ [])) S s₁.1 s₂.1) (held_name f (first_row outside) n s₁.0 H.0 H.1 S s₁.1 H.2) (here, around) s₂.2 in
      record { all = K.all; are = step_in n way s H.1 s₁.0.item names K.all (original_item f s n s₁.0 q s₁.1) H.4 K.are; stand = K.stand }

  -- The names of the scopes around a place.
  pub names_at : (s : Scope) (way : List ℕ) (fs : List Floor) → At form 0 (flatten s) → floors_at s way ≡ some fs → Stands form (floor (Readings.root s) 1) 0 → (names : List ℕ) × (names_to way s [] ≡ some names) × NamesAre form fs names
  unfolding floors_at flatten encode
  names_at (scope kind name gs) way fs a e S =
      let K = names_way way (scope kind name gs) (floor (Readings.root (scope kind name gs)) 1) [] fs [] (unfold Readings.root in refl) S (ap x_part a.0) tt e in
      (K.all, K.are, K.stand)

  -- ---- outward by a name

  pub named_found : (fs : List Floor) (names : List ℕ) → NamesAre form fs names → (name out d : ℕ) → nearest_named names name ≡ some d → (f : Floor) × (get_elem? fs d ≡ some f) × (first_wanted form (Named name) out fs ≡ Some (record { scope = f.row; out = out + d }))
  unfolding nearest_named first_wanted when◌then◌else◌
  named_found [] [] N name out d e = no_option d e
  named_found [] (m ∷ ms) N name out d e = absurd N
  named_found (f ∷ fs) [] N name out d e = absurd N
  named_found (f ∷ fs) (m ∷ ms) N name out d e = go (eqb m name) refl d e (λ k q. named_found fs ms N.1 name (out + 1) k q)
    where
      here : eqb (x_at form (f.row - 1)) name ≡ eqb m name
      here = ap (λ (x : ℕ). eqb x name) N.0

      suc_back : (o : Option ℕ) (d : ℕ) → map suc o ≡ some d → (k : ℕ) × (o ≡ some k) × (suc k ≡ d)
      suc_back none d e = no_option d e
      suc_back (some k) d e = (k, refl, some_same (suc k) d e)

      go : (b : Bool) → eqb m name ≡ b → (d : ℕ) → (when b then some 0 else map suc (nearest_named ms name)) ≡ some d
          → ((k : ℕ) → nearest_named ms name ≡ some k → (g : Floor) × (get_elem? fs k ≡ some g) × (first_wanted form (Named name) (out + 1) fs ≡ Some (record { scope = g.row; out = out + 1 + k })))
          → (g : Floor) × (get_elem? (f ∷ fs) d ≡ some g) × (first_wanted form (Named name) out (f ∷ fs) ≡ Some (record { scope = g.row; out = out + d }))
      go true q d e below =
          let first : 0 ≡ d = some_same 0 d e in
          let same : out ≡ out + d = omega (arith, first) in
          (f, ap (get_elem? (f ∷ fs)) (sym first), sym (yes! _ (here ∙ q) refl) ∙ ap (λ (k : ℕ). Some (record { scope = f.row; out = k })) same)
      go false q d e below =
          let B = suc_back (nearest_named ms name) d e in
          let I = below B.0 B.1 in
          let next = B.2 in
          let on : out + 1 + B.0 ≡ out + d = omega (arith, next) in
          (I.0, ap (get_elem? (f ∷ fs)) (sym next) ∙ I.1, sym (no! _ (here ∙ q) refl) ∙ (I.2 ∙ ap (λ (k : ℕ). Some (record { scope = I.0.row; out = k })) on))

  pub named_nowhere : (fs : List Floor) (names : List ℕ) → NamesAre form fs names → (name out : ℕ) → nearest_named names name ≡ none → first_wanted form (Named name) out fs ≡ None
  unfolding nearest_named first_wanted when◌then◌else◌
  named_nowhere [] [] N name out e = refl
  named_nowhere [] (m ∷ ms) N name out e = absurd N
  named_nowhere (f ∷ fs) [] N name out e = absurd N
  named_nowhere (f ∷ fs) (m ∷ ms) N name out e = go (eqb m name) refl e (λ q. named_nowhere fs ms N.1 name (out + 1) q)
    where
      none_back : (o : Option ℕ) → map suc o ≡ none → o ≡ none
      none_back none e = refl
      none_back (some k) e = no_option (suc k) (sym e)

      go : (b : Bool) → eqb m name ≡ b → (when b then some 0 else map suc (nearest_named ms name)) ≡ none → (nearest_named ms name ≡ none → first_wanted form (Named name) (out + 1) fs ≡ None)
          → first_wanted form (Named name) out (f ∷ fs) ≡ None
      go true q e below = no_option 0 (sym e)
      go false q e below = sym (no! _ (ap (λ (x : ℕ). eqb x name) N.0 ∙ q) refl) ∙ below (none_back (nearest_named ms name) e)
