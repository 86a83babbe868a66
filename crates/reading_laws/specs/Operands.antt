-- The operand at a place and its row: what stands there, the field to which it belongs, the scopes around it.
use Rattle.std.specs.Prelude.{◌≡◌, false, take}
use Rattle.std.proofs.Math.Path.{refl, ap, sym, subst}
use Rattle.std.proofs.Common.{◌∙◌, arith, add-one}
use Rattle.std.proofs.Math.Option.{some, map}
use mathlib.Core.List.{List, [], ◌∷◌, ◌++◌, append_assoc}
use Prim.Native.Nat.{ℕ, zero, suc, ◌+◌, ◌≤◌}
use Rattle.std.proofs.Math.Dec.{eqb}
use Rattle.std.proofs.Math.ListN.{length, length-append, get_elem?}
use Rattle.kit.proofs.Laws.{yes!, no! }
use Rattle.rules.specs.Tools.{◌then◌}
use Rattle.rules.specs.Rows.{Row, Field, encode}
use Rattle.rules.specs.Tree.{Declaration, Operand, ref, outer, case, Head, Scope, Item, head_of, flatten, head_rows, decl_rows, path_rows, operand_row, operand_rows, export_rows}
use Rattle.rules.specs.Readings
use Rattle.rules.specs.Readings.{originals, Place, use_in, use_inside, use_at}
use Rattle.rules.specs.Laws.ToolLaws.{then_some, All, done, ◌&◌, all_append}
use Rattle.rules.specs.Laws.Results.{some_same, no_option}
use Rattle.places.specs.PlaceRows.{Placed, originals_from, Floor, floors_at, field_in, field_at, operand_at, row_of_operand, operand_row_at}
use Rattle.places.proofs.LocatedAt.{field_is}
use Rattle.places.specs.Counting.{levels, originals_from_lem, elem_map, floors_at_lem}
use Rattle.places.proofs.RowAt.{decls_length, operand_row_of}
use Rattle.row_parts.specs.Parts.{code_at, b_at, rows_in, field_of}
use Rattle.scopes.specs.Scopes.{scope_of}
use Rattle.reading_laws.specs.Stand.{Is, At, code_part, b_part, behind, behind_length, at_left, at_right, at_both}
use Rattle.reading_laws.specs.Even.{code_of, Even, flat, even_append, decls_even, operands_even}
use Rattle.reading_laws.specs.Floors.{Chain, first_row, field_of_lem, scope_in, floors_chain}
use Rattle.reading_laws.specs.Spots.{own_rows_lem}

-- ---- the rows of a field up to an operand

-- the first row of an operand's
operand_first : (o : Operand) → (more : List Row) × (operand_row o ≡ operand_row_of o ∷ more)
unfolding operand_row
operand_first (ref space at paths z) = (path_rows paths, refl)
operand_first (outer space up at z) = ([], refl)
operand_first (case name z) = ([], refl)

operands_split : (os : List Operand) (n : ℕ) (o : Operand) → get_elem? os n ≡ some o → (more : List Row) × (operand_rows os ≡ operand_rows (take n os) ++ (operand_row_of o ∷ more))
unfolding operand_rows
operands_split [] n o e = no_option o e
operands_split (x ∷ os) zero o e =
    let F = operand_first x in
    (F.0 ++ operand_rows os, ap (λ (l : List Row). l ++ operand_rows os) F.1 ∙ ap (λ (y : Operand). operand_row_of y ∷ (F.0 ++ operand_rows os)) (some_same x o e))
operands_split (x ∷ os) (suc n) o e =
    let I = operands_split os n o e in
    (I.0, ap (λ (l : List Row). operand_row x ++ l) I.1 ∙ sym (append_assoc (operand_row x) (operand_rows (take n os)) (operand_row_of o ∷ I.0)))

-- behind the FIELD
abbrev rows_to : Head → (n : ℕ) → List Row
rows_to h n = decl_rows h.decls ++ operand_rows (take n h.operands)

head_split : (h : Head) (n : ℕ) (o : Operand) → get_elem? h.operands n ≡ some o
    → (more : List Row) × (head_rows h ≡ Field h.code h.builtin h.z ∷ (rows_to h n ++ (operand_row_of o ∷ more)))
unfolding head_rows
head_split h n o e =
    let I = operands_split h.operands n o e in
    let first = Field h.code h.builtin h.z in
    let ds = decl_rows h.decls in
    let os = operand_rows (take n h.operands) in
    let export = export_rows h.export in (
      I.0 ++ export,
      ap (λ (l : List Row). first ∷ (ds ++ (l ++ export))) I.1
          ∙ (ap (λ (l : List Row). first ∷ (ds ++ l)) (append_assoc os (operand_row_of o ∷ I.0) export)
          ∙ ap (λ (l : List Row). first ∷ l) (sym (append_assoc ds os (operand_row_of o ∷ (I.0 ++ export))))),
    )

rows_even : (h : Head) (n : ℕ) → Even (Field h.code h.builtin h.z ∷ rows_to h n)
unfolding encode
rows_even h n = flat (record { not_open_lem = refl; not_close = refl }) (even_append (decls_even h.decls) (operands_even (take n h.operands)))

-- ---- the FIELD of a row

abbrev NotField : Row → Type 0
NotField r = eqb (code_of r) 1 ≡ false

decls_not : (ds : List Declaration) → All NotField (decl_rows ds)
unfolding decl_rows encode
decls_not [] = done
decls_not (d ∷ ds) = refl & decls_not ds

paths_not : (ps : List ℕ) → All NotField (path_rows ps)
unfolding path_rows encode
paths_not [] = done
paths_not (p ∷ ps) = refl & paths_not ps

first_not : (o : Operand) → NotField (operand_row_of o)
unfolding encode
first_not (ref space at paths z) = refl
first_not (outer space up at z) = refl
first_not (case name z) = refl

operand_not : (o : Operand) → All NotField (operand_row o)
unfolding operand_row encode
operand_not (ref space at paths z) = refl & paths_not paths
operand_not (outer space up at z) = refl & done
operand_not (case name z) = refl & done

operands_not : (os : List Operand) → All NotField (operand_rows os)
unfolding operand_rows
operands_not [] = done
operands_not (o ∷ os) = all_append _ _ (operand_not o) (operands_not os)

module _ (form : List ℕ) where
  field_above : (row : ℕ) → eqb (code_at form (suc row)) 1 ≡ false → field_of form (suc row) ≡ field_of form row
  unfolding field_of
  field_above row e = sym (no! _ e refl)

  pub field_step : (row : ℕ) → eqb (code_at form (row + 1)) 1 ≡ false → field_of form (row + 1) ≡ field_of form row
  field_step row e = subst (λ (r : ℕ). eqb (code_at form r) 1 ≡ false → field_of form r ≡ field_of form row) (sym (add-one row)) (field_above row) e

  field_up : (rs : List Row) → All NotField rs → (row : ℕ) → At form (row + 1) rs → field_of form (behind row rs) ≡ field_of form row
  field_up [] ns row a = refl
  field_up (r ∷ rs) (n & ns) row a =
      let code : code_at form (row + 1) ≡ code_of r = ap code_part a.0 in
      field_up rs ns (row + 1) a.1 ∙ field_step row (ap (λ (c : ℕ). eqb c 1) code ∙ n)

  pub field_self : (row : ℕ) → code_at form row ≡ 1 → field_of form row ≡ row
  unfolding field_of
  field_self zero e = refl
  field_self (suc row) e = sym (yes! _ (ap (λ (c : ℕ). eqb c 1) e) refl)

-- ---- the operand at a place

pub record Used (form : List ℕ) (s : Scope) (p : Place) (r : ℕ) : Type 0 where
  pub f : Floor
  pub rest : List Floor
  pub are : floors_at s p.way ≡ some (f ∷ rest)
  pub chain : Chain form (f ∷ rest)
  pub x : Placed
  pub field_there : get_elem? (originals_from f.row f.level.fields) p.field ≡ some x
  pub operand : Operand
  pub operand_there : get_elem? (head_of x.item).operands p.at ≡ some operand
  pub used_as : use_at s p ≡ some (record { levels = levels (f ∷ rest); head = head_of x.item; operand = operand })
  pub is : Is form r (operand_row_of operand)
  pub around : scope_of form r ≡ f.row
  pub of_field : b_at form (field_of form r) ≡ (head_of x.item).code

module _ (form : List ℕ) (s : Scope) (p : Place) where
  pub use_is : (f : Floor) (rest : List Floor) (x : Placed) (o : Operand) → floors_at s p.way ≡ some (f ∷ rest) → get_elem? (originals_from f.row f.level.fields) p.field ≡ some x
      → get_elem? (head_of x.item).operands p.at ≡ some o → use_at s p ≡ some (record { levels = levels (f ∷ rest); head = head_of x.item; operand = o })
  unfolding use_inside use_in ◌then◌ Readings.root
  use_is f rest x o e₁ e₂ e₃ =
      let around : Readings.around p.way (Readings.root s) [] ≡ some (levels (f ∷ rest)) = sym (floors_at_lem s p.way) ∙ ap (map levels) e₁ in
      let item : get_elem? (originals f.level.fields) p.field ≡ some x.item =
      ap (λ (l : List Item). get_elem? l p.field) (sym (originals_from_lem f.row f.level.fields))
      ∙ (elem_map (λ (y : Placed). y.item) (originals_from f.row f.level.fields) p.field ∙ ap (map (λ (y : Placed). y.item)) e₂) in
      rw (around, item, e₃)

  used_in : (f : Floor) (rest : List Floor) (x : Placed) (o : Operand) (r : ℕ) → floors_at s p.way ≡ some (f ∷ rest) → Chain form (f ∷ rest)
      → get_elem? (originals_from f.row f.level.fields) p.field ≡ some x → get_elem? (head_of x.item).operands p.at ≡ some o
      → suc (x.row + (length (head_of x.item).decls + length (operand_rows (take p.at (head_of x.item).operands)))) ≡ r → Used form s p r
  unfolding encode
  used_in f rest x o r e₁ C e₂ e₃ q =
      let h = head_of x.item in
      let first = Field h.code h.builtin h.z in
      let rs = rows_to h p.at in
      let own = own_rows_lem form x.row x.item (field_of_lem form f (first_row rest) p.field x C.0 e₂).own in
      let H = head_split h p.at o e₃ in
      let all : At form x.row (first ∷ (rs ++ (operand_row_of o ∷ H.0))) = subst (At form x.row) H.1 own in
      let before = at_left form (x.row + 1) rs (operand_row_of o ∷ H.0) all.1 in
      let here = at_right form (x.row + 1) rs (operand_row_of o ∷ H.0) all.1 in
      let n₁ = behind_length (x.row + 1) rs in
      let n₂ = length-append (decl_rows h.decls) (operand_rows (take p.at h.operands)) in
      let n₃ = decls_length h.decls in
      let n₄ = behind_length x.row (rs ++ (operand_row_of o ∷ [])) in
      let n₅ = length-append rs (operand_row_of o ∷ []) in
      let row : behind (x.row + 1) rs ≡ r = omega (arith, n₁, n₂, n₃, q) in
      let last : behind x.row (rs ++ (operand_row_of o ∷ [])) ≡ r = omega (arith, n₁, n₄, n₅, row) in
      let to-it : At form (x.row + 1) (rs ++ (operand_row_of o ∷ [])) = at_both form (x.row + 1) rs (operand_row_of o ∷ []) before (here.0, tt) in
      let not-fields = all_append rs (operand_row_of o ∷ []) (all_append _ _ (decls_not h.decls) (operands_not (take p.at h.operands))) (first_not o & done) in
      let field : field_of form r ≡ x.row = ap (field_of form) (sym last) ∙ (field_up form (rs ++ (operand_row_of o ∷ [])) not-fields x.row to-it ∙ field_self form x.row (ap code_part all.0)) in
      record {
        f = f;
        rest = rest;
        are = e₁;
        chain = C;
        x = x;
        field_there = e₂;
        operand = o;
        operand_there = e₃;
        used_as = use_is f rest x o e₁ e₂ e₃;
        is = subst (λ (n : ℕ). Is form n (operand_row_of o)) row here.0;
        around = ap (scope_of form) (sym row) ∙ scope_in form f (first_row rest) p.field x C.0 e₂ (first ∷ rs) (rows_even h p.at) (all.0, before);
        of_field = ap (b_at form) field ∙ ap b_part all.0;
      }

  -- The operand at a place of a tree whose rows stand in the form.
  pub used : (r : ℕ) → At form 0 (flatten s) → length (flatten s) ≤ rows_in form → row_of_operand s p ≡ some r → Used form s p r
  unfolding row_of_operand field_at field_in operand_row_at
  used r a fits e =
      let s₁ = then_some (field_at s p) _ r e in
      let s₂ = then_some (get_elem? (head_of s₁.0.item).operands p.at) _ r s₁.2 in
      let s₃ = then_some (floors_at s p.way) _ s₁.0 s₁.1 in
      go s₃.0 s₃.1 s₃.2 s₂.1 (some_same _ r s₂.2)
    where
      go : (fs : List Floor) → floors_at s p.way ≡ some fs → {x : Placed} → field_in fs p.field ≡ some x → {o : Operand} → get_elem? (head_of x.item).operands p.at ≡ some o
          → suc (x.row + (length (head_of x.item).decls + length (operand_rows (take p.at (head_of x.item).operands)))) ≡ r → Used form s p r
      go [] q {x} e₂ {o} e₃ e₄ = no_option x e₂
      go (f ∷ rest) q {x} e₂ {o} e₃ e₄ = used_in f rest x o r q (floors_chain form s p.way (f ∷ rest) a fits q) e₂ e₃ e₄

  pub operand_is_at : (r : ℕ) (U : Used form s p r) → operand_at s p ≡ some U.operand
  unfolding operand_at ◌then◌
  operand_is_at r U = rw (field_is s p U.f U.rest U.x U.are U.field_there) U.operand_there

  -- and no other
  pub operand_used : (r : ℕ) (U : Used form s p r) (o : Operand) → operand_at s p ≡ some o → U.operand ≡ o
  operand_used r U o e = some_same U.operand o (sym (operand_is_at r U) ∙ e)
