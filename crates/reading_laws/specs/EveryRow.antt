-- Every REF of a tree with an input's names is the row of an operand at a place.
use Rattle.std.specs.Prelude.{◌≡◌, refl, false, ◌⊎◌, List, [], ◌∷◌, ◌++◌, ℕ, zero, suc, ◌+◌, length, take}
use Rattle.std.proofs.Common.{ap, sym, ◌∙◌, subst, inl, inr, arith, length-append}
use Rattle.std.proofs.Math.Option.{Option, none, some}
use Rattle.std.proofs.Math.ListN.{get_elem?}
use Rattle.rules.specs.Tools.{when◌then◌else◌, ◌then◌}
use Rattle.rules.specs.Rows.{Row, Field, Open, Close, encode}
use Rattle.rules.specs.Tree.{Declaration, Operand, ref, outer, case, Head, Scope, scope, Fields, end, ◌▸◌, Item, plain, holds, head_of, flatten, fields_rows, item_rows, head_rows, decl_rows, path_rows, operand_row, operand_rows, export_rows}
use Rattle.rules.specs.Readings.{is_inserted, Place, level, held, root}
use Rattle.rules.specs.Laws.ToolLaws.{All, done, ◌&◌}
use Rattle.rules.specs.Laws.Results.{some_same, no_option}
use Rattle.rules.specs.Laws.Meaning.Names.{LowScope, LowFields, LowItem}
use Rattle.rules.proofs.Laws.Meaning.Lookups.{low_original}
use Rattle.places.specs.PlaceRows.{Placed, originals_from, Floor, floor, inside_of, floors, floors_at, field_in, field_at, row_of_operand, operand_row_at}
use Rattle.places.proofs.RowAt.{decls_length, all_at}
use Rattle.reading_laws.specs.Even.{code_of}

-- ---- rows of a field

abbrev pub NotRef : Row → Type 0
NotRef r = code_of r ≡ 3 → ⊥

pub decls_not : (ds : List Declaration) → All NotRef (decl_rows ds)
unfolding decl_rows encode
decls_not [] = done
decls_not (d ∷ ds) = two & decls_not ds
  where
    two : ◌≡◌ {A = ℕ} 2 3 → ⊥
    two e = omega arith

pub paths_not : (ps : List ℕ) → All NotRef (path_rows ps)
unfolding path_rows encode
paths_not [] = done
paths_not (p ∷ ps) = four & paths_not ps
  where
    four : ◌≡◌ {A = ℕ} 4 3 → ⊥
    four e = omega arith

pub export_not : (o : Option ℕ) → All NotRef (export_rows o)
unfolding export_rows encode
export_not none = done
export_not (some n) = nine & done
  where
    nine : ◌≡◌ {A = ℕ} 9 3 → ⊥
    nine e = omega arith

elem_split : {A : Type 0} (xs ys : List A) (k : ℕ) (a : A) → get_elem? (xs ++ ys) k ≡ some a → (get_elem? xs k ≡ some a) ⊎ ((j : ℕ) × (k ≡ length xs + j) × (get_elem? ys j ≡ some a))
elem_split [] ys k a e = let same : k ≡ 0 + k = omega arith in inr (k, same, e)
elem_split (x ∷ xs) ys zero a e = inl e
elem_split {A} (x ∷ xs) ys (suc k) a e = go (elem_split xs ys k a e)
  where
    go : (get_elem? xs k ≡ some a) ⊎ ((j : ℕ) × (k ≡ length xs + j) × (get_elem? ys j ≡ some a)) → (get_elem? xs k ≡ some a) ⊎ ((j : ℕ) × (suc k ≡ suc (length xs) + j) × (get_elem? ys j ≡ some a))
    go (inl q) = inl q
    go (inr (j, q, t)) = let on : suc k ≡ suc (length xs) + j = omega (arith, q) in inr (j, on, t)

-- its operand, by the row behind the field's DECLs
record OperandAt (os : List Operand) (k : ℕ) : Type 0 where
  n : ℕ
  o : Operand
  there : get_elem? os n ≡ some o
  is_at : k ≡ length (operand_rows (take n os))

first_ref : (o : Operand) (k : ℕ) (r : Row) → get_elem? (operand_row o) k ≡ some r → code_of r ≡ 3 → k ≡ 0
unfolding operand_row
first_ref o zero r e c = refl
first_ref (ref space at paths z) (suc k) r e c = absurd (all_at (path_rows paths) k r (paths_not paths) e c)
first_ref (outer space up at z) (suc k) r e c = no_option r e
first_ref (case name z) (suc k) r e c = no_option r e

operand_of : (os : List Operand) (k : ℕ) (r : Row) → get_elem? (operand_rows os) k ≡ some r → code_of r ≡ 3 → OperandAt os k
unfolding operand_rows
operand_of [] k r e c = no_option r e
operand_of (o ∷ os) k r e c = go (elem_split (operand_row o) (operand_rows os) k r e) (λ j q. operand_of os j r q c)
  where
    go : (get_elem? (operand_row o) k ≡ some r) ⊎ ((j : ℕ) × (k ≡ length (operand_row o) + j) × (get_elem? (operand_rows os) j ≡ some r))
        → ((j : ℕ) → get_elem? (operand_rows os) j ≡ some r → OperandAt os j) → OperandAt (o ∷ os) k
    go (inl q) below = record { n = 0; o = o; there = refl; is_at = first_ref o k r q c }
    go (inr (j, q, t)) below =
        let I = below j t in
        let size = length-append (operand_row o) (operand_rows (take I.n os)) in
        let is_at = I.is_at in
        record { n = suc I.n; o = I.o; there = I.there; is_at = omega (arith, q, size, is_at) }

record InHead (h : Head) (k : ℕ) : Type 0 where
  n : ℕ
  o : Operand
  there : get_elem? h.operands n ≡ some o
  is_at : k ≡ suc (length h.decls + length (operand_rows (take n h.operands)))

in_head : (h : Head) (k : ℕ) (r : Row) → get_elem? (head_rows h) k ≡ some r → code_of r ≡ 3 → InHead h k
unfolding head_rows encode
in_head h zero r e c =
    let field : code_of r ≡ 1 = sym (ap code_of (some_same (Field h.code h.builtin h.z) r e)) in
    absurd (omega (arith, field, c))
in_head h (suc k) r e c = go (elem_split (decl_rows h.decls) (operand_rows h.operands ++ export_rows h.export) k r e)
  where
    operands : (i : ℕ) → k ≡ length (decl_rows h.decls) + i
        → (get_elem? (operand_rows h.operands) i ≡ some r) ⊎ ((j : ℕ) × (i ≡ length (operand_rows h.operands) + j) × (get_elem? (export_rows h.export) j ≡ some r)) → InHead h (suc k)
    operands i q (inl t) =
        let O = operand_of h.operands i r t c in
        let n = decls_length h.decls in
        let is_at = O.is_at in
        record { n = O.n; o = O.o; there = O.there; is_at = omega (arith, q, n, is_at) }
    operands i q (inr (j, p, t)) = absurd (all_at (export_rows h.export) j r (export_not h.export) t c)

    go : (get_elem? (decl_rows h.decls) k ≡ some r) ⊎ ((i : ℕ) × (k ≡ length (decl_rows h.decls) + i) × (get_elem? (operand_rows h.operands ++ export_rows h.export) i ≡ some r)) → InHead h (suc k)
    go (inl t) = absurd (all_at (decl_rows h.decls) k r (decls_not h.decls) t c)
    go (inr (i, q, t)) = operands i q (elem_split (operand_rows h.operands) (export_rows h.export) i r t)

-- ---- rows of a scope's fields

-- the row `k` behind `row`, where the first of these fields is, is that of an operand
pub data Somewhere : (row : ℕ) → Fields → (k : ℕ) → Type 0 where
  here : {row : ℕ} {fs : Fields} {k : ℕ} (m : ℕ) (x : Placed) (at : ℕ) (o : Operand) → get_elem? (originals_from row fs) m ≡ some x → get_elem? (head_of x.item).operands at ≡ some o → operand_row_at x at ≡ row + k → Somewhere row fs k
  inside : {row : ℕ} {fs : Fields} {k : ℕ} (m : ℕ) (x : Placed) (gs : Fields) (j : ℕ) → get_elem? (originals_from row fs) m ≡ some x → held x.item ≡ some gs → inside_of x + j ≡ row + k → Somewhere (inside_of x) gs j → Somewhere row fs k

first_there : (row : ℕ) (i : Item) (fs : Fields) → is_inserted (head_of i) ≡ false → get_elem? (originals_from row (i ▸ fs)) 0 ≡ some (record { row = row; item = i })
unfolding originals_from when◌then◌else◌
first_there row i fs e = rw e

next_there : (row : ℕ) (i : Item) (fs : Fields) (m : ℕ) → is_inserted (head_of i) ≡ false → get_elem? (originals_from row (i ▸ fs)) (suc m) ≡ get_elem? (originals_from (row + length (item_rows i)) fs) m
unfolding originals_from when◌then◌else◌
next_there row i fs m e = rw e

later : (row : ℕ) (i : Item) (fs : Fields) (k j : ℕ) → is_inserted (head_of i) ≡ false → k ≡ length (item_rows i) + j → Somewhere (row + length (item_rows i)) fs j → Somewhere row (i ▸ fs) k
later row i fs k j old q (here m x at o e₁ e₂ e₃) = let e : operand_row_at x at ≡ row + k = omega (arith, e₃, q) in here (suc m) x at o (next_there row i fs m old ∙ e₁) e₂ e
later row i fs k j old q (inside m x gs n e₁ e₂ e₃ s) = let e : inside_of x + n ≡ row + k = omega (arith, e₃, q) in inside (suc m) x gs n (next_there row i fs m old ∙ e₁) e₂ e s

in_own : (row : ℕ) (i : Item) (fs : Fields) (k : ℕ) (r : Row) → is_inserted (head_of i) ≡ false → get_elem? (head_rows (head_of i)) k ≡ some r → code_of r ≡ 3 → Somewhere row (i ▸ fs) k
unfolding operand_row_at
in_own row i fs k r old e c =
    let I = in_head (head_of i) k r e c in
    let is_at = I.is_at in
    let q : suc (row + (length (head_of i).decls + length (operand_rows (take I.n (head_of i).operands)))) ≡ row + k = omega (arith, is_at) in
    here 0 (record { row = row; item = i }) I.n I.o (first_there row i fs old) I.there q

in_held : (row : ℕ) (h : Head) (kind name : ℕ) (gs fs : Fields) (k j : ℕ) → is_inserted h ≡ false → k ≡ length (head_rows h) + suc j → Somewhere (suc (row + length (head_rows h))) gs j → Somewhere row (holds h (scope kind name gs) ▸ fs) k
unfolding inside_of head_of held
in_held row h kind name gs fs k j old q s =
    let e : suc (row + length (head_rows h)) + j ≡ row + k = omega (arith, q) in
    inside 0 (record { row = row; item = holds h (scope kind name gs) }) gs j (first_there row (holds h (scope kind name gs)) fs old) refl e s

in_open : (row : ℕ) (h : Head) (kind name : ℕ) (gs fs : Fields) (k j : ℕ) (r : Row) → is_inserted h ≡ false → code_of r ≡ 3 → k ≡ length (head_rows h) + j
    → get_elem? (Open kind name ∷ (fields_rows gs ++ (Close ∷ []))) j ≡ some r
    → ((n : ℕ) → get_elem? (fields_rows gs) n ≡ some r → Somewhere (suc (row + length (head_rows h))) gs n) → Somewhere row (holds h (scope kind name gs) ▸ fs) k
unfolding encode
in_open row h kind name gs fs k zero r old c q e below =
    let opens : code_of r ≡ 7 = sym (ap code_of (some_same (Open kind name) r e)) in
    absurd (omega (arith, opens, c))
in_open row h kind name gs fs k (suc j) r old c q e below = go (elem_split (fields_rows gs) (Close ∷ []) j r e)
  where
    closes : (n : ℕ) → get_elem? (Close ∷ []) n ≡ some r → ⊥
    closes zero e = let close : code_of r ≡ 8 = sym (ap code_of (some_same Close r e)) in omega (arith, close, c)
    closes (suc n) e = no_option r e

    go : (get_elem? (fields_rows gs) j ≡ some r) ⊎ ((n : ℕ) × (j ≡ length (fields_rows gs) + n) × (get_elem? (Close ∷ []) n ≡ some r)) → Somewhere row (holds h (scope kind name gs) ▸ fs) k
    go (inl t) = in_held row h kind name gs fs k j old q (below j t)
    go (inr (n, p, t)) = absurd (closes n t)

either : {X : Type 0} (xs ys : List Row) (k : ℕ) (r : Row) → get_elem? (xs ++ ys) k ≡ some r → (get_elem? xs k ≡ some r → X) → ((j : ℕ) → k ≡ length xs + j → get_elem? ys j ≡ some r → X) → X
either {X} xs ys k r e f g = go (elem_split xs ys k r e)
  where
    go : (get_elem? xs k ≡ some r) ⊎ ((j : ℕ) × (k ≡ length xs + j) × (get_elem? ys j ≡ some r)) → X
    go (inl q) = f q
    go (inr (j, q, t)) = g j q t

mutual
  unfolding flatten head_of

  pub somewhere : (fs : Fields) → LowFields fs → (row k : ℕ) (r : Row) → get_elem? (fields_rows fs) k ≡ some r → code_of r ≡ 3 → Somewhere row fs k
  somewhere end l row k r e c = no_option r e
  somewhere (i ▸ fs) l row k r e c =
      let old = low_original (head_of i) l.0.decls in
      either (item_rows i) (fields_rows fs) k r e (λ q. of_item i l.1 old fs row k r q c) (λ j q t. later row i fs k j old q (somewhere fs l.2 (row + length (item_rows i)) j r t c))

  of_item : (i : Item) → LowItem i → is_inserted (head_of i) ≡ false → (fs : Fields) (row k : ℕ) (r : Row) → get_elem? (item_rows i) k ≡ some r → code_of r ≡ 3 → Somewhere row (i ▸ fs) k
  of_item (plain h) l old fs row k r e c = in_own row (plain h) fs k r old e c
  of_item (holds h s) l old fs row k r e c =
      either (head_rows h) (flatten s) k r e (λ q. in_own row (holds h s) fs k r old q c) (λ j q t. of_scope s l h old fs row k j r q t c)

  of_scope : (s : Scope) → LowScope s → (h : Head) → is_inserted h ≡ false → (fs : Fields) (row k j : ℕ) (r : Row) → k ≡ length (head_rows h) + j → get_elem? (flatten s) j ≡ some r → code_of r ≡ 3
      → Somewhere row (holds h s ▸ fs) k
  of_scope (scope kind name gs) l h old fs row k j r q t c =
      in_open row h kind name gs fs k j r old c q t (λ n u. somewhere gs l.1 (suc (row + length (head_rows h))) n r u c)

-- ---- places

-- from a scope on: the way, the field and the operand of a place
record PlacedAt (f : Floor) (outside : List Floor) (row : ℕ) : Type 0 where
  way : List ℕ
  fs : List Floor
  leads : floors way f outside ≡ some fs
  field : ℕ
  x : Placed
  there : field_in fs field ≡ some x
  at : ℕ
  o : Operand
  operand : get_elem? (head_of x.item).operands at ≡ some o
  is_at : operand_row_at x at ≡ row

step_in : (f : Floor) (outside : List Floor) (row m : ℕ) (x : Placed) (gs : Fields) → get_elem? (originals_from f.row f.level.fields) m ≡ some x → held x.item ≡ some gs
    → PlacedAt (floor (level (f.level.way ++ (m ∷ [])) gs) (inside_of x)) (f ∷ outside) row → PlacedAt f outside row
unfolding floors ◌then◌
step_in f outside row m x gs e₁ e₂ P =
    record { way = m ∷ P.way; fs = P.fs; leads = rw (e₁, e₂) P.leads; field = P.field; x = P.x; there = P.there; at = P.at; o = P.o; operand = P.operand; is_at = P.is_at }

placed_at : {row : ℕ} {fs : Fields} {k : ℕ} → Somewhere row fs k → (w : List ℕ) (outside : List Floor) → PlacedAt (floor (level w fs) row) outside (row + k)
unfolding floors field_in
placed_at (here m x at o e₁ e₂ e₃) w outside = record { way = []; fs = _; leads = refl; field = m; x = x; there = e₁; at = at; o = o; operand = e₂; is_at = e₃ }
placed_at {row} {fs} {k} (inside m x gs j e₁ e₂ e₃ s) w outside =
    step_in (floor (level w fs) row) outside (row + k) m x gs e₁ e₂
    (subst (λ (n : ℕ). PlacedAt (floor (level (w ++ (m ∷ [])) gs) (inside_of x)) (floor (level w fs) row ∷ outside) n) e₃ (placed_at s (w ++ (m ∷ [])) (floor (level w fs) row ∷ outside)))

has_place : (s : Scope) (row : ℕ) → PlacedAt (floor (root s) 1) [] row → (p : Place) × (row_of_operand s p ≡ some row)
unfolding row_of_operand field_at floors_at ◌then◌
has_place s row P =
    let p : Place = record { way = P.way; field = P.field; at = P.at } in
    (p, rw (P.leads, P.there, P.operand) (ap {B = Option ℕ} some P.is_at))

-- Every REF of the tree is the row of an operand at a place.
pub every_ref : (s : Scope) → LowScope s → (k : ℕ) (r : Row) → get_elem? (flatten s) k ≡ some r → code_of r ≡ 3 → (p : Place) × (row_of_operand s p ≡ some k)
unfolding flatten encode root
every_ref (scope kind name fs) l zero r e c =
    let opens : code_of r ≡ 7 = sym (ap code_of (some_same (Open kind name) r e)) in
    absurd (omega (arith, opens, c))
every_ref (scope kind name fs) l (suc k) r e c = go (elem_split (fields_rows fs) (Close ∷ []) k r e)
  where
    closes : (n : ℕ) → get_elem? (Close ∷ []) n ≡ some r → ⊥
    closes zero e = let close : code_of r ≡ 8 = sym (ap code_of (some_same Close r e)) in omega (arith, close, c)
    closes (suc n) e = no_option r e

    go : (get_elem? (fields_rows fs) k ≡ some r) ⊎ ((n : ℕ) × (k ≡ length (fields_rows fs) + n) × (get_elem? (Close ∷ []) n ≡ some r)) → (p : Place) × (row_of_operand (scope kind name fs) p ≡ some (suc k))
    go (inl t) =
        let one : 1 + k ≡ suc k = omega arith in
        subst (λ (n : ℕ). (p : Place) × (row_of_operand (scope kind name fs) p ≡ some n)) one (has_place (scope kind name fs) (1 + k) (placed_at (somewhere fs l.1 1 k r t c) [] []))
    go (inr (n, p, t)) = absurd (closes n t)
