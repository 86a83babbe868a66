-- The row of a place is the row of that declaration or that operand, and different places have different rows.
use Rattle.std.specs.Prelude.{◌≡◌, refl, Bool, true, false, List, [], ◌∷◌, ◌++◌, map, ℕ, zero, suc, ◌+◌, length, take}
use Rattle.std.proofs.Common.{ap, sym, ◌∙◌, subst, append_assoc, append-nil, arith, length-append}
use Rattle.std.proofs.Math.Option.{Option, some}
use Rattle.std.proofs.Math.ListN.{get_elem?}
use Rattle.rules.specs.Tools.{when◌then◌else◌, ◌then◌}
use Rattle.rules.specs.Rows.{Row, Field, Decl, Ref, Outer, Case, Open, Close}
use Rattle.rules.specs.Tree.{Declaration, Operand, ref, outer, case, Head, Scope, scope, Fields, end, ◌▸◌, Item, plain, holds, head_of, flatten, fields_rows, item_rows, head_rows, decl_rows, operand_row, operand_rows, export_rows}
use Rattle.rules.specs.Readings
use Rattle.rules.specs.Readings.{is_inserted, Place, level, Standing, in_original, in_inserted}
use Rattle.places.specs.PlaceRows
use Rattle.places.specs.PlaceRows.{Placed, originals_from, Floor, floor, floors, floors_at, field_in, field_at, decl_at, operand_at, row_of_decl, row_of_operand, decl_row, operand_row_at, Located, in_rows, located, counted_row}
use Rattle.rules.specs.Laws.ToolLaws.{then_some, All, done, ◌&◌, all_append}
use Rattle.rules.specs.Laws.Results.{some_same, no_option}
use Rattle.places.specs.Counting.{of_space_all}

-- ---- lists

-- an element of the second of two lists that are put together
pub elem_behind : {A : Type 0} (xs ys : List A) (n : ℕ) → get_elem? (xs ++ ys) (length xs + n) ≡ get_elem? ys n
elem_behind [] ys n = ap (get_elem? ys) (omega arith)
elem_behind (x ∷ xs) ys n = let e : suc (length xs) + n ≡ suc (length xs + n) = omega arith in ap (get_elem? (x ∷ (xs ++ ys))) e ∙ elem_behind xs ys n

-- ---- where the rows of a field stand

-- these rows are `rows` from row `n` on, and more may follow
pub record From (rows : List Row) (n : ℕ) (part : List Row) : Type 0 where
  pub before : List Row
  pub behind : List Row
  pub are : rows ≡ before ++ (part ++ behind)
  pub count : length before ≡ n

from_elem : {rows : List Row} {n : ℕ} {part : List Row} → From rows n part → (k : ℕ) (r : Row) → get_elem? part k ≡ some r → get_elem? rows (n + k) ≡ some r
from_elem {rows} {n} {part} F k r e =
    ap (λ (l : List Row). get_elem? l (n + k)) F.are
    ∙ (ap (get_elem? (F.before ++ (part ++ F.behind))) (omega (arith, F.count))
    ∙ (elem_behind F.before (part ++ F.behind) k ∙ left part k e))
  where
    left : (xs : List Row) (k : ℕ) → get_elem? xs k ≡ some r → get_elem? (xs ++ F.behind) k ≡ some r
    left [] k e = no_option r e
    left (x ∷ xs) zero e = e
    left (x ∷ xs) (suc k) e = left xs k e

-- a part of a part
from_part : {rows : List Row} {n : ℕ} {part : List Row} → From rows n part → {k : ℕ} {inner : List Row} → From part k inner → From rows (n + k) inner
from_part {rows} {n} {part} F {k} {inner} G =
    record {
      before = F.before ++ G.before;
      behind = G.behind ++ F.behind;
      are = F.are ∙ (ap (λ (l : List Row). F.before ++ (l ++ F.behind)) G.are ∙ shuffle F.before G.before inner G.behind F.behind);
      count = length-append F.before G.before ∙ (omega (arith, F.count, G.count));
    }
  where
    shuffle : (a b c d e : List Row) → a ++ ((b ++ (c ++ d)) ++ e) ≡ (a ++ b) ++ (c ++ (d ++ e))
    shuffle a b c d e = simp append_assoc

from_first : (xs ys : List Row) → From (xs ++ ys) 0 xs
from_first xs ys = record { before = []; behind = ys; are = refl; count = refl }

from_behind : (xs ys : List Row) {n : ℕ} {part : List Row} → From ys n part → From (xs ++ ys) (length xs + n) part
from_behind xs ys {n} {part} F =
    record {
      before = xs ++ F.before;
      behind = F.behind;
      are = ap (λ (l : List Row). xs ++ l) F.are ∙ sym (append_assoc xs F.before (part ++ F.behind));
      count = length-append xs F.before ∙ (omega (arith, F.count));
    }

-- the rows of an original field stand, among those of its scope's fields, where its row says
pub original_from : (row : ℕ) (fs : Fields) (n : ℕ) (x : Placed) → get_elem? (originals_from row fs) n ≡ some x → (k : ℕ) × (x.row ≡ row + k) × From (fields_rows fs) k (item_rows x.item)
unfolding originals_from when◌then◌else◌ flatten
original_from row end n x e = no_option x e
original_from row (i ▸ fs) n x e = go (is_inserted (head_of i)) n e (λ m q. original_from (row + length (item_rows i)) fs m x q)
  where
    further : (k : ℕ) × (x.row ≡ (row + length (item_rows i)) + k) × From (fields_rows fs) k (item_rows x.item) → (k : ℕ) × (x.row ≡ row + k) × From (item_rows i ++ fields_rows fs) k (item_rows x.item)
    further (k, e, F) = (length (item_rows i) + k, omega (arith, e), from_behind (item_rows i) (fields_rows fs) F)

    go : (b : Bool) (n : ℕ) → get_elem? (when b then originals_from (row + length (item_rows i)) fs else record { row = row; item = i } ∷ originals_from (row + length (item_rows i)) fs) n ≡ some x
        → ((m : ℕ) → get_elem? (originals_from (row + length (item_rows i)) fs) m ≡ some x → (k : ℕ) × (x.row ≡ (row + length (item_rows i)) + k) × From (fields_rows fs) k (item_rows x.item))
        → (k : ℕ) × (x.row ≡ row + k) × From (item_rows i ++ fields_rows fs) k (item_rows x.item)
    go true n e below = further (below n e)
    go false zero e below =
        let same = some_same _ x e in
        subst (λ (y : Placed). (k : ℕ) × (y.row ≡ row + k) × From (item_rows i ++ fields_rows fs) k (item_rows y.item)) same (0, omega arith, from_first (item_rows i) (fields_rows fs))
    go false (suc n) e below = further (below n e)

-- its own rows are the first of it
item_first : (i : Item) → From (item_rows i) 0 (head_rows (head_of i))
unfolding flatten head_of
item_first (plain h) = record { before = []; behind = []; are = sym (append-nil (head_rows h)); count = refl }
item_first (holds h s) = from_first (head_rows h) (flatten s)

-- and behind them and an OPEN stand the fields of the scope that it holds
item_held : (i : Item) (gs : Fields) → Readings.held i ≡ some gs → From (item_rows i) (suc (length (head_rows (head_of i)))) (fields_rows gs)
unfolding flatten head_of Readings.held
item_held (plain h) gs e = no_option gs e
item_held (holds h (scope kind name fs)) gs e =
    let F : From (head_rows h ++ (Open kind name ∷ (fields_rows fs ++ (Close ∷ [])))) (length (head_rows h) + 1) (fields_rows fs) =
    from_behind (head_rows h) (Open kind name ∷ (fields_rows fs ++ (Close ∷ []))) (record { before = Open kind name ∷ []; behind = Close ∷ []; are = refl; count = refl }) in
    subst (λ (x : Fields). From (head_rows h ++ (Open kind name ∷ (fields_rows fs ++ (Close ∷ [])))) (suc (length (head_rows h))) (fields_rows x)) (some_same fs gs e)
    (subst (λ (n : ℕ). From (head_rows h ++ (Open kind name ∷ (fields_rows fs ++ (Close ∷ [])))) n (fields_rows fs)) (omega arith) F)

-- ---- the scopes around a place stand where their rows say

-- the fields of a scope are these rows, from the scope's row on
abbrev pub StandsIn : List Row → Floor → Type 0
StandsIn rows f = From rows f.row (fields_rows f.level.fields)

original_stands : (rows : List Row) (f : Floor) → StandsIn rows f → (n : ℕ) (x : Placed) → get_elem? (originals_from f.row f.level.fields) n ≡ some x → From rows x.row (item_rows x.item)
original_stands rows f S n x e =
    let o = original_from f.row f.level.fields n x e in
    subst (λ (m : ℕ). From rows m (item_rows x.item)) (sym o.1) (from_part S o.2)

floors_stand : (rows : List Row) (way : List ℕ) (f : Floor) (outside fs : List Floor) → floors way f outside ≡ some fs → StandsIn rows f → All (StandsIn rows) outside → All (StandsIn rows) fs
unfolding floors PlaceRows.inside_of
floors_stand rows [] f outside fs e S Ss = subst (All (StandsIn rows)) (some_same _ fs e) (S & Ss)
floors_stand rows (n ∷ way) f outside fs e S Ss =
    let s₁ = then_some (get_elem? (originals_from f.row f.level.fields) n) _ fs e in
    let s₂ = then_some (Readings.held s₁.0.item) _ fs s₁.2 in
    let F = from_part (original_stands rows f S n s₁.0 s₁.1) (item_held s₁.0.item s₂.0 s₂.1) in
    let next : s₁.0.row + suc (length (head_rows (head_of s₁.0.item))) ≡ suc (s₁.0.row + length (head_rows (head_of s₁.0.item))) = omega arith in
    floors_stand rows way _ (f ∷ outside) fs s₂.2
    (subst (λ (m : ℕ). From rows m (fields_rows s₂.0)) next F) (S & Ss)

root_stands : (s : Scope) → StandsIn (flatten s) (floor (Readings.root s) 1)
unfolding flatten Readings.root
root_stands (scope kind name fs) = record { before = Open kind name ∷ []; behind = Close ∷ []; are = refl; count = refl }

-- each scope around a place stands in the form where its row says
pub floors_at_stand : (s : Scope) (way : List ℕ) (fs : List Floor) → floors_at s way ≡ some fs → All (StandsIn (flatten s)) fs
unfolding floors_at
floors_at_stand s way fs e = floors_stand (flatten s) way _ [] fs e (root_stands s) done

-- the rows of a place's field
field_stands : (s : Scope) (p : Place) (x : Placed) → field_at s p ≡ some x → From (flatten s) x.row (head_rows (head_of x.item))
unfolding field_at field_in
field_stands s p x e =
    let s₁ = then_some (floors_at s p.way) _ x e in
    go s₁.0 (floors_at_stand s p.way s₁.0 s₁.1) s₁.2
  where
    go : (fs : List Floor) → All (StandsIn (flatten s)) fs → field_in fs p.field ≡ some x → From (flatten s) x.row (head_rows (head_of x.item))
    go [] a q = no_option x q
    go (f ∷ fs) (S & a) q =
        subst (λ (m : ℕ). From (flatten s) m (head_rows (head_of x.item))) (omega arith) (from_part (original_stands (flatten s) f S p.field x q) (item_first x.item))

-- ---- the row of a declaration is its DECL

-- the DECL row of a declaration
abbrev pub decl_row_of : Declaration → Row
decl_row_of d = Decl d.space d.name d.z

-- a field has one DECL row for each declaration
pub decls_length : (ds : List Declaration) → length (decl_rows ds) ≡ length ds
unfolding decl_rows
decls_length [] = refl
decls_length (d ∷ ds) = ap suc (decls_length ds)

decl_elem : (ds : List Declaration) (zs : List Row) (n : ℕ) (d : Declaration) → get_elem? ds n ≡ some d → get_elem? (decl_rows ds ++ zs) n ≡ some (decl_row_of d)
unfolding decl_rows
decl_elem [] zs n d e = no_option d e
decl_elem (x ∷ ds) zs zero d e = ap {B = Option Row} (λ (y : Declaration). some (decl_row_of y)) (some_same x d e)
decl_elem (x ∷ ds) zs (suc n) d e = decl_elem ds zs n d e

head_decl : (h : Head) (n : ℕ) (d : Declaration) → get_elem? h.decls n ≡ some d → get_elem? (head_rows h) (suc n) ≡ some (decl_row_of d)
unfolding head_rows
head_decl h n d e = decl_elem h.decls _ n d e

decl_at_lem : (s : Scope) (p : Place) (x : Placed) (d : Declaration) → field_at s p ≡ some x → get_elem? (head_of x.item).decls p.at ≡ some d → decl_at s p ≡ some d
unfolding decl_at ◌then◌
decl_at_lem s p x d e₁ e₂ = rw e₁ e₂

-- The row of the declaration at a place, in the input or in the output, is its DECL.
pub decl_row_lem : (s : Scope) (p : Place) (r : ℕ) → row_of_decl s p ≡ some r → (d : Declaration) × (decl_at s p ≡ some d) × (get_elem? (flatten s) r ≡ some (decl_row_of d))
unfolding row_of_decl decl_row
decl_row_lem s p r e =
    let s₁ = then_some (field_at s p) _ r e in
    let s₂ = then_some (get_elem? (head_of s₁.0.item).decls p.at) _ r s₁.2 in
    let q : suc (s₁.0.row + p.at) ≡ r = some_same _ r s₂.2 in (
      s₂.0,
      decl_at_lem s p s₁.0 s₂.0 s₁.1 s₂.1,
      ap (get_elem? (flatten s)) (omega (arith, q)) ∙ from_elem (field_stands s p s₁.0 s₁.1) (suc p.at) (decl_row_of s₂.0) (head_decl (head_of s₁.0.item) p.at s₂.0 s₂.1),
    )

-- ---- the row of an operand is its REF, OUTER or CASE

-- the first row of an operand: its REF, OUTER or CASE
abbrev pub operand_row_of : Operand → Row
operand_row_of (ref space at paths z) = Ref space at (length paths) z
operand_row_of (outer space up at z) = Outer space up at z
operand_row_of (case name z) = Case name z

operand_first : (o : Operand) (rest : List Row) → get_elem? (operand_row o ++ rest) 0 ≡ some (operand_row_of o)
unfolding operand_row
operand_first (ref space at paths z) rest = refl
operand_first (outer space up at z) rest = refl
operand_first (case name z) rest = refl

operand_elem : (os : List Operand) (zs : List Row) (n : ℕ) (o : Operand) → get_elem? os n ≡ some o → get_elem? (operand_rows os ++ zs) (length (operand_rows (take n os))) ≡ some (operand_row_of o)
unfolding operand_rows
operand_elem [] zs n o e = no_option o e
operand_elem (x ∷ os) zs zero o e =
    rw (append_assoc (operand_row x) (operand_rows os) zs) (operand_first x (operand_rows os ++ zs) ∙ ap {B = Option Row} (λ (y : Operand). some (operand_row_of y)) (some_same x o e))
operand_elem (x ∷ os) zs (suc n) o e =
    rw (append_assoc (operand_row x) (operand_rows os) zs, length-append (operand_row x) (operand_rows (take n os)))
    (elem_behind (operand_row x) (operand_rows os ++ zs) (length (operand_rows (take n os))) ∙ operand_elem os zs n o e)

head_operand : (h : Head) (n : ℕ) (o : Operand) → get_elem? h.operands n ≡ some o → get_elem? (head_rows h) (suc (length h.decls + length (operand_rows (take n h.operands)))) ≡ some (operand_row_of o)
unfolding head_rows
head_operand h n o e =
    rw (← (decls_length h.decls)) (elem_behind (decl_rows h.decls) _ (length (operand_rows (take n h.operands))) ∙ operand_elem h.operands (export_rows h.export) n o e)

operand_at_lem : (s : Scope) (p : Place) (x : Placed) (o : Operand) → field_at s p ≡ some x → get_elem? (head_of x.item).operands p.at ≡ some o → operand_at s p ≡ some o
unfolding operand_at ◌then◌
operand_at_lem s p x o e₁ e₂ = rw e₁ e₂

-- The row of the operand at a place, in the input or in the output, is its REF, OUTER or CASE.
pub operand_row_lem : (s : Scope) (p : Place) (r : ℕ) → row_of_operand s p ≡ some r → (o : Operand) × (operand_at s p ≡ some o) × (get_elem? (flatten s) r ≡ some (operand_row_of o))
unfolding row_of_operand operand_row_at
operand_row_lem s p r e =
    let s₁ = then_some (field_at s p) _ r e in
    let s₂ = then_some (get_elem? (head_of s₁.0.item).operands p.at) _ r s₁.2 in
    let h = head_of s₁.0.item in
    let q : suc (s₁.0.row + (length h.decls + length (operand_rows (take p.at h.operands)))) ≡ r = some_same _ r s₂.2 in (
      s₂.0,
      operand_at_lem s p s₁.0 s₂.0 s₁.1 s₂.1,
      ap (get_elem? (flatten s)) (omega (arith, q)) ∙ from_elem (field_stands s p s₁.0 s₁.1) (suc (length h.decls + length (operand_rows (take p.at h.operands)))) (operand_row_of s₂.0) (head_operand h p.at s₂.0 s₂.1),
    )

-- ---- every declaration that is counted, an inserted one too, is at its row

abbrev RowIs : List Row → Located → Type 0
RowIs rows x = get_elem? rows x.row ≡ some (decl_row_of x.standing.decl)

-- the declarations alone, without where they stand
abbrev pub decls_of : List Standing → List Declaration
decls_of ss = map (λ (s : Standing). s.decl) ss

rows_are : (rows : List Row) (row : ℕ) (ss : List Standing) → From rows row (decl_rows (decls_of ss)) → All (RowIs rows) (in_rows row ss)
unfolding in_rows decl_rows
rows_are rows row [] F = done
rows_are rows row (s ∷ ss) F =
    let G = from_part F {k = 1} {inner = decl_rows (decls_of ss)} (record { before = decl_row_of s.decl ∷ []; behind = []; are = ap (λ (l : List Row). decl_row_of s.decl ∷ l) (sym (append-nil (decl_rows (decls_of ss)))); count = refl }) in
    let same : row ≡ row + 0 = omega arith in
    (ap (get_elem? rows) same ∙ from_elem F 0 (decl_row_of s.decl) refl) & rows_are rows (suc row) ss (subst (λ (m : ℕ). From rows m (decl_rows (decls_of ss))) (omega arith) G)

new_decls : (h : Head) (ds : List Declaration) → decls_of (in_inserted h ds) ≡ ds
unfolding in_inserted
new_decls h [] = refl
new_decls h (d ∷ ds) = ap {B = List Declaration} (λ l. d ∷ l) (new_decls h ds)

old_decls : (n m : ℕ) (ds : List Declaration) → decls_of (in_original n m ds) ≡ ds
unfolding in_original
old_decls n m [] = refl
old_decls n m (d ∷ ds) = ap {B = List Declaration} (λ l. d ∷ l) (old_decls n (suc m) ds)

-- the declarations of a field, inserted or not, are its DECLs
pub own_decls : (b : Bool) (n : ℕ) (h : Head) → decls_of (when b then in_inserted h h.decls else in_original n 0 h.decls) ≡ h.decls
unfolding when◌then◌else◌
own_decls true n h = new_decls h h.decls
own_decls false n h = old_decls n 0 h.decls

head_decls : (h : Head) → From (head_rows h) 1 (decl_rows h.decls)
unfolding head_rows
head_decls h = record { before = Field h.code h.builtin h.z ∷ []; behind = operand_rows h.operands ++ export_rows h.export; are = refl; count = refl }

located_rows : (rows : List Row) (row n : ℕ) (fs : Fields) → From rows row (fields_rows fs) → All (RowIs rows) (located row n fs)
unfolding located flatten
located_rows rows row n end F = done
located_rows rows row n (i ▸ fs) F =
    let item : From rows (row + 0) (item_rows i) = from_part F (from_first (item_rows i) (fields_rows fs)) in
    let head = from_part item (from_part (item_first i) (head_decls (head_of i))) in
    let own = when is_inserted (head_of i) then in_inserted (head_of i) (head_of i).decls else in_original n 0 (head_of i).decls in
    let ds : From rows (suc row) (decl_rows (head_of i).decls) = subst (λ (m : ℕ). From rows m (decl_rows (head_of i).decls)) (omega arith) head in
    let rest : From rows (row + (length (item_rows i) + 0)) (fields_rows fs) =
    from_part F (from_behind (item_rows i) (fields_rows fs) (record { before = []; behind = []; are = sym (append-nil (fields_rows fs)); count = refl })) in
    all_append _ _ (rows_are rows (suc row) own (rw (own_decls (is_inserted (head_of i)) n (head_of i)) ds))
    (located_rows rows (row + length (item_rows i)) _ fs (subst (λ (m : ℕ). From rows m (fields_rows fs)) (omega arith) rest))

-- what holds of all elements of a list holds of each
pub all_at : {A : Type 0} {P : A → Type 0} (xs : List A) (n : ℕ) (x : A) → All P xs → get_elem? xs n ≡ some x → P x
all_at [] n x a e = no_option x e
all_at {P = P} (y ∷ xs) zero x (h & a) e = subst P (some_same y x e) h
all_at (y ∷ xs) (suc n) x (h & a) e = all_at xs n x a e

-- The row of a declaration that counting finds in a scope around a place is its DECL.
pub counted_row_is : (s : Scope) (way : List ℕ) (fs : List Floor) (d : ℕ) (f : Floor) (space n : ℕ) (x : Located) → floors_at s way ≡ some fs → get_elem? fs d ≡ some f → counted_row f space n ≡ some x
    → get_elem? (flatten s) x.row ≡ some (decl_row_of x.standing.decl)
unfolding counted_row
counted_row_is s way fs d f space n x e₁ e₂ e₃ =
    let S : StandsIn (flatten s) f = all_at fs d f (floors_at_stand s way fs e₁) e₂ in
    all_at _ n x (of_space_all _ space (located_rows (flatten s) f.row 0 f.level.fields S)) e₃
