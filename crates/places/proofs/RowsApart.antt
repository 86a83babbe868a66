-- Different places have different rows.
use Rattle.std.specs.Prelude.{◌≡◌, refl, Bool, true, false, List, [], ◌∷◌, ◌++◌, ℕ, zero, suc, ◌+◌, ◌≤◌, ◌<◌, length, take}
use Rattle.std.proofs.Common.{ap, ap₂, sym, ◌∙◌, subst, arith, length-append}
use Rattle.std.proofs.Math.Option.{some}
use Rattle.std.proofs.Math.ListN.{get_elem?}
use Rattle.rules.specs.Tools.{when◌then◌else◌, ◌then◌}
use Rattle.rules.specs.Rows.{Row, Open, Close}
use Rattle.rules.specs.Tree.{Declaration, Operand, ref, outer, case, Scope, scope, Fields, end, ◌▸◌, Item, plain, holds, head_of, flatten, fields_rows, item_rows, head_rows, operand_row, operand_rows}
use Rattle.rules.specs.Readings
use Rattle.rules.specs.Readings.{is_inserted, Place, level}
use Rattle.places.specs.PlaceRows
use Rattle.places.specs.PlaceRows.{Placed, originals_from, Floor, floor, floors, floors_at, field_in, field_at, row_of_decl, row_of_operand, decl_row, operand_row_at}
use Rattle.rules.specs.Laws.ToolLaws.{then_some}
use Rattle.rules.specs.Laws.Results.{some_same, no_option}
use Rattle.places.proofs.RowAt.{From, original_from, decls_length}
use Rattle.rules.proofs.Laws.Output.FourTimes.{head_length}

-- ---- how far a field reaches

from_fits : {rows : List Row} {n : ℕ} {part : List Row} → From rows n part → n + length part ≤ length rows
from_fits {rows} {n} {part} F =
    let e₁ = ap (λ (l : List Row). length l) F.are in
    let e₂ = length-append F.before (part ++ F.behind) in
    let e₃ = length-append part F.behind in
    omega (arith, e₁, e₂, e₃, F.count)

-- a field lies between the first row of its scope's fields and the last
original_within : (row : ℕ) (fs : Fields) (n : ℕ) (x : Placed) → get_elem? (originals_from row fs) n ≡ some x → (row ≤ x.row) × (x.row + length (item_rows x.item) ≤ row + length (fields_rows fs))
original_within row fs n x e =
    let o = original_from row fs n x e in
    let f = from_fits o.2 in
    (omega (arith, o.1), omega (arith, o.1, f))

-- a later field begins where an earlier one has ended
original_order : (row : ℕ) (fs : Fields) (n m : ℕ) (x y : Placed) → get_elem? (originals_from row fs) n ≡ some x → get_elem? (originals_from row fs) m ≡ some y → n < m
    → x.row + length (item_rows x.item) ≤ y.row
unfolding originals_from when◌then◌else◌
original_order row end n m x y e₁ e₂ h = no_option x e₁
original_order row (i ▸ fs) n m x y e₁ e₂ h = go (is_inserted (head_of i)) n m e₁ e₂ h (λ n m p q l. original_order (row + length (item_rows i)) fs n m x y p q l)
  where
    rest : List Placed
    rest = originals_from (row + length (item_rows i)) fs

    go : (b : Bool) (n m : ℕ) → get_elem? (when b then rest else record { row = row; item = i } ∷ rest) n ≡ some x → get_elem? (when b then rest else record { row = row; item = i } ∷ rest) m ≡ some y → n < m
        → ((n m : ℕ) → get_elem? rest n ≡ some x → get_elem? rest m ≡ some y → n < m → x.row + length (item_rows x.item) ≤ y.row)
        → x.row + length (item_rows x.item) ≤ y.row
    go true n m e₁ e₂ h below = below n m e₁ e₂ h
    go false n zero e₁ e₂ h below = absurd (omega arith)
    go false zero (suc m) e₁ e₂ h below =
        let w = original_within (row + length (item_rows i)) fs m y e₂ in
        subst (λ (z : Placed). z.row + length (item_rows z.item) ≤ y.row) (some_same _ x e₁) w.0
    go false (suc n) (suc m) e₁ e₂ h below = below n m e₁ e₂ (omega arith)

-- a field that holds a scope has its own rows, those of the scope's fields, an OPEN and a CLOSE
pub item_length : (i : Item) (gs : Fields) → Readings.held i ≡ some gs → length (item_rows i) ≡ length (head_rows (head_of i)) + (length (fields_rows gs) + 2)
unfolding flatten head_of Readings.held
item_length (plain h) gs e = no_option gs e
item_length (holds h (scope kind name fs)) gs e =
    let e₁ = length-append (head_rows h) (Open kind name ∷ (fields_rows fs ++ (Close ∷ []))) in
    let e₂ = length-append (fields_rows fs) (Close ∷ []) in
    let e₃ = ap (λ (x : Fields). length (fields_rows x)) (some_same fs gs e) in
    omega (arith, e₁, e₂, e₃)

-- a field has at least its own rows
pub own_length : (i : Item) → length (head_rows (head_of i)) ≤ length (item_rows i)
unfolding flatten head_of
own_length (plain h) = omega arith
own_length (holds h s) = let e = length-append (head_rows h) (flatten s) in omega (arith, e)

-- ---- the way to a field

-- `x` is the original field number `n` at the end of `way` from `f`
data Under : Floor → (way : List ℕ) → (n : ℕ) → Placed → Type 0 where
  here : {f : Floor} {n : ℕ} {x : Placed} → get_elem? (originals_from f.row f.level.fields) n ≡ some x → Under f [] n x
  deeper : {f : Floor} {m n : ℕ} {way : List ℕ} {i x : Placed} {gs : Fields} → get_elem? (originals_from f.row f.level.fields) m ≡ some i → Readings.held i.item ≡ some gs
      → Under (floor (level (f.level.way ++ (m ∷ [])) gs) (PlaceRows.inside_of i)) way n x → Under f (m ∷ way) n x

under_of : (way : List ℕ) (f : Floor) (outside fs : List Floor) (n : ℕ) (x : Placed) → floors way f outside ≡ some fs → field_in fs n ≡ some x → Under f way n x
unfolding floors field_in
under_of [] f outside fs n x e₁ e₂ = here (ap (λ (l : List Floor). field_in l n) (some_same _ fs e₁) ∙ e₂)
under_of (m ∷ way) f outside fs n x e₁ e₂ =
    let s₁ = then_some (get_elem? (originals_from f.row f.level.fields) m) _ fs e₁ in
    let s₂ = then_some (Readings.held s₁.0.item) _ fs s₁.2 in
    deeper s₁.1 s₂.1 (under_of way _ (f ∷ outside) fs n x s₂.2 e₂)

-- a row of a field's own rows
record Own (x : Placed) (r : ℕ) : Type 0 where
  from : x.row ≤ r
  to : r < x.row + length (head_rows (head_of x.item))

-- it lies among the rows of the fields
own_within : {f : Floor} {way : List ℕ} {n : ℕ} {x : Placed} → Under f way n x → (r : ℕ) → Own x r → (f.row ≤ r) × (r < f.row + length (fields_rows f.level.fields))
unfolding PlaceRows.inside_of
own_within (here {f = f} {n = n} {x = x} e) r o =
    let w = original_within f.row f.level.fields n x e in
    let l = own_length x.item in
    (omega (arith, w, o.from), omega (arith, w, l, o.to))
own_within (deeper {f = f} {m = m} {i = i} {gs = gs} e h u) r o =
    let w = original_within f.row f.level.fields m i e in
    let l = item_length i.item gs h in
    let b = own_within u r o in
    (omega (arith, w, b), omega (arith, w, l, b))

-- the first step: a field of which `r` is a row
record Step (f : Floor) (m r : ℕ) : Type 0 where
  i : Placed
  there : get_elem? (originals_from f.row f.level.fields) m ≡ some i
  from : i.row ≤ r
  to : r < i.row + length (item_rows i.item)

same_step : (f : Floor) (m n r : ℕ) → Step f m r → Step f n r → m ≡ n
same_step f m n r S T = le_both (not_less f m n r S T) (not_less f n m r T S)
  where
    not_less : (f : Floor) (m n r : ℕ) → Step f m r → Step f n r → ¬ (m < n)
    not_less f m n r S T h =
        let o = original_order f.row f.level.fields m n S.i T.i S.there T.there h in
        let a = S.to in
        let b = T.from in omega (arith, o, a, b)

    le_both : {m n : ℕ} → ¬ (m < n) → ¬ (n < m) → m ≡ n
    le_both a b = omega arith

here_step : {f : Floor} {n : ℕ} {x : Placed} → get_elem? (originals_from f.row f.level.fields) n ≡ some x → (r : ℕ) → Own x r → Step f n r
here_step {f} {n} {x} e r o = let l = own_length x.item in let t = o.to in record { i = x; there = e; from = o.from; to = omega (arith, l, t) }

deeper_step : {f : Floor} {m n : ℕ} {way : List ℕ} {i x : Placed} {gs : Fields} → get_elem? (originals_from f.row f.level.fields) m ≡ some i → Readings.held i.item ≡ some gs
    → Under (floor (level (f.level.way ++ (m ∷ [])) gs) (PlaceRows.inside_of i)) way n x → (r : ℕ) → Own x r → Step f m r
unfolding PlaceRows.inside_of
deeper_step {i = i} {gs = gs} e h u r o =
    let l = item_length i.item gs h in
    let b = own_within u r o in
    record { i = i; there = e; from = omega (arith, b); to = omega (arith, l, b) }

-- ---- one row, one place

-- the same way, the same field
abbrev Alike : (way : List ℕ) (n : ℕ) (x : Placed) (way' : List ℕ) (n' : ℕ) (x' : Placed) → Type 0
Alike way n x way' n' x' = (way ≡ way') × (n ≡ n') × (x ≡ x')

alike : {f : Floor} {way way' : List ℕ} {n n' : ℕ} {x x' : Placed} → Under f way n x → Under f way' n' x' → (r : ℕ) → Own x r → Own x' r → Alike way n x way' n' x'
unfolding PlaceRows.inside_of
alike (here {f = f} {n = n} {x = x} e) (here {n = n'} {x = x'} e') r o o' =
    let m = same_step f n n' r (here_step e r o) (here_step e' r o') in
    (refl, m, some_same x x' (sym e ∙ (ap (get_elem? (originals_from f.row f.level.fields)) m ∙ e')))
alike (here {f = f} {n = n} {x = x} e) (deeper {m = m} {i = i} {gs = gs} e' h u) r o o' =
    let s = same_step f n m r (here_step e r o) (deeper_step e' h u r o') in
    let same : x ≡ i = some_same x i (sym e ∙ (ap (get_elem? (originals_from f.row f.level.fields)) s ∙ e')) in
    let b = own_within u r o' in
    let t : r < i.row + length (head_rows (head_of i.item)) = subst (λ (z : Placed). r < z.row + length (head_rows (head_of z.item))) same o.to in
    absurd (omega (arith, b, t))
alike (deeper {f = f} {m = m} {i = i} {gs = gs} e h u) (here {n = n} {x = x} e') r o o' =
    let s = same_step f n m r (here_step e' r o') (deeper_step e h u r o) in
    let same : x ≡ i = some_same x i (sym e' ∙ (ap (get_elem? (originals_from f.row f.level.fields)) s ∙ e)) in
    let b = own_within u r o in
    let t : r < i.row + length (head_rows (head_of i.item)) = subst (λ (z : Placed). r < z.row + length (head_rows (head_of z.item))) same o'.to in
    absurd (omega (arith, b, t))
alike (deeper {f = f} {m = m} {n = n} {way = way} {i = i} {x = x} {gs = gs} e h u) (deeper {m = m'} {n = n'} {way = way'} {i = i'} {x = x'} {gs = gs'} e' h' u') r o o' =
    let s = same_step f m m' r (deeper_step e h u r o) (deeper_step e' h' u' r o') in
    let same : i ≡ i' = some_same i i' (sym e ∙ (ap (get_elem? (originals_from f.row f.level.fields)) s ∙ e')) in
    let held_same : gs ≡ gs' = some_same gs gs' (sym h ∙ (ap (λ (z : Placed). Readings.held z.item) same ∙ h')) in
    let u₂ : Under (floor (level (f.level.way ++ (m ∷ [])) gs) (suc (i.row + length (head_rows (head_of i.item))))) way' n' x' =
    rw (s, same, held_same) u' in
    let I = alike u u₂ r o o' in
    (ap₂ (λ (a : ℕ) (b : List ℕ). a ∷ b) s I.0, I.1, I.2)

field_under : (s : Scope) (p : Place) (x : Placed) → field_at s p ≡ some x → Under (floor (Readings.root s) 1) p.way p.field x
unfolding field_at floors_at
field_under s p x e = let s₁ = then_some (floors_at s p.way) _ x e in under_of p.way _ [] s₁.0 p.field x s₁.1 s₁.2

-- the number of an element is below the length of the list
pub elem_lt : {A : Type 0} (xs : List A) (n : ℕ) (x : A) → get_elem? xs n ≡ some x → n < length xs
elem_lt [] n x e = no_option x e
elem_lt (y ∷ xs) zero x e = omega arith
elem_lt (y ∷ xs) (suc n) x e = let h = elem_lt xs n x e in omega arith

-- places with the same way, field and number are the same
pub same_places : (p q : Place) → p.way ≡ q.way → p.field ≡ q.field → p.at ≡ q.at → p ≡ q
same_places p q e₁ e₂ e₃ = rw (e₁, e₂, e₃)

-- Different declarations have different rows.
pub decls_apart : (s : Scope) (p q : Place) (r : ℕ) → row_of_decl s p ≡ some r → row_of_decl s q ≡ some r → p ≡ q
unfolding row_of_decl decl_row
decls_apart s p q r e₁ e₂ =
    let a₁ = then_some (field_at s p) _ r e₁ in
    let b₁ = then_some (get_elem? (head_of a₁.0.item).decls p.at) _ r a₁.2 in
    let r₁ : suc (a₁.0.row + p.at) ≡ r = some_same _ r b₁.2 in
    let a₂ = then_some (field_at s q) _ r e₂ in
    let b₂ = then_some (get_elem? (head_of a₂.0.item).decls q.at) _ r a₂.2 in
    let r₂ : suc (a₂.0.row + q.at) ≡ r = some_same _ r b₂.2 in
    let S = alike (field_under s p a₁.0 a₁.1) (field_under s q a₂.0 a₂.1) r (own a₁.0 p.at b₁.0 r b₁.1 r₁) (own a₂.0 q.at b₂.0 r b₂.1 r₂) in
    let rows = ap (λ (x : Placed). x.row) S.2 in
    same_places p q S.0 S.1 (omega (arith, r₁, r₂, rows))
  where
    own : (x : Placed) (at : ℕ) (d : Declaration) (r : ℕ) → get_elem? (head_of x.item).decls at ≡ some d → suc (x.row + at) ≡ r → Own x r
    own x at d r e q =
        let l = elem_lt (head_of x.item).decls at d e in
        let n = head_length (head_of x.item) in
        let m = decls_length (head_of x.item).decls in
        record { from = omega (arith, q); to = omega (arith, q, l, n, m) }

-- an operand has at least one row
pub one_row : (o : Operand) → 1 ≤ length (operand_row o)
unfolding operand_row
one_row (ref space at paths z) = omega arith
one_row (outer space up at z) = omega arith
one_row (case name z) = omega arith

-- of two operands the later one has more rows before it
pub rows_less : (os : List Operand) (n m : ℕ) (o : Operand) → get_elem? os n ≡ some o → n < m → length (operand_rows (take n os)) < length (operand_rows (take m os))
unfolding operand_rows
rows_less [] n m o e h = no_option o e
rows_less (x ∷ os) n zero o e h = absurd (omega arith)
rows_less (x ∷ os) zero (suc m) o e h = let a = one_row x in let b = length-append (operand_row x) (operand_rows (take m os)) in omega (arith, a, b)
rows_less (x ∷ os) (suc n) (suc m) o e h =
    let a = rows_less os n m o e (omega arith) in
    let b = length-append (operand_row x) (operand_rows (take m os)) in
    let c = length-append (operand_row x) (operand_rows (take n os)) in
    omega (arith, a, b, c)

-- the rows before an operand are fewer than those of all operands
pub rows_within : (os : List Operand) (n : ℕ) (o : Operand) → get_elem? os n ≡ some o → length (operand_rows (take n os)) < length (operand_rows os)
unfolding operand_rows
rows_within [] n o e = no_option o e
rows_within (x ∷ os) zero o e = let a = one_row x in let b = length-append (operand_row x) (operand_rows os) in omega (arith, a, b)
rows_within (x ∷ os) (suc n) o e =
    let a = rows_within os n o e in
    let b = length-append (operand_row x) (operand_rows os) in
    let c = length-append (operand_row x) (operand_rows (take n os)) in
    omega (arith, a, b, c)

-- Different operands have different rows.
pub operands_apart : (s : Scope) (p q : Place) (r : ℕ) → row_of_operand s p ≡ some r → row_of_operand s q ≡ some r → p ≡ q
unfolding row_of_operand operand_row_at
operands_apart s p q r e₁ e₂ =
    let a₁ = then_some (field_at s p) _ r e₁ in
    let b₁ = then_some (get_elem? (head_of a₁.0.item).operands p.at) _ r a₁.2 in
    let r₁ : suc (a₁.0.row + (length (head_of a₁.0.item).decls + length (operand_rows (take p.at (head_of a₁.0.item).operands)))) ≡ r = some_same _ r b₁.2 in
    let a₂ = then_some (field_at s q) _ r e₂ in
    let b₂ = then_some (get_elem? (head_of a₂.0.item).operands q.at) _ r a₂.2 in
    let r₂ : suc (a₂.0.row + (length (head_of a₂.0.item).decls + length (operand_rows (take q.at (head_of a₂.0.item).operands)))) ≡ r = some_same _ r b₂.2 in
    let S = alike (field_under s p a₁.0 a₁.1) (field_under s q a₂.0 a₂.1) r (own a₁.0 p.at b₁.0 r b₁.1 r₁) (own a₂.0 q.at b₂.0 r b₂.1 r₂) in
    let b₂' = subst (λ (x : Placed). get_elem? (head_of x.item).operands q.at ≡ some b₂.0) (sym S.2) b₂.1 in
    let r₂' = subst (λ (x : Placed). suc (x.row + (length (head_of x.item).decls + length (operand_rows (take q.at (head_of x.item).operands)))) ≡ r) (sym S.2) r₂ in
    same_places p q S.0 S.1 (same_at (head_of a₁.0.item).operands p.at q.at b₁.0 b₂.0 b₁.1 b₂' (omega (arith, r₁, r₂')))
  where
    own : (x : Placed) (at : ℕ) (o : Operand) (r : ℕ) → get_elem? (head_of x.item).operands at ≡ some o
        → suc (x.row + (length (head_of x.item).decls + length (operand_rows (take at (head_of x.item).operands)))) ≡ r → Own x r
    own x at o r e q =
        let l = rows_within (head_of x.item).operands at o e in
        let n = head_length (head_of x.item) in
        let m = decls_length (head_of x.item).decls in
        record { from = omega (arith, q); to = omega (arith, q, l, n, m) }

    same_at : (os : List Operand) (n m : ℕ) (o o' : Operand) → get_elem? os n ≡ some o → get_elem? os m ≡ some o' → length (operand_rows (take n os)) ≡ length (operand_rows (take m os)) → n ≡ m
    same_at os n m o o' e e' q =
        let not_less : ¬ (n < m) = λ h. (let l = rows_less os n m o e h in omega (arith, l, q)) in
        let not_more : ¬ (m < n) = λ h. (let l = rows_less os m n o' e' h in omega (arith, l, q)) in
        omega (arith, not_less, not_more)
