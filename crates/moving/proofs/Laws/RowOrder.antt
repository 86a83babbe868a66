-- The places of a tree's operands are listed in row order, each once.
use Rattle.std.specs.Prelude.{◌≡◌, refl, Bool, true, false, List, [], ◌∷◌, ◌++◌, map, ℕ, zero, suc, ◌+◌, ◌≤◌, length, take}
use Rattle.std.proofs.Common.{ap, ap₂, sym, ◌∙◌, subst, arith, length-append}
use Rattle.std.proofs.Math.Option.{Option, none, some}
use Rattle.std.proofs.Math.ListN.{get_elem?}
use Rattle.rules.specs.Tools.{when◌then◌else◌, ◌then◌}
use Rattle.rules.specs.Rows.{Close}
use Rattle.rules.specs.Tree.{Operand, Scope, scope, Fields, end, ◌▸◌, Item, plain, holds, head_of, flatten, fields_rows, item_rows, head_rows, operand_row, operand_rows}
use Rattle.rules.specs.Readings
use Rattle.rules.specs.Readings.{is_inserted, Place, level, fields_of}
use Rattle.places.specs.PlaceRows
use Rattle.places.specs.PlaceRows.{Placed, originals_from, Floor, floor, floors, floors_at, field_at, row_of_operand, operand_row_at}
use Rattle.moving.specs.Moved.{places_at, places_in, places_inside, places_of, places}
use Rattle.rules.specs.Laws.Results.{some_same, no_option}
use Rattle.places.specs.Counting.{map-append}
use Rattle.places.proofs.RowAt.{decls_length}
use Rattle.places.proofs.RowsApart.{one_row, item_length, own_length}
use Rattle.places.proofs.LocatedAt.{AtItsWay, field_is, floors_on}
use Rattle.rules.proofs.Laws.Output.FourTimes.{head_length}

-- ---- rising numbers

-- each is above the one before it; all are from `lo` up and below `hi`
pub data Rising : (lo hi : ℕ) → List ℕ → Type 0 where
  no_more : {lo hi : ℕ} → lo ≤ hi → Rising lo hi []
  then_on : {lo hi r : ℕ} {rs : List ℕ} → lo ≤ r → Rising (suc r) hi rs → Rising lo hi (r ∷ rs)

rising_bounds : {lo hi : ℕ} {rs : List ℕ} → Rising lo hi rs → lo ≤ hi
rising_bounds (no_more h) = h
rising_bounds (then_on h r) = let b = rising_bounds r in omega (arith, h, b)

rising_lower : {lo lo' hi : ℕ} {rs : List ℕ} → lo' ≤ lo → Rising lo hi rs → Rising lo' hi rs
rising_lower {lo' = lo'} l (no_more {hi = hi} h) = no_more {lo = lo'} {hi = hi} (omega (arith, l, h))
rising_lower {lo' = lo'} l (then_on {hi = hi} {r = r} {rs = rs} h t) = then_on {lo = lo'} {hi = hi} {r = r} {rs = rs} (omega (arith, l, h)) t

rising_higher : {lo hi hi' : ℕ} {rs : List ℕ} → hi ≤ hi' → Rising lo hi rs → Rising lo hi' rs
rising_higher {hi' = hi'} l (no_more {lo = lo} h) = no_more {lo = lo} {hi = hi'} (omega (arith, l, h))
rising_higher l (then_on h r) = then_on h (rising_higher l r)

rising_append : {lo mid hi : ℕ} {xs ys : List ℕ} → Rising lo mid xs → Rising mid hi ys → Rising lo hi (xs ++ ys)
rising_append (no_more h) s = rising_lower h s
rising_append (then_on h r) s = then_on h (rising_append r s)

-- ---- the rows of a list of places

-- these are their rows, in rising order
record InOrder (s : Scope) (lo hi : ℕ) (ps : List Place) : Type 0 where
  rows : List ℕ
  are : map (row_of_operand s) ps ≡ map some rows
  rising : Rising lo hi rows

order_append : {s : Scope} {lo mid hi : ℕ} {ps qs : List Place} → InOrder s lo mid ps → InOrder s mid hi qs → InOrder s lo hi (ps ++ qs)
order_append {s} {ps = ps} {qs = qs} P Q =
    record {
      rows = P.rows ++ Q.rows;
      are = map-append (row_of_operand s) ps qs ∙ (ap₂ (λ (a b : List (Option ℕ)). a ++ b) P.are Q.are ∙ sym (map-append some P.rows Q.rows));
      rising = rising_append P.rising Q.rising;
    }

order_none : {s : Scope} {lo hi : ℕ} → lo ≤ hi → InOrder s lo hi []
order_none h = record { rows = []; are = refl; rising = no_more h }

order_lower : {s : Scope} {lo lo' hi : ℕ} {ps : List Place} → lo' ≤ lo → InOrder s lo hi ps → InOrder s lo' hi ps
order_lower l P = record { rows = P.rows; are = P.are; rising = rising_lower l P.rising }

-- ---- the operands of a field

pub row_is : (s : Scope) (p : Place) (x : Placed) (o : Operand) → field_at s p ≡ some x → get_elem? (head_of x.item).operands p.at ≡ some o → row_of_operand s p ≡ some (operand_row_at x p.at)
unfolding row_of_operand ◌then◌
row_is s p x o e₁ e₂ = rw (e₁, e₂)

take_next : (os : List Operand) (k : ℕ) (o : Operand) → get_elem? os k ≡ some o → length (operand_rows (take (suc k) os)) ≡ length (operand_rows (take k os)) + length (operand_row o)
unfolding operand_rows
take_next [] k o e = no_option o e
take_next (x ∷ os) zero o e = let a = length-append (operand_row x) [] in let b = ap (λ (y : Operand). length (operand_row y)) (some_same x o e) in omega (arith, a, b)
take_next (x ∷ os) (suc k) o e =
    let a = take_next os k o e in
    let b = length-append (operand_row x) (operand_rows (take (suc k) os)) in
    let c = length-append (operand_row x) (operand_rows (take k os)) in
    omega (arith, a, b, c)

-- the row behind an operand's is that of the next
pub operand_on : (x : Placed) (k : ℕ) (o : Operand) (row m : ℕ) → get_elem? (head_of x.item).operands k ≡ some o → row ≡ operand_row_at x k → length (operand_row o) ≡ suc m → row + 1 + m ≡ operand_row_at x (suc k)
unfolding operand_row_at
operand_on x k o row m e there long = let t = take_next (head_of x.item).operands k o e in omega (arith, t, there, long)

take_all : (os : List Operand) (k : ℕ) → get_elem? os k ≡ none → length (operand_rows (take k os)) ≡ length (operand_rows os)
unfolding operand_rows
take_all [] zero e = refl
take_all [] (suc k) e = refl
take_all (x ∷ os) zero e = no_option x (sym e)
take_all (x ∷ os) (suc k) e =
    let a = take_all os k e in
    let b = length-append (operand_row x) (operand_rows (take k os)) in
    let c = length-append (operand_row x) (operand_rows os) in
    omega (arith, a, b, c)

operands_order : (s : Scope) (w : List ℕ) (n k : ℕ) (x : Placed) (os : List Operand) → ((j : ℕ) → field_at s (record { way = w; field = n; at = j }) ≡ some x)
    → ((j : ℕ) → get_elem? (head_of x.item).operands (k + j) ≡ get_elem? os j)
    → InOrder s (operand_row_at x k) (x.row + length (head_rows (head_of x.item))) (places_at w n k os)
unfolding places_at operand_row_at
operands_order s w n k x [] at_field same =
    let h = head_of x.item in
    let e : get_elem? h.operands k ≡ none = ap (get_elem? h.operands) (omega arith) ∙ same 0 in
    let a = take_all h.operands k e in
    let b = head_length h in
    let c = decls_length h.decls in
    order_none (omega (arith, a, b, c))
operands_order s w n k x (o ∷ os) at_field same =
    let h = head_of x.item in
    let e : get_elem? h.operands k ≡ some o = ap (get_elem? h.operands) (omega arith) ∙ same 0 in
    let a = take_next h.operands k o e in
    let b = one_row o in
    let R = operands_order s w n (suc k) x os at_field (λ j. ap (get_elem? h.operands) (omega arith) ∙ same (suc j)) in
    record {
      rows = operand_row_at x k ∷ R.rows;
      are = ap₂ (λ (a : Option ℕ) (b : List (Option ℕ)). a ∷ b) (row_is s (record { way = w; field = n; at = k }) x o (at_field k) e) R.are;
      rising = then_on {lo = operand_row_at x k} {hi = x.row + length (head_rows h)} {r = operand_row_at x k} {rs = R.rows} (omega arith) (rising_lower {lo = operand_row_at x (suc k)} {lo' = suc (operand_row_at x k)} (omega (arith, a, b)) R.rising);
    }

-- ---- the fields of a scope

-- these are the fields from number `n` on of the scope at the end of a way, and the first of them is at `row`
pub record Rest (s : Scope) (f : Floor) (n row : ℕ) (fs : Fields) : Type 0 where
  pub own : AtItsWay s f
  pub same : (m : ℕ) → get_elem? (originals_from row fs) m ≡ get_elem? (originals_from f.row f.level.fields) (n + m)

-- the fields of a whole tree
pub all_fields : (s : Scope) → Rest s (floor (Readings.root s) 1) 0 1 (fields_of s)
unfolding floors_at floors Readings.root
all_fields s = record { own = ([], refl); same = λ m. ap (get_elem? (originals_from 1 (fields_of s))) (omega arith) }

pub place_field : {s : Scope} {f : Floor} {n row : ℕ} {fs : Fields} → Rest s f n row fs → (x : Placed) → get_elem? (originals_from row fs) 0 ≡ some x → (j : ℕ)
    → field_at s (record { way = f.level.way; field = n; at = j }) ≡ some x
place_field {s} {f} {n} R x e j =
    field_is s (record { way = f.level.way; field = n; at = j }) f R.own.0 x R.own.1
    (ap (get_elem? (originals_from f.row f.level.fields)) (omega arith) ∙ (sym (R.same 0) ∙ e))

pub rest_inserted : {s : Scope} {f : Floor} {n row : ℕ} {i : Item} {fs : Fields} → is_inserted (head_of i) ≡ true → Rest s f n row (i ▸ fs) → Rest s f n (row + length (item_rows i)) fs
unfolding originals_from when◌then◌else◌
rest_inserted b R = record { own = R.own; same = λ m. rw b at (R.same m) }

pub rest_original : {s : Scope} {f : Floor} {n row : ℕ} {i : Item} {fs : Fields} → is_inserted (head_of i) ≡ false → Rest s f n row (i ▸ fs) → Rest s f (suc n) (row + length (item_rows i)) fs
unfolding originals_from when◌then◌else◌
rest_original {f = f} b R =
    record { own = R.own; same = λ m. (rw b at (R.same (suc m))) ∙ ap (get_elem? (originals_from f.row f.level.fields)) (omega arith) }

pub first_is : (row : ℕ) (i : Item) (fs : Fields) → is_inserted (head_of i) ≡ false → get_elem? (originals_from row (i ▸ fs)) 0 ≡ some (record { row = row; item = i })
unfolding originals_from when◌then◌else◌
first_is row i fs b = rw b

-- the scope that a field holds
pub held_rest : {s : Scope} {f : Floor} {n row : ℕ} {i : Item} {fs : Fields} (gs : Fields) → is_inserted (head_of i) ≡ false → Readings.held i ≡ some gs → Rest s f n row (i ▸ fs)
    → Rest s (floor (level (f.level.way ++ (n ∷ [])) gs) (PlaceRows.inside_of (record { row = row; item = i }))) 0 (PlaceRows.inside_of (record { row = row; item = i })) gs
unfolding floors_at
held_rest {s} {f} {n} {row} {i} {fs} gs b h R =
    record {
      own = (
        _,
        floors_on f.level.way (floor (Readings.root s) 1) [] f R.own.0 n (record { row = row; item = i }) gs R.own.1
            (ap (get_elem? (originals_from f.row f.level.fields)) (omega arith) ∙ (sym (R.same 0) ∙ first_is row i fs b)) h,
      );
      same = λ m. ap (get_elem? (originals_from (PlaceRows.inside_of (record { row = row; item = i })) gs)) (omega arith);
    }

own_bound : (row : ℕ) (i : Item) → row + length (head_rows (head_of i)) ≤ row + length (item_rows i)
own_bound row i = let l = own_length i in omega (arith, l)

inside_order : (s : Scope) (w : List ℕ) (row : ℕ) (i : Item) (gs : Fields) → Readings.held i ≡ some gs
    → InOrder s (PlaceRows.inside_of (record { row = row; item = i })) (PlaceRows.inside_of (record { row = row; item = i }) + length (fields_rows gs)) (places_inside w i)
    → InOrder s (row + length (head_rows (head_of i))) (row + length (item_rows i)) (places_inside w i)
unfolding PlaceRows.inside_of
inside_order s w row i gs h P =
    let l = item_length i gs h in
    record { rows = P.rows; are = P.are; rising = rising_lower (omega arith) (rising_higher (omega (arith, l)) P.rising) }

choose : (s : Scope) (f : Floor) (n row : ℕ) (i : Item) (fs : Fields) → Rest s f n row (i ▸ fs) → (b : Bool) → is_inserted (head_of i) ≡ b
    → ((k : ℕ) → Rest s f k (row + length (item_rows i)) fs → InOrder s (row + length (item_rows i)) (row + length (item_rows i) + length (fields_rows fs)) (places_in f.level.way k fs))
    → (is_inserted (head_of i) ≡ false → InOrder s (row + length (head_rows (head_of i))) (row + length (item_rows i)) (places_inside (f.level.way ++ (n ∷ [])) i))
    → InOrder s row (row + length (item_rows i ++ fields_rows fs))
    (when b then places_in f.level.way n fs else places_at f.level.way n 0 (head_of i).operands ++ (places_inside (f.level.way ++ (n ∷ [])) i ++ places_in f.level.way (suc n) fs))
unfolding when◌then◌else◌ operand_row_at
choose s f n row i fs R b e below inside =
    let total : row + length (item_rows i) + length (fields_rows fs) ≡ row + length (item_rows i ++ fields_rows fs) = (let l = length-append (item_rows i) (fields_rows fs) in omega (arith, l)) in
    go b e total
  where
    go : (b : Bool) → is_inserted (head_of i) ≡ b → row + length (item_rows i) + length (fields_rows fs) ≡ row + length (item_rows i ++ fields_rows fs)
        → InOrder s row (row + length (item_rows i ++ fields_rows fs))
        (when b then places_in f.level.way n fs else places_at f.level.way n 0 (head_of i).operands ++ (places_inside (f.level.way ++ (n ∷ [])) i ++ places_in f.level.way (suc n) fs))
    go true e total =
        subst (λ (t : ℕ). InOrder s row t (places_in f.level.way n fs)) total (order_lower (omega arith) (below n (rest_inserted e R)))
    go false e total =
        let x : Placed = record { row = row; item = i } in
        let own = operands_order s f.level.way n 0 x (head_of i).operands (place_field R x (first_is row i fs e)) (λ j. ap (get_elem? (head_of i).operands) (omega arith)) in
        subst (λ (t : ℕ). InOrder s row t (places_at f.level.way n 0 (head_of i).operands ++ (places_inside (f.level.way ++ (n ∷ [])) i ++ places_in f.level.way (suc n) fs))) total
        (order_append (order_lower (omega arith) own) (order_append (inside e) (below (suc n) (rest_original e R))))

mutual
  unfolding places_in flatten head_of Readings.held

  fields_order : (fs : Fields) (s : Scope) (f : Floor) (n row : ℕ) → Rest s f n row fs → InOrder s row (row + length (fields_rows fs)) (places_in f.level.way n fs)
  fields_order end s f n row R = order_none (omega arith)
  fields_order (i ▸ fs) s f n row R = choose s f n row i fs R (is_inserted (head_of i)) refl (λ k Q. fields_order fs s f k (row + length (item_rows i)) Q) (λ b. item_order i s f n row fs b R)

  item_order : (i : Item) (s : Scope) (f : Floor) (n row : ℕ) (fs : Fields) → is_inserted (head_of i) ≡ false → Rest s f n row (i ▸ fs)
      → InOrder s (row + length (head_rows (head_of i))) (row + length (item_rows i)) (places_inside (f.level.way ++ (n ∷ [])) i)
  item_order (plain h) s f n row fs b R = order_none (own_bound row (plain h))
  item_order (holds h t) s f n row fs b R =
      inside_order s (f.level.way ++ (n ∷ [])) row (holds h t) (fields_of t) refl
      (scope_order t s (f.level.way ++ (n ∷ [])) (PlaceRows.inside_of (record { row = row; item = holds h t })) (held_rest (fields_of t) b refl R))

  scope_order : (t s : Scope) (w : List ℕ) (row : ℕ) → Rest s (floor (level w (fields_of t)) row) 0 row (fields_of t) → InOrder s row (row + length (fields_rows (fields_of t))) (places_of w t)
  scope_order (scope kind name fs) s w row R = fields_order fs s (floor (level w fs) row) 0 row R

-- The places of a tree's operands are listed in row order, each once: their rows rise.
pub places_rise : (s : Scope) → (rows : List ℕ) × (map (row_of_operand s) (places s) ≡ map some rows) × Rising 0 (length (flatten s)) rows
unfolding places places_in flatten floors_at floors Readings.root
places_rise (scope kind name fs) =
    let P = fields_order fs (scope kind name fs) (floor (Readings.root (scope kind name fs)) 1) 0 1 (record { own = ([], refl); same = λ m. ap (get_elem? (originals_from 1 fs)) (omega arith) }) in
    (P.rows, P.are, rising_lower (omega arith) (above P.rising))
  where
    above : {rs : List ℕ} → Rising 1 (1 + length (fields_rows fs)) rs → Rising 1 (suc (length (fields_rows fs ++ (Close ∷ [])))) rs
    above r = let l = length-append (fields_rows fs) (Close ∷ []) in rising_higher (omega (arith, l)) r
