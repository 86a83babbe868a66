-- A declaration that counting finds in an original field is the one at its place, with that place's row.
use Rattle.std.specs.Prelude.{◌≡◌, refl, Bool, true, false, List, [], ◌∷◌, ◌++◌, ℕ, suc, ◌+◌, length}
use Rattle.std.proofs.Common.{ap, sym, ◌∙◌, subst, arith}
use Rattle.std.proofs.Math.Option.{Option, some}
use Rattle.std.proofs.Math.ListN.{get_elem?}
use Rattle.rules.specs.Tools.{when◌then◌else◌, ◌then◌}
use Rattle.rules.specs.Tree.{Declaration, Head, Scope, Fields, end, ◌▸◌, Item, head_of, item_rows}
use Rattle.rules.specs.Readings
use Rattle.rules.specs.Readings.{is_inserted, Place, level, Spot, original, inserted, in_original, in_inserted, place}
use Rattle.places.specs.PlaceRows
use Rattle.places.specs.PlaceRows.{Placed, originals_from, Floor, floor, floors, floors_at, field_in, field_at, decl_at, row_of_decl, decl_row, Located, in_rows, located, counted_row}
use Rattle.rules.specs.Laws.ToolLaws.{then_some, All, done, ◌&◌, all_append, all_map}
use Rattle.rules.specs.Laws.Results.{some_same, no_option}
use Rattle.places.specs.Counting.{of_space_all}
use Rattle.places.proofs.RowAt.{all_at}

-- ---- a scope around a place is at the end of its own way

floor_step : (n : ℕ) (way : List ℕ) (f : Floor) (outside : List Floor) (i : Placed) (gs : Fields) (fs : List Floor) → get_elem? (originals_from f.row f.level.fields) n ≡ some i → Readings.held i.item ≡ some gs
    → floors way (floor (level (f.level.way ++ (n ∷ [])) gs) (PlaceRows.inside_of i)) (f ∷ outside) ≡ some fs → floors (n ∷ way) f outside ≡ some fs
unfolding floors ◌then◌
floor_step n way f outside i gs fs e₁ e₂ e₃ = rw (e₁, e₂) e₃

-- one step further: the scopes around the scope that field `n` of the last one holds
pub floors_on : (w : List ℕ) (g : Floor) (outside : List Floor) (f : Floor) (rest : List Floor) (n : ℕ) (i : Placed) (gs : Fields) → floors w g outside ≡ some (f ∷ rest)
    → get_elem? (originals_from f.row f.level.fields) n ≡ some i → Readings.held i.item ≡ some gs
    → floors (w ++ (n ∷ [])) g outside ≡ some (floor (level (f.level.way ++ (n ∷ [])) gs) (PlaceRows.inside_of i) ∷ (f ∷ rest))
unfolding floors
floors_on [] g outside f rest n i gs e e₁ e₂ =
    let same : g ∷ outside ≡ f ∷ rest = some_same _ _ e in
    let head : g ≡ f = cc in
    let tail : outside ≡ rest = cc in
    floor_step n [] g outside i gs _ (rw head e₁) e₂ (rw (head, tail))
floors_on (m ∷ w) g outside f rest n i gs e e₁ e₂ =
    let s₁ = then_some (get_elem? (originals_from g.row g.level.fields) m) _ (f ∷ rest) e in
    let s₂ = then_some (Readings.held s₁.0.item) _ (f ∷ rest) s₁.2 in
    floor_step m (w ++ (n ∷ [])) g outside s₁.0 s₂.0 _ s₁.1 s₂.1 (floors_on w _ (g ∷ outside) f rest n i gs s₂.2 e₁ e₂)

-- the scope at the end of its own way
abbrev pub AtItsWay : Scope → Floor → Type 0
AtItsWay s f = (rest : List Floor) × (floors_at s f.level.way ≡ some (f ∷ rest))

own_ways : (s : Scope) (way : List ℕ) (f : Floor) (outside fs : List Floor) → floors way f outside ≡ some fs → AtItsWay s f → All (AtItsWay s) outside → All (AtItsWay s) fs
unfolding floors floors_at
own_ways s [] f outside fs e a around_it = subst (All (AtItsWay s)) (some_same _ fs e) (a & around_it)
own_ways s (n ∷ way) f outside fs e a around_it =
    let s₁ = then_some (get_elem? (originals_from f.row f.level.fields) n) _ fs e in
    let s₂ = then_some (Readings.held s₁.0.item) _ fs s₁.2 in
    own_ways s way _ (f ∷ outside) fs s₂.2 (_, floors_on f.level.way (floor (Readings.root s) 1) [] f a.0 n s₁.0 s₂.0 a.1 s₁.1 s₂.1) (a & around_it)

-- each scope around a place is at the end of its own way
pub all_at_own_way : (s : Scope) (way : List ℕ) (fs : List Floor) → floors_at s way ≡ some fs → All (AtItsWay s) fs
unfolding floors_at floors Readings.root
all_at_own_way s way fs e = own_ways s way _ [] fs e ([], refl) done

-- ---- a declaration in an original field

-- `d` at row `r` is that of an original field, where the first field is at `row` and `n` original fields stand before these
abbrev pub SpotAt : (row n : ℕ) → Fields → Spot → Declaration → (r : ℕ) → Type 0
SpotAt row n fs (original field at) d r =
    (m : ℕ) × (x : Placed) × (field ≡ n + m) × (get_elem? (originals_from row fs) m ≡ some x) × (get_elem? (head_of x.item).decls at ≡ some d) × (r ≡ suc (x.row + at))
SpotAt row n fs (inserted h) d r = Unit {0}

-- the same of a declaration that has a row
abbrev pub LocatedIn : (row n : ℕ) → Fields → Located → Type 0
LocatedIn row n fs x = SpotAt row n fs x.standing.spot x.standing.decl x.row

own_original : (row n m : ℕ) (i : Item) (fs : Fields) (ds : List Declaration) → is_inserted (head_of i) ≡ false → ((k : ℕ) → get_elem? (head_of i).decls (m + k) ≡ get_elem? ds k)
    → All (LocatedIn row n (i ▸ fs)) (in_rows (suc (row + m)) (in_original n m ds))
unfolding in_rows in_original originals_from when◌then◌else◌
own_original row n m i fs [] b h = done
own_original row n m i fs (d ∷ ds) b h =
    let first : get_elem? (head_of i).decls m ≡ some d = ap (get_elem? (head_of i).decls) (omega arith) ∙ h 0 in
    let next : suc (suc (row + m)) ≡ suc (row + suc m) = omega arith in
    let this : SpotAt row n (i ▸ fs) (original n m) d (suc (row + m)) = (0, record { row = row; item = i }, omega arith, rw b, first, refl) in
    this
    & subst (λ (r : ℕ). All (LocatedIn row n (i ▸ fs)) (in_rows r (in_original n (suc m) ds))) (sym next)
    (own_original row n (suc m) i fs ds b (λ k. ap (get_elem? (head_of i).decls) (omega arith) ∙ h (suc k)))

own_inserted : (row n r : ℕ) (fs : Fields) (h : Head) (ds : List Declaration) → All (LocatedIn row n fs) (in_rows r (in_inserted h ds))
unfolding in_rows in_inserted
own_inserted row n r fs h [] = done
own_inserted row n r fs h (d ∷ ds) = tt & own_inserted row n (suc r) fs h ds

behind_original : (row n : ℕ) (i : Item) (fs : Fields) → is_inserted (head_of i) ≡ false → (s : Spot) (d : Declaration) (r : ℕ) → SpotAt (row + length (item_rows i)) (suc n) fs s d r → SpotAt row n (i ▸ fs) s d r
unfolding originals_from when◌then◌else◌
behind_original row n i fs b (original field at) d r (m, x, e₁, e₂, e₃, e₄) = (suc m, x, omega (arith, e₁), rw b e₂, e₃, e₄)
behind_original row n i fs b (inserted h) d r t = tt

behind_inserted : (row n : ℕ) (i : Item) (fs : Fields) → is_inserted (head_of i) ≡ true → (s : Spot) (d : Declaration) (r : ℕ) → SpotAt (row + length (item_rows i)) n fs s d r → SpotAt row n (i ▸ fs) s d r
unfolding originals_from when◌then◌else◌
behind_inserted row n i fs b (original field at) d r (m, x, e₁, e₂, e₃, e₄) = (m, x, e₁, rw b e₂, e₃, e₄)
behind_inserted row n i fs b (inserted h) d r t = tt

-- so it is for every declaration of these fields
pub located_in : (row n : ℕ) (fs : Fields) → All (LocatedIn row n fs) (located row n fs)
unfolding located when◌then◌else◌
located_in row n end = done
located_in row n (i ▸ fs) = go (is_inserted (head_of i)) refl (λ k. located_in (row + length (item_rows i)) k fs)
  where
    zeroth : suc row ≡ suc (row + 0)
    zeroth = omega arith

    go : (b : Bool) → is_inserted (head_of i) ≡ b → ((k : ℕ) → All (LocatedIn (row + length (item_rows i)) k fs) (located (row + length (item_rows i)) k fs))
        → All (LocatedIn row n (i ▸ fs))
        (in_rows (suc row) (when b then in_inserted (head_of i) (head_of i).decls else in_original n 0 (head_of i).decls) ++ located (row + length (item_rows i)) (when b then n else suc n) fs)
    go true b below =
        all_append _ _ (own_inserted row n (suc row) (i ▸ fs) (head_of i) (head_of i).decls)
        (all_map _ (λ x. behind_inserted row n i fs b x.standing.spot x.standing.decl x.row) (below n))
    go false b below =
        all_append _ _
        (subst (λ (r : ℕ). All (LocatedIn row n (i ▸ fs)) (in_rows r (in_original n 0 (head_of i).decls))) (sym zeroth) (own_original row n 0 i fs (head_of i).decls b (λ k. ap (get_elem? (head_of i).decls) (omega arith))))
        (all_map _ (λ x. behind_original row n i fs b x.standing.spot x.standing.decl x.row) (below (suc n)))

-- ---- so it is the one at its place

-- the field of a place, by the scopes around it
pub field_is : (s : Scope) (p : Place) (f : Floor) (rest : List Floor) (x : Placed) → floors_at s p.way ≡ some (f ∷ rest) → get_elem? (originals_from f.row f.level.fields) p.field ≡ some x → field_at s p ≡ some x
unfolding field_at field_in ◌then◌
field_is s p f rest x e₁ e₂ = rw e₁ e₂

decl_is : (s : Scope) (p : Place) (x : Placed) (d : Declaration) → field_at s p ≡ some x → get_elem? (head_of x.item).decls p.at ≡ some d → (decl_at s p ≡ some d) × (row_of_decl s p ≡ some (suc (x.row + p.at)))
unfolding decl_at row_of_decl decl_row ◌then◌
decl_is s p x d e₁ e₂ = (rw e₁ e₂, rw (e₁, e₂))

-- an entry of a scope's declarations in an original field
pub entry_place : (s : Scope) (f : Floor) (x : Located) (p : Place) → AtItsWay s f → LocatedIn f.row 0 f.level.fields x → place f.level x.standing.spot ≡ some p
    → (decl_at s p ≡ some x.standing.decl) × (row_of_decl s p ≡ some x.row)
unfolding place
entry_place s f x p own t e = go x.standing.spot e t
  where
    go : (spot : Spot) → place f.level spot ≡ some p → SpotAt f.row 0 f.level.fields spot x.standing.decl x.row → (decl_at s p ≡ some x.standing.decl) × (row_of_decl s p ≡ some x.row)
    go (inserted h) e t = no_option p e
    go (original field at) e (m, y, q₁, q₂, q₃, q₄) =
        let q : get_elem? (originals_from f.row f.level.fields) field ≡ some y = ap (get_elem? (originals_from f.row f.level.fields)) (omega (arith, q₁)) ∙ q₂ in
        let here : Place = record { way = f.level.way; field = field; at = at } in
        let D = decl_is s here y x.standing.decl (field_is s here f own.0 y own.1 q) q₃ in
        subst (λ (z : Place). (decl_at s z ≡ some x.standing.decl) × (row_of_decl s z ≡ some x.row)) (some_same here p e) (D.0, D.1 ∙ ap {B = Option ℕ} some (sym q₄))

-- A declaration that counting finds in an original field of a scope around a place: it is the one at its own place, and its row is that place's.
pub located_place : (s : Scope) (f : Floor) (space n : ℕ) (x : Located) (p : Place) → AtItsWay s f → counted_row f space n ≡ some x → place f.level x.standing.spot ≡ some p
    → (decl_at s p ≡ some x.standing.decl) × (row_of_decl s p ≡ some x.row)
unfolding counted_row
located_place s f space n x p own e₃ e₄ = entry_place s f x p own (all_at _ n x (of_space_all _ space (located_in f.row 0 f.level.fields)) e₃) e₄
