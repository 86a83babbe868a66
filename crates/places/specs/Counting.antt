-- Rows of places: the scopes and declarations that have rows are those of the readings.
use Rattle.std.specs.Prelude.{◌≡◌, refl, Bool, true, false, List, [], ◌∷◌, ◌++◌, map, ℕ, zero, suc, ◌+◌, eqb, length}
use Rattle.std.proofs.Common.{ap, sym, ◌∙◌}
use Rattle.std.proofs.Math.Option
use Rattle.std.proofs.Math.Option.{Option, none, some}
use Rattle.std.proofs.Math.ListN.{get_elem?}
use Rattle.rules.specs.Tools.{when◌then◌else◌, ◌then◌}
use Rattle.rules.specs.Tree.{Scope, Fields, end, ◌▸◌, Item, head_of, item_rows}
use Rattle.rules.specs.Readings
use Rattle.rules.specs.Readings.{is_inserted, originals, Level, level, Standing, Spot, in_original, in_inserted, standings, of_space, counted}
use Rattle.places.specs.PlaceRows
use Rattle.places.specs.PlaceRows.{Placed, originals_from, Floor, floor, floors, floors_at, Located, in_rows, located, located_of, counted_row}
use Rattle.rules.specs.Laws.ToolLaws.{All, done, ◌&◌}

-- ---- lists

-- an element of a mapped list is that element, mapped
pub elem_map : {A B : Type 0} (g : A → B) (xs : List A) (n : ℕ) → get_elem? (map g xs) n ≡ Option.map g (get_elem? xs n)
elem_map g [] n = refl
elem_map g (x ∷ xs) zero = refl
elem_map g (x ∷ xs) (suc n) = elem_map g xs n

-- a list put together of two is mapped part by part
pub map-append : {A B : Type 0} (g : A → B) (xs ys : List A) → map g (xs ++ ys) ≡ map g xs ++ map g ys
map-append g [] ys = refl
map-append {B = B} g (x ∷ xs) ys = ap {B = List B} (λ l. g x ∷ l) (map-append g xs ys)

-- ---- the scopes around a place

-- these scopes without their rows
abbrev pub levels : List Floor → List Level
levels fs = map (λ (f : Floor). f.level) fs

-- these fields without their rows
abbrev pub items : List Placed → List Item
items ps = map (λ (p : Placed). p.item) ps

-- with their rows left out, the original fields are those of the readings
pub originals_from_lem : (row : ℕ) (fs : Fields) → items (originals_from row fs) ≡ originals fs
unfolding originals_from originals when◌then◌else◌
originals_from_lem row end = refl
originals_from_lem row (i ▸ fs) = go (is_inserted (head_of i)) (originals_from_lem (row + length (item_rows i)) fs)
  where
    go : (b : Bool) → items (originals_from (row + length (item_rows i)) fs) ≡ originals fs
        → items (when b then originals_from (row + length (item_rows i)) fs else record { row = row; item = i } ∷ originals_from (row + length (item_rows i)) fs)
        ≡ (when b then originals fs else i ∷ originals fs)
    go true e = e
    go false e = ap {B = List Item} (λ l. i ∷ l) e

-- so are the scopes around a place, from any scope on
pub floors_around : (way : List ℕ) (f : Floor) (outside : List Floor) → Option.map levels (floors way f outside) ≡ Readings.around way f.level (levels outside)
unfolding floors Readings.around ◌then◌
floors_around [] f outside = refl
floors_around (n ∷ way) f outside =
    rw (← originals_from_lem f.row f.level.fields, elem_map (λ (p : Placed). p.item) (originals_from f.row f.level.fields) n)
    (go (get_elem? (originals_from f.row f.level.fields) n) (λ g. floors_around way g (f ∷ outside)))
  where
    inner : ((g : Floor) → Option.map levels (floors way g (f ∷ outside)) ≡ Readings.around way g.level (levels (f ∷ outside))) → (i : Placed) (o : Option Fields)
        → Option.map levels (o then λ fs. floors way (floor (level (f.level.way ++ (n ∷ [])) fs) (PlaceRows.inside_of i)) (f ∷ outside))
        ≡ (o then λ fs. Readings.around way (level (f.level.way ++ (n ∷ [])) fs) (f.level ∷ levels outside))
    inner below i none = refl
    inner below i (some fs) = below (floor (level (f.level.way ++ (n ∷ [])) fs) (PlaceRows.inside_of i))

    go : (o : Option Placed) → ((g : Floor) → Option.map levels (floors way g (f ∷ outside)) ≡ Readings.around way g.level (levels (f ∷ outside)))
        → Option.map levels (o then λ i. Readings.held i.item then λ fs. floors way (floor (level (f.level.way ++ (n ∷ [])) fs) (PlaceRows.inside_of i)) (f ∷ outside))
        ≡ (Option.map (λ (p : Placed). p.item) o then λ i. Readings.held i then λ fs. Readings.around way (level (f.level.way ++ (n ∷ [])) fs) (f.level ∷ levels outside))
    go none below = refl
    go (some i) below = inner below i (Readings.held i.item)

-- With their rows left out they are those of the readings.
pub floors_at_lem : (s : Scope) (way : List ℕ) → Option.map levels (floors_at s way) ≡ Readings.around way (Readings.root s) []
unfolding floors_at
floors_at_lem s way = floors_around way (floor (Readings.root s) 1) []

-- ---- the declarations of a scope

-- where a declaration stands, without its row
abbrev pub standing : Located → Standing
standing x = x.standing

rows_standing : (row : ℕ) (ss : List Standing) → map standing (in_rows row ss) ≡ ss
unfolding in_rows
rows_standing row [] = refl
rows_standing row (s ∷ ss) = ap {B = List Standing} (λ l. s ∷ l) (rows_standing (suc row) ss)

-- with their rows left out, the declarations of a scope are those of the readings
pub located_standings : (row n : ℕ) (fs : Fields) → map standing (located row n fs) ≡ standings n fs
unfolding located standings
located_standings row n end = refl
located_standings row n (i ▸ fs) =
    map-append standing (in_rows (suc row) own) _
    ∙ (ap {B = List Standing} (λ l. l ++ map standing (located (row + length (item_rows i)) next fs)) (rows_standing (suc row) own)
    ∙ ap {B = List Standing} (λ l. own ++ l) (located_standings (row + length (item_rows i)) next fs))
  where
    own : List Standing
    own = when is_inserted (head_of i) then in_inserted (head_of i) (head_of i).decls else in_original n 0 (head_of i).decls

    next : ℕ
    next = when is_inserted (head_of i) then n else suc n

-- what holds of all holds of those of a space
pub of_space_all : {P : Located → Type 0} (xs : List Located) (space : ℕ) → All P xs → All P (located_of xs space)
unfolding located_of when◌then◌else◌
of_space_all [] space a = done
of_space_all {P} (x ∷ xs) space (h & a) = go (eqb x.standing.decl.space space) (of_space_all xs space a)
  where
    go : (b : Bool) → All P (located_of xs space) → All P (when b then x ∷ located_of xs space else located_of xs space)
    go true r = h & r
    go false r = r

-- the spot of a declaration that has a row
abbrev pub spot_of : Located → Spot
spot_of x = x.standing.spot

of_space_lem : (xs : List Located) (space : ℕ) → map spot_of (located_of xs space) ≡ of_space (map standing xs) space
unfolding located_of of_space when◌then◌else◌
of_space_lem [] space = refl
of_space_lem (x ∷ xs) space = go (eqb x.standing.decl.space space) (of_space_lem xs space)
  where
    go : (b : Bool) → map spot_of (located_of xs space) ≡ of_space (map standing xs) space
        → map spot_of (when b then x ∷ located_of xs space else located_of xs space) ≡ (when b then x.standing.spot ∷ of_space (map standing xs) space else of_space (map standing xs) space)
    go true e = ap {B = List Spot} (λ l. x.standing.spot ∷ l) e
    go false e = e

-- Counting with rows counts as the readings do.
pub counted_row_lem : (f : Floor) (space n : ℕ) → Option.map spot_of (counted_row f space n) ≡ counted f.level space n
unfolding counted_row counted
counted_row_lem f space n =
    sym (elem_map spot_of (located_of (located f.row 0 f.level.fields) space) n)
    ∙ ap (λ (l : List Spot). get_elem? l n) (of_space_lem (located f.row 0 f.level.fields) space ∙ ap (λ (l : List Standing). of_space l space) (located_standings f.row 0 f.level.fields))
