-- The answers do not depend on places that no slot names: with other ones in their stead, in the input and in the output, they are the same.
use Rattle.std.specs.Prelude.{◌≡◌, Bool, eqb}
use Rattle.std.proofs.Math.Path.{refl, ap, ap₂, sym}
use Rattle.std.proofs.Common.{◌∙◌}
use Rattle.std.proofs.Math.Bool.{true, false}
use Rattle.std.proofs.Math.Option
use Rattle.std.proofs.Math.Option.{Option, none, some}
use mathlib.Core.List.{List, [], ◌∷◌, ◌++◌, map}
use Prim.Native.Nat.{ℕ, suc, ◌+◌}
use native.Mathlib.Omega.{arith}
use Rattle.std.proofs.Math.ListN.{length, get_elem?, length-append}
use Rattle.rules.specs.Tools.{when◌then◌else◌, only, ◌then◌}
use Rattle.rules.specs.Rows.{Row, Num, Id}
use Rattle.rules.specs.Tree.{Declaration, Operand, ref, outer, case, Head, Scope, scope, Fields, end, ◌▸◌, Item, plain, holds, head_of, decl_rows, operand_row, operand_rows, head_rows, export_rows, flatten, fields_rows, item_rows}
use Rattle.rules.specs.Readings
use Rattle.rules.specs.Readings.{any_fresh, is_inserted, originals, Place, Level, level, held, Use, use_in, use_at, Standing, Spot, original, inserted, in_original, in_inserted}
use Rattle.places.specs.PlaceRows.{Placed, originals_from, Floor, floor, inside_of, floors, floors_at, Located, in_rows, located, located_of, counted_row}
use Rattle.moving.specs.Moved
use Rattle.moving.specs.Moved.{places_at, places_in, places, if_any, collect}
use Rattle.binding.specs.Sheet.{Slot, Binding, is_ref_at, ref_at, refs_at, outer_to, follow, reached_from, reached, bound_to, bound, binding, bindings}
use Rattle.rules.specs.Laws.ToolLaws.{All, done, ◌&◌}
use Rattle.places.specs.Counting.{elem_map, map-append}

-- ---- a tree with other places

module _ (to : ℕ → ℕ) where
  unfoldable pub placed_decl : Declaration → Declaration
  placed_decl d = record { space = d.space; name = d.name; z = to d.z }

  unfoldable pub placed_operand : Operand → Operand
  placed_operand (ref space at paths z) = ref space at paths (to z)
  placed_operand (outer space up at z) = outer space up at (to z)
  placed_operand (case name z) = case name (to z)

  unfoldable pub placed_head : Head → Head
  placed_head h =
      record { code = h.code; builtin = h.builtin; z = to h.z; decls = map placed_decl h.decls; operands = map placed_operand h.operands; export = h.export }

  unfoldable mutual
    pub placed : Scope → Scope
    placed (scope kind name fs) = scope kind name (placed_fields fs)

    pub placed_fields : Fields → Fields
    placed_fields end = end
    placed_fields (i ▸ fs) = placed_item i ▸ placed_fields fs

    pub placed_item : Item → Item
    placed_item (plain h) = plain (placed_head h)
    placed_item (holds h s) = holds (placed_head h) (placed s)

  -- ---- what is made of it

  abbrev level_to : Level → Level
  level_to l = level l.way (placed_fields l.fields)

  abbrev floor_to : Floor → Floor
  floor_to f = floor (level_to f.level) f.row

  abbrev field_to : Placed → Placed
  field_to x = record { row = x.row; item = placed_item x.item }

  abbrev spot_to : Spot → Spot
  spot_to (original field at) = original field at
  spot_to (inserted h) = inserted (placed_head h)

  abbrev standing_to : Standing → Standing
  standing_to s = record { decl = placed_decl s.decl; spot = spot_to s.spot }

  abbrev located_to : Located → Located
  located_to x = record { standing = standing_to x.standing; row = x.row }

  abbrev use_to : Use → Use
  use_to u = record { levels = map level_to u.levels; head = placed_head u.head; operand = placed_operand u.operand }

  -- ---- fields and their rows

  fresh_same : (ds : List Declaration) → any_fresh (map placed_decl ds) ≡ any_fresh ds
  unfolding any_fresh placed_decl
  fresh_same [] = refl
  fresh_same (d ∷ ds) = rw (fresh_same ds)

  head_inserted : (h : Head) → is_inserted (placed_head h) ≡ is_inserted h
  unfolding is_inserted placed_head
  head_inserted h = fresh_same h.decls

  head_of_lem : (i : Item) → head_of (placed_item i) ≡ placed_head (head_of i)
  unfolding head_of placed
  head_of_lem (plain h) = refl
  head_of_lem (holds h s) = refl

  item_inserted : (i : Item) → is_inserted (head_of (placed_item i)) ≡ is_inserted (head_of i)
  item_inserted i = ap is_inserted (head_of_lem i) ∙ head_inserted (head_of i)

  decls_long_lem : (ds : List Declaration) → length (decl_rows (map placed_decl ds)) ≡ length (decl_rows ds)
  unfolding decl_rows
  decls_long_lem [] = refl
  decls_long_lem (d ∷ ds) = ap suc (decls_long_lem ds)

  operand_long_lem : (o : Operand) → length (operand_row (placed_operand o)) ≡ length (operand_row o)
  unfolding operand_row placed_operand
  operand_long_lem (ref space at paths z) = refl
  operand_long_lem (outer space up at z) = refl
  operand_long_lem (case name z) = refl

  operands_long_lem : (os : List Operand) → length (operand_rows (map placed_operand os)) ≡ length (operand_rows os)
  unfolding operand_rows
  operands_long_lem [] = refl
  operands_long_lem (o ∷ os) =
      omega (
        arith,
        length-append (operand_row (placed_operand o)) (operand_rows (map placed_operand os)),
        length-append (operand_row o) (operand_rows os),
        operand_long_lem o,
        operands_long_lem os,
      )

  head_long_lem : (h : Head) → length (head_rows (placed_head h)) ≡ length (head_rows h)
  unfolding head_rows placed_head
  head_long_lem h =
      let ds = decl_rows h.decls in
      let os = operand_rows h.operands in
      let ds' = decl_rows (map placed_decl h.decls) in
      let os' = operand_rows (map placed_operand h.operands) in
      let ex = export_rows h.export in
      omega (
        arith,
        length-append ds' (os' ++ ex),
        length-append os' ex,
        length-append ds (os ++ ex),
        length-append os ex,
        decls_long_lem h.decls,
        operands_long_lem h.operands,
      )

  plus : (xs ys zs ws : List Row) → length xs ≡ length zs → length ys ≡ length ws → length (xs ++ ys) ≡ length (zs ++ ws)
  plus xs ys zs ws p q = omega (arith, length-append xs ys, length-append zs ws, p, q)

  mutual
    unfolding flatten placed

    scope_long_lem : (s : Scope) → length (flatten (placed s)) ≡ length (flatten s)
    scope_long_lem (scope kind name fs) = ap suc (plus (fields_rows (placed_fields fs)) _ (fields_rows fs) _ (fields_long_lem fs) refl)

    fields_long_lem : (fs : Fields) → length (fields_rows (placed_fields fs)) ≡ length (fields_rows fs)
    fields_long_lem end = refl
    fields_long_lem (i ▸ fs) = plus (item_rows (placed_item i)) (fields_rows (placed_fields fs)) (item_rows i) (fields_rows fs) (item_long_lem i) (fields_long_lem fs)

    item_long_lem : (i : Item) → length (item_rows (placed_item i)) ≡ length (item_rows i)
    item_long_lem (plain h) = head_long_lem h
    item_long_lem (holds h s) = plus (head_rows (placed_head h)) (flatten (placed s)) (head_rows h) (flatten s) (head_long_lem h) (scope_long_lem s)

  -- ---- places

  items_same : (fs : Fields) → originals (placed_fields fs) ≡ map placed_item (originals fs)
  unfolding originals placed when◌then◌else◌
  items_same end = refl
  items_same (i ▸ fs) = ap (λ (b : Bool). when b then originals (placed_fields fs) else placed_item i ∷ originals (placed_fields fs)) (item_inserted i) ∙ go (is_inserted (head_of i)) (items_same fs)
    where
      go : (b : Bool) → originals (placed_fields fs) ≡ map placed_item (originals fs)
          → (when b then originals (placed_fields fs) else placed_item i ∷ originals (placed_fields fs)) ≡ map placed_item (when b then originals fs else i ∷ originals fs)
      go true e = e
      go false e = ap (λ (l : List Item). placed_item i ∷ l) e

  fields_same : (row : ℕ) (fs : Fields) → originals_from row (placed_fields fs) ≡ map field_to (originals_from row fs)
  unfolding originals_from placed when◌then◌else◌
  fields_same row end = refl
  fields_same row (i ▸ fs) =
      ap₂ (λ (b : Bool) (n : ℕ). when b then originals_from (row + n) (placed_fields fs) else record { row = row; item = placed_item i } ∷ originals_from (row + n) (placed_fields fs)) (item_inserted i) (item_long_lem i)
      ∙ go (is_inserted (head_of i)) (fields_same (row + length (item_rows i)) fs)
    where
      go : (b : Bool) → originals_from (row + length (item_rows i)) (placed_fields fs) ≡ map field_to (originals_from (row + length (item_rows i)) fs)
          → (when b then originals_from (row + length (item_rows i)) (placed_fields fs) else record { row = row; item = placed_item i } ∷ originals_from (row + length (item_rows i)) (placed_fields fs))
          ≡ map field_to (when b then originals_from (row + length (item_rows i)) fs else record { row = row; item = i } ∷ originals_from (row + length (item_rows i)) fs)
      go true e = e
      go false e = ap (λ (l : List Placed). record { row = row; item = placed_item i } ∷ l) e

  held_same : (i : Item) → held (placed_item i) ≡ Option.map placed_fields (held i)
  unfolding held placed
  held_same (plain h) = refl
  held_same (holds h (scope kind name fs)) = refl

  around_same : (way : List ℕ) (l : Level) (outside : List Level) → Readings.around way (level_to l) (map level_to outside) ≡ Option.map (map level_to) (Readings.around way l outside)
  unfolding Readings.around ◌then◌
  around_same [] l outside = refl
  around_same (n ∷ way) l outside = rw (items_same, elem_map) (go (get_elem? (originals l.fields) n) (λ k. around_same way k (l ∷ outside)))
    where
      inner : ((k : Level) → Readings.around way (level_to k) (map level_to (l ∷ outside)) ≡ Option.map (map level_to) (Readings.around way k (l ∷ outside))) → (o : Option Fields)
          → (Option.map placed_fields o then λ fs. Readings.around way (level (l.way ++ (n ∷ [])) fs) (map level_to (l ∷ outside)))
          ≡ Option.map (map level_to) (o then λ fs. Readings.around way (level (l.way ++ (n ∷ [])) fs) (l ∷ outside))
      inner below none = refl
      inner below (some fs) = below (level (l.way ++ (n ∷ [])) fs)

      go : (o : Option Item) → ((k : Level) → Readings.around way (level_to k) (map level_to (l ∷ outside)) ≡ Option.map (map level_to) (Readings.around way k (l ∷ outside)))
          → (Option.map placed_item o then λ i. held i then λ fs. Readings.around way (level (l.way ++ (n ∷ [])) fs) (map level_to (l ∷ outside)))
          ≡ Option.map (map level_to) (o then λ i. held i then λ fs. Readings.around way (level (l.way ++ (n ∷ [])) fs) (l ∷ outside))
      go none below = refl
      go (some i) below = rw held_same (inner below (held i))

  use_in_same : (ls : List Level) (field at : ℕ) → use_in (map level_to ls) field at ≡ Option.map use_to (use_in ls field at)
  unfolding use_in ◌then◌ placed_head
  use_in_same [] field at = refl
  use_in_same (l ∷ ls) field at = rw (items_same, elem_map) (go (get_elem? (originals l.fields) field))
    where
      inner : (h : Head) (o : Option Operand)
          → (Option.map placed_operand o then λ x. some (record { levels = map level_to (l ∷ ls); head = placed_head h; operand = x })) ≡ Option.map use_to (o then λ x. some (record { levels = l ∷ ls; head = h; operand = x }))
      inner h none = refl
      inner h (some o) = refl

      operands : (h : Head) → get_elem? (placed_head h).operands at ≡ Option.map placed_operand (get_elem? h.operands at)
      operands h = elem_map placed_operand h.operands at

      go : (o : Option Item)
          → (Option.map placed_item o then λ i. get_elem? (head_of i).operands at then λ x. some (record { levels = map level_to (l ∷ ls); head = head_of i; operand = x }))
          ≡ Option.map use_to (o then λ i. get_elem? (head_of i).operands at then λ x. some (record { levels = l ∷ ls; head = head_of i; operand = x }))
      go none = refl
      go (some i) = rw (head_of_lem, operands) (inner (head_of i) (get_elem? (head_of i).operands at))

  use_same : (s : Scope) (p : Place) → use_at (placed s) p ≡ Option.map use_to (use_at s p)
  unfolding Readings.use_inside placed ◌then◌
  use_same (scope kind name fs) p =
      ap (λ (o : Option (List Level)). o then λ ls. use_in ls p.field p.at) (around_same p.way (level [] fs) []) ∙ go (Readings.around p.way (level [] fs) [])
    where
      go : (o : Option (List Level)) → (Option.map (map level_to) o then λ ls. use_in ls p.field p.at) ≡ Option.map use_to (o then λ ls. use_in ls p.field p.at)
      go none = refl
      go (some ls) = use_in_same ls p.field p.at

  -- ---- what is reached

  inside_same : (x : Placed) → inside_of (field_to x) ≡ inside_of x
  unfolding inside_of
  inside_same x = ap (λ (h : Head). suc (x.row + length (head_rows h))) (head_of_lem x.item) ∙ ap (λ (n : ℕ). suc (x.row + n)) (head_long_lem (head_of x.item))

  floors_same : (way : List ℕ) (f : Floor) (outside : List Floor) → floors way (floor_to f) (map floor_to outside) ≡ Option.map (map floor_to) (floors way f outside)
  unfolding floors ◌then◌
  floors_same [] f outside = refl
  floors_same (n ∷ way) f outside =
      ap (λ (xs : List Placed). get_elem? xs n then λ i. held i.item then λ fs. floors way (floor (level (f.level.way ++ (n ∷ [])) fs) (inside_of i)) (map floor_to (f ∷ outside)))
      (fields_same f.row f.level.fields)
      ∙ (ap (λ (o : Option Placed). o then λ i. held i.item then λ fs. floors way (floor (level (f.level.way ++ (n ∷ [])) fs) (inside_of i)) (map floor_to (f ∷ outside)))
      (elem_map field_to (originals_from f.row f.level.fields) n)
      ∙ go (get_elem? (originals_from f.row f.level.fields) n) (λ k. floors_same way k (f ∷ outside)))
    where
      inner : ((k : Floor) → floors way (floor_to k) (map floor_to (f ∷ outside)) ≡ Option.map (map floor_to) (floors way k (f ∷ outside))) → (row : ℕ) (o : Option Fields)
          → (Option.map placed_fields o then λ fs. floors way (floor (level (f.level.way ++ (n ∷ [])) fs) row) (map floor_to (f ∷ outside)))
          ≡ Option.map (map floor_to) (o then λ fs. floors way (floor (level (f.level.way ++ (n ∷ [])) fs) row) (f ∷ outside))
      inner below row none = refl
      inner below row (some fs) = below (floor (level (f.level.way ++ (n ∷ [])) fs) row)

      go : (o : Option Placed) → ((k : Floor) → floors way (floor_to k) (map floor_to (f ∷ outside)) ≡ Option.map (map floor_to) (floors way k (f ∷ outside)))
          → (Option.map field_to o then λ i. held i.item then λ fs. floors way (floor (level (f.level.way ++ (n ∷ [])) fs) (inside_of i)) (map floor_to (f ∷ outside)))
          ≡ Option.map (map floor_to) (o then λ i. held i.item then λ fs. floors way (floor (level (f.level.way ++ (n ∷ [])) fs) (inside_of i)) (f ∷ outside))
      go none below = refl
      go (some i) below =
          ap₂ (λ (o : Option Fields) (row : ℕ). o then λ fs. floors way (floor (level (f.level.way ++ (n ∷ [])) fs) row) (map floor_to (f ∷ outside))) (held_same i.item) (inside_same i)
          ∙ inner below (inside_of i) (held i.item)

  floors_at_same : (s : Scope) (way : List ℕ) → floors_at (placed s) way ≡ Option.map (map floor_to) (floors_at s way)
  unfolding floors_at placed Readings.root
  floors_at_same (scope kind name fs) way = floors_same way (floor (level [] fs) 1) []

  old_same : (n at : ℕ) (ds : List Declaration) → in_original n at (map placed_decl ds) ≡ map standing_to (in_original n at ds)
  unfolding in_original
  old_same n at [] = refl
  old_same n at (d ∷ ds) = ap (λ (l : List Standing). record { decl = placed_decl d; spot = original n at } ∷ l) (old_same n (suc at) ds)

  new_same : (h : Head) (ds : List Declaration) → in_inserted (placed_head h) (map placed_decl ds) ≡ map standing_to (in_inserted h ds)
  unfolding in_inserted
  new_same h [] = refl
  new_same h (d ∷ ds) = ap (λ (l : List Standing). record { decl = placed_decl d; spot = inserted (placed_head h) } ∷ l) (new_same h ds)

  in_rows_same : (row : ℕ) (ss : List Standing) → in_rows row (map standing_to ss) ≡ map located_to (in_rows row ss)
  unfolding in_rows
  in_rows_same row [] = refl
  in_rows_same row (s ∷ ss) = ap (λ (l : List Located). record { standing = standing_to s; row = row } ∷ l) (in_rows_same (suc row) ss)

  -- the declarations of a field
  abbrev own : (b : Bool) (n : ℕ) → Head → List Standing
  own b n h = when b then in_inserted h h.decls else in_original n 0 h.decls

  own_same : (b : Bool) (n : ℕ) (h : Head) → own b n (placed_head h) ≡ map standing_to (own b n h)
  unfolding when◌then◌else◌ placed_head
  own_same true n h = new_same h h.decls
  own_same false n h = old_same n 0 h.decls

  located_same : (row n : ℕ) (fs : Fields) → located row n (placed_fields fs) ≡ map located_to (located row n fs)
  unfolding located placed
  located_same row n end = refl
  located_same row n (i ▸ fs) =
      let b = is_inserted (head_of i) in
      let h = head_of i in
      let next = when b then n else suc n in
      let further = located (row + length (item_rows i)) next fs in
      ap₂ (λ (k : Head) (m : ℕ). in_rows (suc row) (own (is_inserted k) n k) ++ located (row + m) (when is_inserted k then n else suc n) (placed_fields fs)) (head_of_lem i) (item_long_lem i)
      ∙ (ap (λ (c : Bool). in_rows (suc row) (own c n (placed_head h)) ++ located (row + length (item_rows i)) (when c then n else suc n) (placed_fields fs)) (head_inserted h)
      ∙ (ap₂ (λ (x y : List Located). x ++ y) (ap (in_rows (suc row)) (own_same b n h) ∙ in_rows_same (suc row) (own b n h)) (located_same (row + length (item_rows i)) next fs)
      ∙ sym (map-append located_to (in_rows (suc row) (own b n h)) further)))

  of_space_same : (xs : List Located) (space : ℕ) → located_of (map located_to xs) space ≡ map located_to (located_of xs space)
  unfolding located_of when◌then◌else◌ placed_decl
  of_space_same [] space = refl
  of_space_same (x ∷ xs) space = go (eqb x.standing.decl.space space) (of_space_same xs space)
    where
      go : (b : Bool) → located_of (map located_to xs) space ≡ map located_to (located_of xs space)
          → (when b then located_to x ∷ located_of (map located_to xs) space else located_of (map located_to xs) space) ≡ map located_to (when b then x ∷ located_of xs space else located_of xs space)
      go true e = ap (λ (l : List Located). located_to x ∷ l) e
      go false e = e

  counted_same : (f : Floor) (space n : ℕ) → counted_row (floor_to f) space n ≡ Option.map located_to (counted_row f space n)
  unfolding counted_row
  counted_same f space n =
      ap (λ (xs : List Located). get_elem? (located_of xs space) n) (located_same f.row 0 f.level.fields)
      ∙ (ap (λ (xs : List Located). get_elem? xs n) (of_space_same (located f.row 0 f.level.fields) space) ∙ elem_map located_to (located_of (located f.row 0 f.level.fields) space) n)

  outer_same : (fs : List Floor) (os : List Operand) → outer_to (map floor_to fs) (map placed_operand os) ≡ Option.map located_to (outer_to fs os)
  unfolding outer_to placed_operand ◌then◌
  outer_same fs [] = refl
  outer_same fs (ref space at paths z ∷ os) = refl
  outer_same fs (outer space (Num d) (Num n) z ∷ os) = ap (λ (o : Option Floor). o then λ f. counted_row f space n) (elem_map floor_to fs d) ∙ go (get_elem? fs d)
    where
      go : (o : Option Floor) → (Option.map floor_to o then λ f. counted_row f space n) ≡ Option.map located_to (o then λ f. counted_row f space n)
      go none = refl
      go (some f) = counted_same f space n
  outer_same fs (outer space (Num d) (Id name) z ∷ os) = refl
  outer_same fs (outer space (Id name) at z ∷ os) = refl
  outer_same fs (case name z ∷ os) = refl

  follow_same : (fs : List Floor) (spot : Spot) (x : Located) → follow (map floor_to fs) (spot_to spot) (located_to x) ≡ Option.map located_to (follow fs spot x)
  unfolding follow when◌then◌else◌ placed_head
  follow_same fs (original field at) x = refl
  follow_same fs (inserted h) x = go (eqb h.code 11)
    where
      go : (b : Bool) → (when b then outer_to (map floor_to fs) (map placed_operand h.operands) else some (located_to x)) ≡ Option.map located_to (when b then outer_to fs h.operands else some x)
      go true = outer_same fs h.operands
      go false = refl

  from_same : (fs : List Floor) (o : Operand) → reached_from (map floor_to fs) (placed_operand o) ≡ Option.map located_to (reached_from fs o)
  unfolding reached_from placed_operand ◌then◌
  from_same [] o = refl
  from_same (f ∷ fs) (ref space (Num n) paths z) =
      ap (λ (o : Option Located). o then λ x. follow (map floor_to (f ∷ fs)) x.standing.spot x) (counted_same f space n) ∙ go (counted_row f space n)
    where
      go : (o : Option Located) → (Option.map located_to o then λ x. follow (map floor_to (f ∷ fs)) x.standing.spot x) ≡ Option.map located_to (o then λ x. follow (f ∷ fs) x.standing.spot x)
      go none = refl
      go (some x) = follow_same (f ∷ fs) x.standing.spot x
  from_same (f ∷ fs) (ref space (Id name) paths z) = refl
  from_same (f ∷ fs) (outer space up at z) = refl
  from_same (f ∷ fs) (case name z) = refl

  reached_same : (s : Scope) (p : Place) → reached (placed s) p ≡ Option.map located_to (reached s p)
  unfolding reached ◌then◌
  reached_same s p =
      ap₂ (λ (a : Option Use) (b : Option (List Floor)). a then λ u. b then λ fs. reached_from fs u.operand) (use_same s p) (floors_at_same s p.way) ∙ go (use_at s p) (floors_at s p.way)
    where
      go : (a : Option Use) (b : Option (List Floor))
          → (Option.map use_to a then λ u. Option.map (map floor_to) b then λ fs. reached_from fs u.operand) ≡ Option.map located_to (a then λ u. b then λ fs. reached_from fs u.operand)
      go none b = refl
      go (some u) none = refl
      go (some u) (some fs) = from_same fs u.operand

  -- ---- the references at a place

  at_same : (way : List ℕ) (n k : ℕ) (os : List Operand) → places_at way n k (map placed_operand os) ≡ places_at way n k os
  unfolding places_at
  at_same way n k [] = refl
  at_same way n k (o ∷ os) = ap (λ (l : List Place). record { way = way; field = n; at = k } ∷ l) (at_same way n (suc k) os)

  operands_of : (way : List ℕ) (n : ℕ) (i : Item) → places_at way n 0 (head_of (placed_item i)).operands ≡ places_at way n 0 (head_of i).operands
  unfolding placed_head
  operands_of way n i = ap (λ (h : Head). places_at way n 0 h.operands) (head_of_lem i) ∙ at_same way n 0 (head_of i).operands

  places_step : (way : List ℕ) (n : ℕ) (b c : Bool) (os xs xs' ys ys' zs zs' : List Place) → b ≡ c → xs ≡ xs' → ys ≡ ys' → zs ≡ zs' → (when b then xs else os ++ (ys ++ zs)) ≡ (when c then xs' else os ++ (ys' ++ zs'))
  places_step way n b c os xs xs' ys ys' zs zs' e₁ e₂ e₃ e₄ = rw (e₁, e₂, e₃, e₄)

  mutual
    unfolding places_in placed

    places_in_lem : (fs : Fields) (way : List ℕ) (n : ℕ) → places_in way n (placed_fields fs) ≡ places_in way n fs
    places_in_lem end way n = refl
    places_in_lem (i ▸ fs) way n =
        ap (λ (os : List Place). when is_inserted (head_of (placed_item i)) then places_in way n (placed_fields fs) else os ++ (Moved.places_inside (way ++ (n ∷ [])) (placed_item i) ++ places_in way (suc n) (placed_fields fs))) (operands_of way n i)
        ∙ places_step way n _ _ (places_at way n 0 (head_of i).operands) _ _ _ _ _ _ (item_inserted i) (places_in_lem fs way n) (places_inside_lem i (way ++ (n ∷ []))) (places_in_lem fs way (suc n))

    places_inside_lem : (i : Item) (way : List ℕ) → Moved.places_inside way (placed_item i) ≡ Moved.places_inside way i
    places_inside_lem (plain h) way = refl
    places_inside_lem (holds h s) way = places_of_lem s way

    places_of_lem : (s : Scope) (way : List ℕ) → Moved.places_of way (placed s) ≡ Moved.places_of way s
    places_of_lem (scope kind name fs) way = places_in_lem fs way 0

  -- a place that no other becomes, and that stays
  abbrev pub Stays : (z : ℕ) → Type 0
  Stays z = (y : ℕ) → eqb z (to y) ≡ eqb z y

  ref_same : (z : ℕ) (o : Operand) → Stays z → is_ref_at z (placed_operand o) ≡ is_ref_at z o
  unfolding is_ref_at placed_operand
  ref_same z (ref space at paths y) stays = stays y
  ref_same z (outer space up at y) stays = refl
  ref_same z (case name y) stays = refl

  ref_at_same : (s : Scope) (z : ℕ) (p : Place) → Stays z → ref_at (placed s) z p ≡ ref_at s z p
  unfolding ref_at ◌then◌
  ref_at_same s z p stays = ap (λ (o : Option Use). o then λ u. only (is_ref_at z u.operand) p) (use_same s p) ∙ go (use_at s p)
    where
      go : (o : Option Use) → (Option.map use_to o then λ u. only (is_ref_at z u.operand) p) ≡ (o then λ u. only (is_ref_at z u.operand) p)
      go none = refl
      go (some u) = ap (λ (b : Bool). only b p) (ref_same z u.operand stays)

  collect_same : {A B : Type 0} (f g : A → Option B) (xs : List A) → ((x : A) → f x ≡ g x) → collect f xs ≡ collect g xs
  unfolding collect
  collect_same f g [] e = refl
  collect_same {B = B} f g (x ∷ xs) e = ap₂ (λ (o : Option B) (l : List B). if_any o l) (e x) (collect_same f g xs e)

  refs_same : (s : Scope) (z : ℕ) → Stays z → refs_at (placed s) z ≡ refs_at s z
  unfolding refs_at places
  refs_same s z stays = collect_same (ref_at (placed s) z) (ref_at s z) (Moved.places_of [] (placed s)) (λ p. ref_at_same s z p stays) ∙ ap (collect (ref_at s z)) (places_of_lem s [])

  -- ---- the answers

  bound_to_same : (name : ℕ) (o : Option Located) → bound_to name (Option.map located_to o) ≡ bound_to name o
  unfolding bound_to placed_decl
  bound_to_same name none = refl
  bound_to_same name (some x) = refl

  bound_same : (after : Scope) (name : ℕ) (ps : List Place) → bound (placed after) name ps ≡ bound after name ps
  unfolding bound
  bound_same after name [] = refl
  bound_same after name (p ∷ []) = ap (bound_to name) (reached_same after p) ∙ bound_to_same name (reached after p)
  bound_same after name (p ∷ q ∷ ps) = refl

  -- With other places in the stead of those that no slot names, in both forms, every slot is answered as before.
  pub other_places : (before after : Scope) {slots : List Slot} → All (λ (slot : Slot). Stays slot.place) slots → bindings (placed before) (placed after) slots ≡ bindings before after slots
  unfolding bindings binding
  other_places before after done = refl
  other_places before after (◌&◌ {x = slot} stays more) =
      ap₂ (λ (b : Binding) (bs : List Binding). b ∷ bs)
      (ap (bound (placed after) slot.name) (refs_same before slot.place stays) ∙ bound_same after slot.name (refs_at before slot.place))
      (other_places before after more)
