-- Names that are looked up in one scope: the operands of here_only_lem fields, the instance where PATHs start, the named index of an OUTER. The
-- rows give the declaration whose number the rules' `find` gives among the declarations of that scope.
use Rattle.std.specs.Prelude.{◌≡◌, Bool, ◌&&◌, length, Option as CodeOption, Some, None}
use Rattle.std.proofs.Math.Path.{refl, ap, subst}
use Rattle.std.proofs.Common.{sym, ◌∙◌}
use Rattle.std.proofs.Math.Bool.{true, false, not}
use Rattle.std.proofs.Math.Option
use Rattle.std.proofs.Math.Option.{Option, none, some}
use mathlib.Core.List.{List, [], ◌∷◌, ◌++◌, map}
use native.Mathlib.Omega.{arith}
use Prim.Native.Nat.{ℕ, suc, ◌+◌}
use Rattle.std.proofs.Math.Dec.{eqb}
use Rattle.std.proofs.Math.ListN.{get_elem?}
use Rattle.kit.specs.Pick.{pick}
use Rattle.kit.proofs.Laws.{yes!, no!, tests}
use Rattle.rules.specs.Tools.{when◌then◌else◌, only, ◌then◌}
use Rattle.rules.specs.Rows.{Ref, Outer, Num, Id, encode, flag, number}
use Rattle.rules.specs.Tree.{Declaration, Operand, ref, outer, Scope, Fields, end, ◌▸◌, head_of}
use Rattle.rules.specs.Shapes.{here_only}
use Rattle.rules.specs.Rules.{find, declarations}
use Rattle.rules.specs.Readings
use Rattle.rules.specs.Readings.{is_inserted, Place, Standing, in_original, in_inserted, standings, walked, walked_at}
use Rattle.rules.specs.Laws.Results.{some_same, no_option}
use Rattle.places.specs.PlaceRows.{Floor, operand_at, row_of_operand, Located, located, located_of, counted_row}
use Rattle.places.specs.Counting.{map-append, standing, located_standings}
use Rattle.places.proofs.RowAt.{operand_row_of, decls_of, own_decls}
use Rattle.row_parts.specs.Parts.{code_at, b_at, e_at, x_at, y_at, field_of}
use Rattle.scopes.specs.Scopes.{scope_of, is_meant, find_in, scope_outward}
use Rattle.readings.specs.Meaning.{space_sought, is_walked, reading_of, meant, in_scope, in_outer, key_of, outer_wanted, index_key, through_outer, meaning_of}
use Rattle.scopes.specs.declared.Key.TheVariants.{Name}
use Rattle.scopes.specs.declared.Wanted.TheVariants.{Out}
use Rattle.reading_laws.specs.Stand.{Is, code_part, b_part, e_part, x_part, y_part}
use Rattle.reading_laws.specs.Find.{search, find_in_lem}
use Rattle.reading_laws.specs.Floors.{Stands, Chain, first_row}
use Rattle.reading_laws.specs.Declared.{DeclsAre, name_at, decls_stand}
use Rattle.reading_laws.specs.Outward.{by_name_lem, first_wanted, scope_outward_lem, count_out, count_past}
use Rattle.reading_laws.specs.Number.{stands_at}
use Rattle.reading_laws.specs.Operands.{Used, operand_used}
use Rattle.reading_laws.specs.Said.{said, sought}
use Rattle.reading_laws.specs.Meant.{Rows, use_there, around}
use Rattle.readings.specs.declared.Meaning.{Meaning}
use Rattle.scopes.specs.declared.Outer.{Outer as OuterScope}

-- what the tree says of a name in a scope that is `out` out: the declaration of the number that is found
unfoldable pub said_number : Floor → (out space : ℕ) → Option ℕ → CodeOption Meaning
said_number f out space none = None
said_number f out space (some n) = said (counted_row f space n) n out

unfoldable pub said_name : Option Floor → (out space name : ℕ) → CodeOption Meaning
said_name none out space name = None
said_name (some f) out space name = said_number f out space (find (declarations f.level.fields) space name)

-- ---- the search finds what `find` finds

abbrev decl_of : Located → Declaration
decl_of x = x.standing.decl

module _ (space name : ℕ) (is_name : eqb name 0 ≡ false) where
  find_none : (xs : List Located) (start : ℕ) → find (map decl_of xs) space name ≡ none → search space (Name name) start xs ≡ None
  unfolding search find when◌then◌else◌
  find_none [] start e = refl
  find_none (x ∷ xs) start e = go (eqb (decl_of x).space space) (eqb (decl_of x).name name) refl e (λ n q. find_none xs n q)
    where
      map_none : (o : Option ℕ) → Option.map suc o ≡ none → o ≡ none
      map_none none e = refl
      map_none (some n) e = no_option (suc n) (sym e)

      go : (b c : Bool) → eqb (decl_of x).name name ≡ c
          → (when b then when c then some 0 else Option.map suc (find (map decl_of xs) space name) else find (map decl_of xs) space name) ≡ none
          → ((n : ℕ) → find (map decl_of xs) space name ≡ none → search space (Name name) n xs ≡ None)
          → pick (b && is_meant (Name name) (decl_of x).name start) (Some (record { row = x.row; number = start })) (search space (Name name) (pick b (start + 1) start) xs) ≡ None
      go true true q e below = no_option 0 (sym e)
      go true false q e below = sym (no! _ (by_name_lem space name is_name (decl_of x).name start ∙ q) refl) ∙ below _ (map_none _ e)
      go false c q e below = sym (no! _ refl refl) ∙ below _ e

  record Finds (start n : ℕ) (xs ys : List Located) : Type 0 where
    x : Located
    counts : get_elem? ys n ≡ some x
    finds : search space (Name name) start xs ≡ Some (record { row = x.row; number = start + n })

  find_some : (xs : List Located) (start n : ℕ) → find (map decl_of xs) space name ≡ some n → Finds start n xs (located_of xs space)
  unfolding search find located_of when◌then◌else◌
  find_some [] start n e = no_option n e
  find_some (x ∷ xs) start n e = go (eqb (decl_of x).space space) (eqb (decl_of x).name name) refl refl e (λ k m q. find_some xs k m q)
    where
      less : (o : Option ℕ) (n : ℕ) → Option.map suc o ≡ some n → (m : ℕ) × (o ≡ some m) × (suc m ≡ n)
      less none n e = no_option n e
      less (some m) n e = (m, refl, some_same (suc m) n e)

      go : (b c : Bool) → eqb (decl_of x).space space ≡ b → eqb (decl_of x).name name ≡ c
          → (when b then when c then some 0 else Option.map suc (find (map decl_of xs) space name) else find (map decl_of xs) space name) ≡ some n
          → ((k m : ℕ) → find (map decl_of xs) space name ≡ some m → Finds k m xs (located_of xs space))
          → Finds start n (x ∷ xs) (when b then x ∷ located_of xs space else located_of xs space)
      go true true p q e below =
          let zeroth : 0 ≡ n = some_same 0 n e in
          let same : start ≡ start + n = omega (arith, zeroth) in
          record {
            x = x;
            counts = ap (get_elem? (x ∷ located_of xs space)) (sym zeroth);
            finds = sym (yes! _ (ap (λ (b : Bool). b && is_meant (Name name) (decl_of x).name start) p ∙ (by_name_lem space name is_name (decl_of x).name start ∙ q)) refl) ∙ ap (λ (k : ℕ). Some (record { row = x.row; number = k })) same;
          }
      go true false p q e below =
          let L = less _ n e in
          let H = below (start + 1) L.0 L.1 in
          let one_more_lem = L.2 in
          let on : start + 1 + L.0 ≡ start + n = omega (arith, one_more_lem) in
          record {
            x = H.x;
            counts = ap (get_elem? (x ∷ located_of xs space)) (sym one_more_lem) ∙ H.counts;
            finds = sym (no! _ (ap (λ (b : Bool). b && is_meant (Name name) (decl_of x).name start) p ∙ (by_name_lem space name is_name (decl_of x).name start ∙ q)) refl)
                ∙ (ap (λ (k : ℕ). search space (Name name) k xs) (sym (yes! _ p refl)) ∙ (H.finds ∙ ap (λ (k : ℕ). Some (record { row = H.x.row; number = k })) on));
          }
      go false c p q e below =
          let H = below start n e in
          record {
            x = H.x;
            counts = H.counts;
            finds = sym (no! _ (ap (λ (b : Bool). b && is_meant (Name name) (decl_of x).name start) p) refl) ∙ (ap (λ (k : ℕ). search space (Name name) k xs) (sym (no! _ p refl)) ∙ H.finds);
          }

-- ---- the declarations of a scope

standing_decls : (n : ℕ) (fs : Fields) → decls_of (standings n fs) ≡ declarations fs
unfolding standings declarations
standing_decls n end = refl
standing_decls n (i ▸ fs) =
    map-append (λ (s : Standing). s.decl) (when is_inserted (head_of i) then in_inserted (head_of i) (head_of i).decls else in_original n 0 (head_of i).decls) _
    ∙ (ap (λ (l : List Declaration). l ++ decls_of (standings (when is_inserted (head_of i) then n else suc n) fs)) (own_decls (is_inserted (head_of i)) n (head_of i))
    ∙ ap (λ (l : List Declaration). (head_of i).decls ++ l) (standing_decls (when is_inserted (head_of i) then n else suc n) fs))

decls_map : (xs : List Located) → map decl_of xs ≡ decls_of (map standing xs)
decls_map [] = refl
decls_map (x ∷ xs) = ap {B = List Declaration} (λ l. decl_of x ∷ l) (decls_map xs)

decls_of_lem : (f : Floor) → map decl_of (located f.row 0 f.level.fields) ≡ declarations f.level.fields
decls_of_lem f = decls_map (located f.row 0 f.level.fields) ∙ (ap decls_of (located_standings f.row 0 f.level.fields) ∙ standing_decls 0 f.level.fields)

module _ (form : List ℕ) where
  found_meant : (scope out space name row n : ℕ) → find_in form scope space (Name name) ≡ Some (record { row = row; number = n }) → in_scope form scope out space (Name name) ≡ Some (record { row = row; number = n; out = out; name = x_at form row })
  unfolding in_scope meant
  found_meant scope out space name row n e = rw e

  none_meant : (scope out space name : ℕ) → find_in form scope space (Name name) ≡ None → in_scope form scope out space (Name name) ≡ None
  unfolding in_scope meant
  none_meant scope out space name e = rw e

  -- a name in a scope
  name_in_lem : (fs : List Floor) (k : ℕ) (f : Floor) (beyond out space name : ℕ) → eqb name 0 ≡ false → DeclsAre form fs → get_elem? fs k ≡ some f → Stands form f beyond
      → in_scope form f.row out space (Name name) ≡ said_number f out space (find (declarations f.level.fields) space name)
  unfolding said_number said counted_row
  name_in_lem fs k f beyond out space name is_name D there S = go (find (declarations f.level.fields) space name) refl
    where
      xs : List Located
      xs = located f.row 0 f.level.fields

      searched : find_in form f.row space (Name name) ≡ search space (Name name) 0 xs
      searched = find_in_lem form space (Name name) f.level.fields f.row S.fields S.fits

      all : find (map decl_of xs) space name ≡ find (declarations f.level.fields) space name
      all = ap (λ (l : List Declaration). find l space name) (decls_of_lem f)

      go : (o : Option ℕ) → find (declarations f.level.fields) space name ≡ o → in_scope form f.row out space (Name name) ≡ said_number f out space o
      go none q = none_meant f.row out space name (searched ∙ find_none space name is_name xs 0 (all ∙ q))
      go (some n) q =
          let H = find_some space name is_name xs 0 n (all ∙ q) in
          let x = H.x in
          let same : 0 + n ≡ n = omega arith in
          let named : x_at form x.row ≡ (decl_of x).name = name_at form x.row (decl_of x) (D k f space n x there H.counts).0 in
          found_meant f.row out space name x.row n (searched ∙ (H.finds ∙ ap (λ (m : ℕ). Some (record { row = x.row; number = m })) same))
          ∙ (ap (λ (m : ℕ). Some (record { row = x.row; number = n; out = out; name = m })) named ∙ ap (λ (o : Option Located). said o n out) (sym H.counts))

  -- ---- rows

  -- a name in its own scope
  pub here_meaning : (r space name paths z : ℕ) → Is form r (Ref space (Id name) paths z) → (eqb paths 0 && not (here_only (b_at form (field_of form r)))) ≡ false
      → meaning_of form r ≡ in_scope form (scope_of form r) 0 (sought space paths) (Name name)
  unfolding meaning_of reading_of is_walked space_sought sought key_of encode flag number pick
  here_meaning r space name paths z is here =
      let c : code_at form r ≡ 3 = ap code_part is in
      let b : b_at form r ≡ space = ap b_part is in
      let e : e_at form r ≡ 1 = ap e_part is in
      let x : x_at form r ≡ name = ap x_part is in
      let y : y_at form r ≡ paths = ap y_part is in
      rw (c, b, e, x, y, here)

  index_meaning : (r space d name z : ℕ) → Is form r (Outer space (Num d) (Id name) z) → meaning_of form r ≡ in_outer form (scope_outward form (scope_of form r) (Out d)) space (Name name)
  unfolding meaning_of through_outer outer_wanted index_key encode flag number pick
  index_meaning r space d name z is =
      let c : code_at form r ≡ 5 = ap code_part is in
      let b : b_at form r ≡ space = ap b_part is in
      let e : e_at form r ≡ 2 = ap e_part is in
      let x : x_at form r ≡ d = ap x_part is in
      let y : y_at form r ≡ name = ap y_part is in
      rw (c, b, e, x, y)

  -- in the scope that is this many out
  name_out_lem : (fs : List Floor) (d space name : ℕ) → eqb name 0 ≡ false → Chain form fs → DeclsAre form fs → in_outer form (scope_outward form (first_row fs) (Out d)) space (Name name) ≡ said_name (get_elem? fs d) d space name
  unfolding said_name in_outer
  name_out_lem fs d space name is_name C D = ap (λ (o : CodeOption OuterScope). in_outer form o space (Name name)) outward ∙ go (get_elem? fs d) refl
    where
      same : d ≡ 0 + d
      same = omega arith

      outward : scope_outward form (first_row fs) (Out d) ≡ first_wanted form (Out (0 + d)) 0 fs
      outward = scope_outward_lem form (Out d) fs C ∙ ap (λ (k : ℕ). first_wanted form (Out k) 0 fs) same

      go : (o : Option Floor) → get_elem? fs d ≡ o → in_outer form (first_wanted form (Out (0 + d)) 0 fs) space (Name name) ≡ said_name o d space name
      go none e = ap (λ (o : CodeOption OuterScope). in_outer form o space (Name name)) (count_past form fs d 0 e)
      go (some f) e =
          let S = stands_at form fs d f C e in
          ap (λ (o : CodeOption OuterScope). in_outer form o space (Name name)) (count_out form fs d 0 f e ∙ ap (λ (k : ℕ). Some (record { scope = f.row; out = k })) (sym same)) ∙ name_in_lem fs d f S.0 d space name is_name D e S.1

-- ---- the theorems

module _ (form : List ℕ) (s : Scope) (R : Rows form s) (p : Place) (r : ℕ) (at : row_of_operand s p ≡ some r) where
  abbrev U : Used form s p r
  U = use_there form s R p r at

  abbrev fs : List Floor
  fs = around form s R p r at

  decls_are : DeclsAre form fs
  decls_are = decls_stand form s R.stand R.fit p.way fs U.are

  -- a name that is not walked
  not_walked : (space name : ℕ) (paths : List ℕ) (z : ℕ) → U.operand ≡ ref space (Id name) paths z → walked_at s p ≡ none → (eqb (length paths) 0 && not (here_only (b_at form (field_of form r)))) ≡ false
  unfolding Readings.walked_inside walked only ◌then◌
  not_walked space name paths z same e =
      ap (λ (c : ℕ). eqb (length paths) 0 && not (here_only c)) U.of_field ∙ go paths (sym (ap (walked (head_of U.x.item)) same) ∙ (rw U.used_as at e))
    where
      stays : (w : ℕ × ℕ) (b : Bool) → only b w ≡ none → b ≡ false
      stays w true e = no_option w (sym e)
      stays w false e = refl

      go : (paths : List ℕ) → walked (head_of U.x.item) (ref space (Id name) paths z) ≡ none → (eqb (length paths) 0 && not (here_only (head_of U.x.item).code)) ≡ false
      go [] e = stays _ _ e
      go (q ∷ qs) e = let there : eqb (suc (length qs)) 0 ≡ false = omega tests in ap (λ (b : Bool). b && not (here_only (head_of U.x.item).code)) there

  -- A name that is not walked is looked up in its own scope; with PATHs, as the instance where they start.
  pub name_row : (space name : ℕ) (paths : List ℕ) (z : ℕ) → operand_at s p ≡ some (ref space (Id name) paths z) → walked_at s p ≡ none → eqb name 0 ≡ false
      → meaning_of form r ≡ said_name (get_elem? (around form s R p r at) 0) 0 (sought space (length paths)) name
  unfolding said_name
  name_row space name paths z e w is_name =
      let same = operand_used form s p r U (ref space (Id name) paths z) e in
      let is : Is form r (Ref space (Id name) (length paths) z) = subst (λ (o : Operand). Is form r (operand_row_of o)) same U.is in
      here_meaning form r space name (length paths) z is (not_walked space name paths z same w)
      ∙ (ap (λ (k : ℕ). in_scope form k 0 (sought space (length paths)) (Name name)) U.around
      ∙ name_in_lem form fs 0 U.f (first_row U.rest) 0 (sought space (length paths)) name is_name decls_are refl U.chain.0)

  -- the named index of an OUTER, in the scope that is this many out
  pub index_row : (space d name z : ℕ) → operand_at s p ≡ some (outer space (Num d) (Id name) z) → eqb name 0 ≡ false → meaning_of form r ≡ said_name (get_elem? (around form s R p r at) d) d space name
  index_row space d name z e is_name =
      let same = operand_used form s p r U (outer space (Num d) (Id name) z) e in
      let is : Is form r (Outer space (Num d) (Id name) z) = subst (λ (o : Operand). Is form r (operand_row_of o)) same U.is in
      index_meaning form r space d name z is
      ∙ (ap (λ (k : ℕ). in_outer form (scope_outward form k (Out d)) space (Name name)) U.around ∙ name_out_lem form fs d space name is_name U.chain decls_are)
