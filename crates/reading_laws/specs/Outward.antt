-- Going outward from row to row finds the declaration that going outward from scope to scope finds.
use Rattle.std.specs.Prelude.{◌≡◌, Bool, ◌&&◌, not, length, Option as CodeOption, Some, None}
use Rattle.std.proofs.Math.Path.{refl, ap, sym, subst}
use Rattle.std.proofs.Common.{◌∙◌}
use Rattle.std.proofs.Math.Bool.{true, false}
use Rattle.std.proofs.Math.Option.{Option, none, some}
use mathlib.Core.List.{List, [], ◌∷◌, map}
use native.Mathlib.Omega.{arith}
use Prim.Native.Nat.{ℕ, zero, suc, ◌+◌, ◌-◌, ◌≤◌}
use Rattle.std.proofs.Math.Dec.{eqb}
use Rattle.std.proofs.Math.ListN.{get_elem?}
use Rattle.kit.specs.Pick.{pick}
use Rattle.kit.proofs.Laws.{yes!, no!, tests, pick_has}
use Rattle.rules.specs.Tools.{when◌then◌else◌, ◌then◌, ◌or_else◌}
use Rattle.rules.specs.Tree.{Scope}
use Rattle.rules.specs.Readings
use Rattle.rules.specs.Readings.{Place, Level, Standing, Spot, original, inserted, standings, first_named, place, declared}
use Rattle.rules.specs.Laws.ToolLaws.{All, ◌&◌, eqb-true, eqb-false, eqb_same, false_not}
use Rattle.rules.specs.Laws.Results.{some_same, no_option}
use Rattle.places.specs.PlaceRows.{Floor, Located, located, located_of, counted_row, row_of_decl}
use Rattle.places.specs.Counting.{levels, standing, spot_of, located_standings}
use Rattle.places.proofs.RowAt.{all_at}
use Rattle.places.proofs.LocatedAt.{AtItsWay, located_in, entry_place}
use Rattle.row_parts.specs.Parts.{code_at, x_at}
use Rattle.scopes.specs.Scopes.{level_above, scope_above, scope_of, is_meant, find_in, declares_name, is_wanted, outward_from, scope_outward}
use Rattle.readings.specs.Meaning.{meant, in_scope, in_outer}
use Rattle.scopes.specs.declared.Key.TheVariants.{Name}
use Rattle.scopes.specs.declared.Wanted.{Wanted}
use Rattle.scopes.specs.declared.Wanted.TheVariants.{Out, Declaring}
use Rattle.reading_laws.specs.Find.{search, find_in_lem}
use Rattle.reading_laws.specs.Floors.{Stands, Chain, first_row}
use Rattle.reading_laws.specs.Declared.{Declared, declared_at, DeclsAre, name_at}
use Rattle.readings.specs.declared.Meaning.{Meaning}
use Rattle.scopes.specs.declared.Found.{Found}
use Rattle.scopes.specs.declared.Outer.{Outer}

-- ---- the row of a meaning

-- the row of the DECL that is meant
unfoldable pub row_meant : CodeOption Meaning → Option ℕ
row_meant (Some meaning) = some meaning.row
row_meant None = none

-- ---- scopes outward

-- the first of these scopes that is wanted, where the first of them is `out` out
unfoldable pub first_wanted : (form : List ℕ) → Wanted → (out : ℕ) → List Floor → CodeOption Outer
first_wanted form wanted out [] = None
first_wanted form wanted out (f ∷ fs) = pick (is_wanted form f.row out wanted) (Some (record { scope = f.row; out = out })) (first_wanted form wanted (out + 1) fs)

module _ (form : List ℕ) where
  scope_above_lem : (above level : ℕ) → scope_above form above level ≤ above
  unfolding scope_above
  scope_above_lem zero level = omega arith
  scope_above_lem (suc above) level =
      let below = scope_above_lem above (level_above level (code_at form above)) in
      pick_has (λ (r : ℕ). r ≤ suc above) (eqb level 0 && eqb (code_at form above) 7) (omega arith) (omega (arith, below))

  -- each lies before the one in it
  pub chain_length : (fs : List Floor) → Chain form fs → length fs ≤ first_row fs
  unfolding scope_of
  chain_length [] C = omega arith
  chain_length (f ∷ fs) C =
      let rest = chain_length fs C.1 in
      let low = scope_above_lem C.0.open_row 0 in
      let around = C.0.around in
      let behind_open = C.0.behind_open in
      omega (arith, rest, low, around, behind_open)

  module _ (wanted : Wanted) where
    outward_end : (left out : ℕ) → outward_from form wanted left 0 out ≡ None
    unfolding outward_from pick
    outward_end zero out = refl
    outward_end (suc left) out = refl

    outward_step : (f : Floor) (outer left out : ℕ) → Stands form f outer
        → outward_from form wanted (suc left) f.row out ≡ pick (is_wanted form f.row out wanted) (Some (record { scope = f.row; out = out })) (outward_from form wanted left outer (out + 1))
    unfolding outward_from
    outward_step f outer left out S =
        let behind_open = S.behind_open in
        let there : eqb f.row 0 ≡ false = omega (tests, behind_open) in
        let up : f.row - 1 ≡ S.open_row = omega (arith, behind_open) in
        let next : scope_of form (f.row - 1) ≡ outer = ap (scope_of form) up ∙ S.around in
        sym (no! _ there refl) ∙ ap (λ (r : ℕ). pick (is_wanted form f.row out wanted) (Some (record { scope = f.row; out = out })) (outward_from form wanted left r (out + 1))) next

    outward_chain : (fs : List Floor) (left out : ℕ) → Chain form fs → length fs ≤ left → outward_from form wanted left (first_row fs) out ≡ first_wanted form wanted out fs
    unfolding first_wanted
    outward_chain [] left out C h = outward_end left out
    outward_chain (f ∷ fs) zero out C h = absurd (omega arith)
    outward_chain (f ∷ fs) (suc left) out C h =
        outward_step f (first_row fs) left out C.0
        ∙ ap (λ (x : CodeOption Outer). pick (is_wanted form f.row out wanted) (Some (record { scope = f.row; out = out })) x) (outward_chain fs left (out + 1) C.1 (omega arith))

    -- from the innermost of these scopes
    pub scope_outward_lem : (fs : List Floor) → Chain form fs → scope_outward form (first_row fs) wanted ≡ first_wanted form wanted 0 fs
    unfolding scope_outward
    scope_outward_lem fs C = outward_chain fs (first_row fs) 0 C (chain_length fs C)

  -- this many scopes out
  pub count_out : (fs : List Floor) (d out : ℕ) (f : Floor) → get_elem? fs d ≡ some f → first_wanted form (Out (out + d)) out fs ≡ Some (record { scope = f.row; out = out + d })
  unfolding first_wanted
  count_out [] d out f e = no_option f e
  count_out (g ∷ fs) zero out f e =
      let here : eqb out (out + 0) ≡ true = omega tests in
      let same : out ≡ out + 0 = omega arith in
      sym (yes! _ here refl) ∙ (ap (λ (h : Floor). Some (record { scope = h.row; out = out })) (some_same g f e) ∙ ap (λ (n : ℕ). Some (record { scope = f.row; out = n })) same)
  count_out (g ∷ fs) (suc d) out f e =
      let not_here : eqb out (out + suc d) ≡ false = omega tests in
      let on : out + suc d ≡ (out + 1) + d = omega arith in
      sym (no! _ not_here refl) ∙ (ap (λ (n : ℕ). first_wanted form (Out n) (out + 1) fs) on ∙ (count_out fs d (out + 1) f e ∙ ap (λ (n : ℕ). Some (record { scope = f.row; out = n })) (sym on)))

  pub count_past : (fs : List Floor) (d out : ℕ) → get_elem? fs d ≡ none → first_wanted form (Out (out + d)) out fs ≡ None
  unfolding first_wanted
  count_past [] d out e = refl
  count_past (g ∷ fs) zero out e = no_option g (sym e)
  count_past (g ∷ fs) (suc d) out e =
      let not_here : eqb out (out + suc d) ≡ false = omega tests in
      let on : out + suc d ≡ (out + 1) + d = omega arith in
      sym (no! _ not_here refl) ∙ (ap (λ (n : ℕ). first_wanted form (Out n) (out + 1) fs) on ∙ count_past fs d (out + 1) e)

-- ---- a name in one scope

eqb_turn : (m n : ℕ) → eqb m n ≡ eqb n m
eqb_turn m n = go (eqb n m) refl
  where
    go : (b : Bool) → eqb n m ≡ b → eqb m n ≡ b
    go true e = let same = eqb-true n m e in omega (tests, same)
    go false e = eqb-false m n (λ q. false_not (sym e ∙ (ap (λ (k : ℕ). eqb n k) q ∙ eqb_same n)))

module _ (space name : ℕ) (is_name : eqb name 0 ≡ false) where
  pub by_name_lem : (other number : ℕ) → is_meant (Name name) other number ≡ eqb other name
  by_name_lem other number = ap (λ (b : Bool). not b && eqb name other) is_name ∙ eqb_turn name other

  tested : (x : Located) (number : ℕ) → (eqb x.standing.decl.space space && is_meant (Name name) x.standing.decl.name number) ≡ (eqb x.standing.decl.space space && eqb x.standing.decl.name name)
  tested x number = ap (λ (b : Bool). eqb x.standing.decl.space space && b) (by_name_lem x.standing.decl.name number)

  pub named_none : (xs : List Located) (number : ℕ) → first_named (map standing xs) space name ≡ none → search space (Name name) number xs ≡ None
  unfolding search first_named when◌then◌else◌
  named_none [] number e = refl
  named_none (x ∷ xs) number e = go (eqb x.standing.decl.space space && eqb x.standing.decl.name name) refl e (λ n q. named_none xs n q)
    where
      rest : CodeOption Found
      rest = search space (Name name) (pick (eqb x.standing.decl.space space) (number + 1) number) xs

      go : (b : Bool) → (eqb x.standing.decl.space space && eqb x.standing.decl.name name) ≡ b
          → (when b then some x.standing.spot else first_named (map standing xs) space name) ≡ none
          → ((n : ℕ) → first_named (map standing xs) space name ≡ none → search space (Name name) n xs ≡ None)
          → pick (eqb x.standing.decl.space space && is_meant (Name name) x.standing.decl.name number) (Some (record { row = x.row; number = number })) rest ≡ None
      go true q e below = no_option x.standing.spot (sym e)
      go false q e below = sym (no! _ (tested x number ∙ q) refl) ∙ below _ e

  -- the entry that is found, with `start` of that space before: it is the count-th of those of the space, which are `ys`
  pub record Hit (start : ℕ) (found : CodeOption Found) (xs ys : List Located) (spot : Spot) : Type 0 where
    pub x : Located
    pub k : ℕ
    pub at : get_elem? xs k ≡ some x
    pub is : x.standing.spot ≡ spot
    pub count : ℕ
    pub counts : get_elem? ys count ≡ some x
    pub finds : found ≡ Some (record { row = x.row; number = start + count })

  pub named_some : (xs : List Located) (start : ℕ) (spot : Spot) → first_named (map standing xs) space name ≡ some spot → Hit start (search space (Name name) start xs) xs (located_of xs space) spot
  unfolding search first_named located_of when◌then◌else◌
  named_some [] start spot e = no_option spot e
  named_some (x ∷ xs) start spot e = go (eqb x.standing.decl.space space) (eqb x.standing.decl.name name) refl e (λ n q. named_some xs n spot q)
    where
      go : (b c : Bool) → eqb x.standing.decl.name name ≡ c
          → (when b && c then some x.standing.spot else first_named (map standing xs) space name) ≡ some spot
          → ((n : ℕ) → first_named (map standing xs) space name ≡ some spot → Hit n (search space (Name name) n xs) xs (located_of xs space) spot)
          → Hit start (pick (b && is_meant (Name name) x.standing.decl.name start) (Some (record { row = x.row; number = start })) (search space (Name name) (pick b (start + 1) start) xs)) (x ∷ xs)
          (when b then x ∷ located_of xs space else located_of xs space) spot
      go true true q e below =
          let same : start ≡ start + 0 = omega arith in
          record {
            x = x;
            k = 0;
            at = refl;
            is = some_same _ spot e;
            count = 0;
            counts = refl;
            finds = sym (yes! _ (by_name_lem x.standing.decl.name start ∙ q) refl) ∙ ap (λ (n : ℕ). Some (record { row = x.row; number = n })) same;
          }
      go true false q e below =
          let H = below (start + 1) e in
          let on : start + 1 + H.count ≡ start + suc H.count = omega arith in
          record {
            x = H.x;
            k = suc H.k;
            at = H.at;
            is = H.is;
            count = suc H.count;
            counts = H.counts;
            finds = sym (no! _ (by_name_lem x.standing.decl.name start ∙ q) refl)
                ∙ (ap (λ (n : ℕ). search space (Name name) n xs) (sym (yes! _ refl refl)) ∙ (H.finds ∙ ap (λ (n : ℕ). Some (record { row = H.x.row; number = n })) on));
          }
      go false c q e below =
          let H = below start e in
          record {
            x = H.x;
            k = suc H.k;
            at = H.at;
            is = H.is;
            count = H.count;
            counts = H.counts;
            finds = sym (no! _ refl refl) ∙ (ap (λ (n : ℕ). search space (Name name) n xs) (sym (no! _ refl refl)) ∙ H.finds);
          }

-- ---- a name outward

-- an original field's spot
abbrev pub IsOriginal : Spot → Type 0
IsOriginal (original field at) = Unit {0}
IsOriginal (inserted h) = ⊥

-- no declaration of the scope is inserted
abbrev pub NoneInserted : Floor → Type 0
NoneInserted f = All (λ (x : Located). IsOriginal x.standing.spot) (located f.row 0 f.level.fields)

module _ (form : List ℕ) (s : Scope) (space name : ℕ) (is_name : eqb name 0 ≡ false) where
  -- the meaning in the first of these scopes that has the name
  abbrev pub meant_in : (out : ℕ) → List Floor → CodeOption Meaning
  meant_in out fs = in_outer form (first_wanted form (Declaring space name) out fs) space (Name name)

  hit_finds : {found : CodeOption Found} {xs ys : List Located} {spot : Spot} → (H : Hit space name is_name 0 found xs ys spot) → found ≡ Some (record { row = H.x.row; number = H.count })
  hit_finds H = let same : 0 + H.count ≡ H.count = omega arith in H.finds ∙ ap (λ (n : ℕ). Some (record { row = H.x.row; number = n })) same

  -- what is found there is meant
  found_here : (f : Floor) (fs : List Floor) (out row number : ℕ) → find_in form f.row space (Name name) ≡ Some (record { row = row; number = number }) → meant_in out (f ∷ fs) ≡ Some (record { row = row; number = number; out = out; name = x_at form row })
  unfolding first_wanted declares_name in_outer in_scope meant pick
  found_here f fs out row number e = rw (e, e)

  not_here : (f : Floor) (fs : List Floor) (out : ℕ) → find_in form f.row space (Name name) ≡ None → meant_in out (f ∷ fs) ≡ meant_in (out + 1) fs
  unfolding first_wanted declares_name pick
  not_here f fs out e = rw e

  search_is : (f : Floor) (outer : ℕ) → Stands form f outer → find_in form f.row space (Name name) ≡ search space (Name name) 0 (located f.row 0 f.level.fields)
  search_is f outer S = find_in_lem form space (Name name) f.level.fields f.row S.fields S.fits

  names_are : (f : Floor) → first_named (map standing (located f.row 0 f.level.fields)) space name ≡ first_named (standings 0 f.level.fields) space name
  names_are f = ap (λ (l : List Standing). first_named l space name) (located_standings f.row 0 f.level.fields)

  -- the place of what is found in a scope, and its row
  placed : (f : Floor) (x : Located) (k : ℕ) (spot : Spot) → AtItsWay s f → get_elem? (located f.row 0 f.level.fields) k ≡ some x → x.standing.spot ≡ spot → IsOriginal spot
      → (d : Place) × (place f.level spot ≡ some d) × (row_of_decl s d ≡ some x.row)
  unfolding place
  placed f x k (inserted h) own at is o = absurd o
  placed f x k (original field at) own there is o =
      let d : Place = record { way = f.level.way; field = field; at = at } in
      let L = all_at _ k x (located_in f.row 0 f.level.fields) there in
      let at_place : place f.level x.standing.spot ≡ some d = ap (place f.level) is in
      (d, refl, (entry_place s f x d own L at_place).1)

  not_declared : (l : Level) (o : Option Place) → first_named (standings 0 l.fields) space name ≡ none → (declared l space name or_else o) ≡ o
  unfolding declared ◌then◌ ◌or_else◌
  not_declared l o e = rw e

  is_declared : (l : Level) (o : Option Place) (spot : Spot) (d : Place) → first_named (standings 0 l.fields) space name ≡ some spot → place l spot ≡ some d → (declared l space name or_else o) ≡ some d
  unfolding declared ◌then◌ ◌or_else◌
  is_declared l o spot d e q = rw (e, q)

  pub outward_is : (fs : List Floor) (out : ℕ) → Chain form fs → All (AtItsWay s) fs → All NoneInserted fs → row_meant (meant_in out fs) ≡ (Readings.outward (levels fs) space name then row_of_decl s)
  unfolding first_wanted in_outer row_meant Readings.outward ◌then◌
  outward_is [] out C own low = refl
  outward_is (f ∷ fs) out C (o & own) (l & low) =
      go (first_named (standings 0 f.level.fields) space name) refl (outward_is fs (out + 1) C.1 own low)
    where
      go : (spot : Option Spot) → first_named (standings 0 f.level.fields) space name ≡ spot
          → row_meant (meant_in (out + 1) fs) ≡ (Readings.outward (levels fs) space name then row_of_decl s)
          → row_meant (meant_in out (f ∷ fs)) ≡ ((declared f.level space name or_else Readings.outward (levels fs) space name) then row_of_decl s)
      go none q below =
          let nothing = search_is f (first_row fs) C.0 ∙ named_none space name is_name _ 0 (names_are f ∙ q) in
          ap row_meant (not_here f fs out nothing) ∙ (below ∙ ap (λ (o : Option Place). o then row_of_decl s) (sym (not_declared f.level (Readings.outward (levels fs) space name) q)))
      go (some spot) q below =
          let H = named_some space name is_name (located f.row 0 f.level.fields) 0 spot (names_are f ∙ q) in
          let orig : IsOriginal spot = subst IsOriginal H.is (all_at _ H.k H.x l H.at) in
          let P = placed f H.x H.k spot o H.at H.is orig in
          ap row_meant (found_here f fs out H.x.row H.count (search_is f (first_row fs) C.0 ∙ hit_finds H))
          ∙ (sym P.2 ∙ ap (λ (o : Option Place). o then row_of_decl s) (sym (is_declared f.level (Readings.outward (levels fs) space name) spot P.0 q P.1)))

  -- and where it is found it is meant with all that is said of it, in the scopes `all` of which `fs` are those from the one on that is `out` out
  pub outward_declared : (all fs : List Floor) (out : ℕ) → ((k : ℕ) → get_elem? all (out + k) ≡ get_elem? fs k) → Chain form fs → All (AtItsWay s) fs → All NoneInserted fs → DeclsAre form fs
      → (d : Place) → Readings.outward (levels fs) space name ≡ some d → Declared s all d (meant_in out fs)
  unfolding Readings.outward counted_row
  outward_declared all [] out on C own low D d e = no_option d e
  outward_declared all (f ∷ fs) out on C (o & own) (l & low) D d e =
      go (first_named (standings 0 f.level.fields) space name) refl (λ q. outward_declared all fs (out + 1) onward C.1 own low (λ k. D (suc k)) d q)
    where
      onward : (k : ℕ) → get_elem? all (out + 1 + k) ≡ get_elem? fs k
      onward k = let step : out + 1 + k ≡ out + suc k = omega arith in ap (get_elem? all) step ∙ on (suc k)

      go : (spot : Option Spot) → first_named (standings 0 f.level.fields) space name ≡ spot → (Readings.outward (levels fs) space name ≡ some d → Declared s all d (meant_in (out + 1) fs))
          → Declared s all d (meant_in out (f ∷ fs))
      go none q below =
          let nothing = search_is f (first_row fs) C.0 ∙ named_none space name is_name _ 0 (names_are f ∙ q) in
          subst (Declared s all d) (sym (not_here f fs out nothing)) (below (sym (not_declared f.level (Readings.outward (levels fs) space name) q) ∙ e))
      go (some spot) q below =
          let H = named_some space name is_name (located f.row 0 f.level.fields) 0 spot (names_are f ∙ q) in
          let orig : IsOriginal spot = subst IsOriginal H.is (all_at _ H.k H.x l H.at) in
          let P = placed f H.x H.k spot o H.at H.is orig in
          let same : P.0 ≡ d = some_same P.0 d (sym (is_declared f.level (Readings.outward (levels fs) space name) spot P.0 q P.1) ∙ e) in
          let there : get_elem? all out ≡ some f = (let first : out ≡ out + 0 = omega arith in ap (get_elem? all) first ∙ on 0) in
          let at_place : place f.level (spot_of H.x) ≡ some d = ap (place f.level) H.is ∙ (P.1 ∙ ap {B = Option Place} some same) in
          let named : x_at form H.x.row ≡ H.x.standing.decl.name = name_at form H.x.row H.x.standing.decl (D 0 f space H.count H.x refl H.counts).0 in
          subst (Declared s all d)
          (sym (found_here f fs out H.x.row H.count (search_is f (first_row fs) C.0 ∙ hit_finds H) ∙ ap (λ (n : ℕ). Some (record { row = H.x.row; number = H.count; out = out; name = n })) named))
          (declared_at s all f out space H.count H.x there H.counts o d at_place)
