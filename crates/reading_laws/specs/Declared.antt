-- A declaration that is meant, with all that is said of it: its row, its number, how far out it is, its name.
use Rattle.std.specs.Prelude.{◌≡◌, refl, Bool, true, false, List, [], ◌∷◌, ◌++◌, ℕ, suc, ◌+◌, ◌-◌, ◌/◌, ◌≤◌, ◌<◌, eqb, ltb, length, Option as CodeOption, Some, None}
use Rattle.std.proofs.Common.{ap, sym, ◌∙◌, arith, ltb-true}
use Rattle.std.proofs.Math.Path.{subst}
use Rattle.std.proofs.Math.Option.{Option, none, some}
use Rattle.std.proofs.Math.ListN.{get_elem?}
use Rattle.kit.specs.Pick.{pick}
use Rattle.rules.specs.Tools.{when◌then◌else◌}
use Rattle.rules.specs.Rows.{encode}
use Rattle.rules.specs.Tree.{Declaration, Head, Scope, Fields, end, ◌▸◌, head_of, item_rows, flatten}
use Rattle.rules.specs.Readings.{is_inserted, Place, Level, Spot, original, inserted, in_original, in_inserted, place}
use Rattle.rules.specs.Laws.ToolLaws.{All, done, ◌&◌, all_append, eqb-true}
use Rattle.rules.specs.Laws.Results.{some_same, no_option}
use Rattle.places.specs.PlaceRows.{Floor, floors_at, decl_at, row_of_decl, Located, in_rows, located, located_of, counted_row}
use Rattle.places.specs.Counting.{spot_of, of_space_all}
use Rattle.places.proofs.RowAt.{decl_row_of, all_at, counted_row_is}
use Rattle.places.proofs.RowsApart.{elem_lt}
use Rattle.places.proofs.LocatedAt.{AtItsWay, located_place}
use Rattle.row_parts.specs.Parts.{x_at, rows_in}
use Rattle.reading_laws.specs.Stand.{Is, At, x_part, at_elem}
use Rattle.readings.specs.declared.Meaning.{Meaning}

-- The meaning is the declaration at the place `d`: it stands in the scope that is `out` out, as the number-th of its space there, and its
-- row and its name are those of the tree.
pub record Declared (s : Scope) (fs : List Floor) (d : Place) (m : CodeOption Meaning) : Type 0 where
  pub f : Floor
  pub out : ℕ
  pub x : Located
  pub number : ℕ
  pub around : get_elem? fs out ≡ some f
  pub in_scope_lem : d.way ≡ f.level.way
  pub counts : counted_row f x.standing.decl.space number ≡ some x
  pub is_decl_lem : decl_at s d ≡ some x.standing.decl
  pub is_row : row_of_decl s d ≡ some x.row
  pub is : m ≡ Some (record { row = x.row; number = number; out = out; name = x.standing.decl.name })

-- The meaning is a declaration of an inserted field, which has no place.
pub record OfInserted (fs : List Floor) (m : CodeOption Meaning) : Type 0 where
  pub f : Floor
  pub out : ℕ
  pub x : Located
  pub number : ℕ
  pub h : Head
  pub around : get_elem? fs out ≡ some f
  pub counts : counted_row f x.standing.decl.space number ≡ some x
  pub spot : spot_of x ≡ inserted h
  pub new : is_inserted h ≡ true
  pub is : m ≡ Some (record { row = x.row; number = number; out = out; name = x.standing.decl.name })

-- What the rules' reading gives, and what the rows mean.
pub data Agree (s : Scope) (fs : List Floor) : Option Place → CodeOption Meaning → Type 0 where
  -- a place: its declaration
  a_place : {d : Place} {m : CodeOption Meaning} → Declared s fs d m → Agree s fs (some d) m
  -- none: the declaration of an inserted field, as of an export alias
  an_inserted : {m : CodeOption Meaning} → OfInserted fs m → Agree s fs none m
  -- none: nothing, where there is no such number or no such scope
  nothing : Agree s fs none None

-- a place is its declaration
pub the_place : (s : Scope) (fs : List Floor) (d : Place) (m : CodeOption Meaning) (o : Option Place) → o ≡ some d → Agree s fs o m → Declared s fs d m
the_place s fs d m (some c) e (a_place D) = subst (λ (c : Place). Declared s fs c m) (some_same c d e) D
the_place s fs d m none e (an_inserted I) = no_option d e
the_place s fs d m none e nothing = no_option d e

-- ---- what is counted

space_is : (xs : List Located) (space : ℕ) → All (λ (x : Located). x.standing.decl.space ≡ space) (located_of xs space)
unfolding located_of when◌then◌else◌
space_is [] space = done
space_is (x ∷ xs) space = go (eqb x.standing.decl.space space) refl (space_is xs space)
  where
    go : (b : Bool) → eqb x.standing.decl.space space ≡ b → All (λ (x : Located). x.standing.decl.space ≡ space) (located_of xs space)
        → All (λ (x : Located). x.standing.decl.space ≡ space) (when b then x ∷ located_of xs space else located_of xs space)
    go true e a = eqb-true _ space e & a
    go false e a = a

counted_own : (f : Floor) (space n : ℕ) (x : Located) → counted_row f space n ≡ some x → counted_row f x.standing.decl.space n ≡ some x
unfolding counted_row
counted_own f space n x e = ap (λ (k : ℕ). get_elem? (located_of (located f.row 0 f.level.fields) k) n) (all_at _ n x (space_is (located f.row 0 f.level.fields) space) e) ∙ e

abbrev New : Spot → Type 0
New (original field at) = Unit {0}
New (inserted h) = is_inserted h ≡ true

old_new : (row n at : ℕ) (ds : List Declaration) → All (λ (x : Located). New (spot_of x)) (in_rows row (in_original n at ds))
unfolding in_rows in_original
old_new row n at [] = done
old_new row n at (d ∷ ds) = tt & old_new (suc row) n (suc at) ds

all_new : (h : Head) (row : ℕ) (ds : List Declaration) → is_inserted h ≡ true → All (λ (x : Located). New (spot_of x)) (in_rows row (in_inserted h ds))
unfolding in_rows in_inserted
all_new h row [] e = done
all_new h row (d ∷ ds) e = e & all_new h (suc row) ds e

located_new : (row n : ℕ) (fs : Fields) → All (λ (x : Located). New (spot_of x)) (located row n fs)
unfolding located when◌then◌else◌
located_new row n end = done
located_new row n (i ▸ fs) = go (is_inserted (head_of i)) refl (λ k. located_new (row + length (item_rows i)) k fs)
  where
    go : (b : Bool) → is_inserted (head_of i) ≡ b → ((k : ℕ) → All (λ (x : Located). New (spot_of x)) (located (row + length (item_rows i)) k fs))
        → All (λ (x : Located). New (spot_of x))
        (in_rows (suc row) (when b then in_inserted (head_of i) (head_of i).decls else in_original n 0 (head_of i).decls) ++ located (row + length (item_rows i)) (when b then n else suc n) fs)
    go true e below = all_append _ _ (all_new (head_of i) (suc row) (head_of i).decls e) (below n)
    go false e below = all_append _ _ (old_new (suc row) n 0 (head_of i).decls) (below (suc n))

place_way : (l : Level) (spot : Spot) (d : Place) → place l spot ≡ some d → d.way ≡ l.way
unfolding place
place_way l (original field at) d e = ap (λ (p : Place). p.way) (sym (some_same _ d e))
place_way l (inserted h) d e = no_option d e

module _ (s : Scope) (fs : List Floor) (f : Floor) (out space n : ℕ) (x : Located) (around : get_elem? fs out ≡ some f) (q : counted_row f space n ≡ some x) where
  pub declared_at : AtItsWay s f → (d : Place) → place f.level (spot_of x) ≡ some d → Declared s fs d (Some (record { row = x.row; number = n; out = out; name = x.standing.decl.name }))
  declared_at own d e =
      let L = located_place s f space n x d own q e in
      record {
        f = f;
        out = out;
        x = x;
        number = n;
        around = around;
        in_scope_lem = place_way f.level (spot_of x) d e;
        counts = counted_own f space n x q;
        is_decl_lem = L.0;
        is_row = L.1;
        is = refl;
      }

  pub inserted_at : (h : Head) → spot_of x ≡ inserted h → OfInserted fs (Some (record { row = x.row; number = n; out = out; name = x.standing.decl.name }))
  unfolding counted_row
  inserted_at h e =
      record {
        f = f;
        out = out;
        x = x;
        number = n;
        h = h;
        around = around;
        counts = counted_own f space n x q;
        spot = e;
        new = subst New e (all_at _ n x (of_space_all _ space (located_new f.row 0 f.level.fields)) q);
        is = refl;
      }

-- ---- its DECL

-- the DECLs of what is counted in these scopes stand in the form
abbrev pub DeclsAre : (form : List ℕ) → List Floor → Type 0
DeclsAre form fs = (k : ℕ) (f : Floor) (space n : ℕ) (x : Located) → get_elem? fs k ≡ some f → counted_row f space n ≡ some x → Is form x.row (decl_row_of x.standing.decl) × (x.row < 65535)

pub name_at : (form : List ℕ) (row : ℕ) (d : Declaration) → Is form row (decl_row_of d) → x_at form row ≡ d.name
unfolding encode
name_at form row d is = ap x_part is

least : (n : ℕ) → pick (ltb n 65535) n 65535 ≤ 65535
unfolding pick
least n = go (ltb n 65535) refl
  where
    go : (b : Bool) → ltb n 65535 ≡ b → pick b n 65535 ≤ 65535
    go true e = let l = ltb-true n 65535 e in omega (arith, l)
    go false e = omega arith

rows_below : (form : List ℕ) → rows_in form ≤ 65535
unfolding rows_in
rows_below form = least ((length form - 8) / 16)

pub decls_stand : (form : List ℕ) (s : Scope) → At form 0 (flatten s) → length (flatten s) ≤ rows_in form → (way : List ℕ) (fs : List Floor) → floors_at s way ≡ some fs → DeclsAre form fs
decls_stand form s stand fit way fs are k f space n x e q =
    let there = counted_row_is s way fs k f space n x are e q in
    let zeroth : 0 + x.row ≡ x.row = omega arith in
    let low = elem_lt (flatten s) x.row (decl_row_of x.standing.decl) there in
    let most = rows_below form in
    (subst (λ (m : ℕ). Is form m (decl_row_of x.standing.decl)) zeroth (at_elem form 0 (flatten s) x.row (decl_row_of x.standing.decl) stand there), omega (arith, low, fit, most))
