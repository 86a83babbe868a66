-- Counting in a scope's rows counts its declarations; what an OUTER of two numbers means.
use Rattle.std.specs.Prelude.{◌≡◌, Bool, ◌&&◌, Some, None}
use Rattle.std.proofs.Math.Path.{refl, ap, sym}
use Rattle.std.proofs.Common.{◌∙◌, subst}
use Rattle.std.proofs.Math.Bool.{true, false}
use Rattle.std.proofs.Math.Option.{none, some}
use mathlib.Core.List.{List, [], ◌∷◌}
use native.Mathlib.Omega.{arith}
use Prim.Native.Nat.{ℕ, zero, suc, ◌+◌}
use Rattle.std.proofs.Math.Dec.{eqb}
use Rattle.std.proofs.Math.ListN.{get_elem?}
use Rattle.kit.specs.Pick.{pick}
use Rattle.kit.proofs.Laws.{yes!, no!, tests}
use Rattle.rules.specs.Tools.{when◌then◌else◌, ◌then◌}
use Rattle.rules.specs.Rows.{Outer, Num, encode, flag, number}
use Rattle.rules.specs.Laws.Results.{some_same, no_option}
use Rattle.places.specs.PlaceRows.{Floor, Located, located, located_of, counted_row}
use Rattle.row_parts.specs.Parts.{b_at, e_at, x_at, y_at}
use Rattle.scopes.specs.Scopes.{scope_of, find_in, scope_outward}
use Rattle.readings.specs.Meaning.{meant, in_scope, in_outer, outer_wanted, index_key, through_outer}
use Rattle.scopes.specs.declared.Key.TheVariants.{Number}
use Rattle.scopes.specs.declared.Wanted.TheVariants.{Out}
use Rattle.reading_laws.specs.Stand.{Is, b_part, e_part, x_part, y_part}
use Rattle.reading_laws.specs.Find.{search, find_in_lem}
use Rattle.reading_laws.specs.Floors.{Stands, Chain, first_row}
use Rattle.reading_laws.specs.Outward.{first_wanted, scope_outward_lem, count_out, count_past}

-- ---- the n-th of a space

module _ (space : ℕ) where
  pub number_some : (xs : List Located) (n number : ℕ) (x : Located) → get_elem? (located_of xs space) n ≡ some x → search space (Number (number + n)) number xs ≡ Some (record { row = x.row; number = number + n })
  unfolding search located_of when◌then◌else◌
  number_some [] n number x e = no_option x e
  number_some (y ∷ ys) n number x e =
      go (eqb y.standing.decl.space space) n e (λ m k q. number_some ys m k x q)
    where
      go : (b : Bool) (n : ℕ) → get_elem? (when b then y ∷ located_of ys space else located_of ys space) n ≡ some x
          → ((m k : ℕ) → get_elem? (located_of ys space) m ≡ some x → search space (Number (k + m)) k ys ≡ Some (record { row = x.row; number = k + m }))
          → pick (b && eqb (number + n) number) (Some (record { row = y.row; number = number })) (search space (Number (number + n)) (pick b (number + 1) number) ys) ≡ Some (record { row = x.row; number = number + n })
      go false n e below = sym (no! _ refl refl) ∙ (ap (λ (k : ℕ). search space (Number (number + n)) k ys) (sym (no! _ refl refl)) ∙ below n number e)
      go true zero e below =
          let here : eqb (number + 0) number ≡ true = omega tests in
          let same : number ≡ number + 0 = omega arith in
          sym (yes! _ here refl) ∙ (ap (λ (z : Located). Some (record { row = z.row; number = number })) (some_same y x e) ∙ ap (λ (k : ℕ). Some (record { row = x.row; number = k })) same)
      go true (suc n) e below =
          let past : eqb (number + suc n) number ≡ false = omega tests in
          let on : number + suc n ≡ (number + 1) + n = omega arith in
          sym (no! _ past refl)
          ∙ (ap (λ (k : ℕ). search space (Number (number + suc n)) k ys) (sym (yes! _ refl refl))
          ∙ (ap (λ (k : ℕ). search space (Number k) (number + 1) ys) on ∙ (below n (number + 1) e ∙ ap (λ (k : ℕ). Some (record { row = x.row; number = k })) (sym on))))

  pub number_none : (xs : List Located) (n number : ℕ) → get_elem? (located_of xs space) n ≡ none → search space (Number (number + n)) number xs ≡ None
  unfolding search located_of when◌then◌else◌
  number_none [] n number e = refl
  number_none (y ∷ ys) n number e = go (eqb y.standing.decl.space space) n e (λ m k q. number_none ys m k q)
    where
      go : (b : Bool) (n : ℕ) → get_elem? (when b then y ∷ located_of ys space else located_of ys space) n ≡ none
          → ((m k : ℕ) → get_elem? (located_of ys space) m ≡ none → search space (Number (k + m)) k ys ≡ None)
          → pick (b && eqb (number + n) number) (Some (record { row = y.row; number = number })) (search space (Number (number + n)) (pick b (number + 1) number) ys) ≡ None
      go false n e below = sym (no! _ refl refl) ∙ (ap (λ (k : ℕ). search space (Number (number + n)) k ys) (sym (no! _ refl refl)) ∙ below n number e)
      go true zero e below = no_option y (sym e)
      go true (suc n) e below =
          let past : eqb (number + suc n) number ≡ false = omega tests in
          let on : number + suc n ≡ (number + 1) + n = omega arith in
          sym (no! _ past refl)
          ∙ (ap (λ (k : ℕ). search space (Number (number + suc n)) k ys) (sym (yes! _ refl refl)) ∙ (ap (λ (k : ℕ). search space (Number k) (number + 1) ys) on ∙ below n (number + 1) e))

-- in a scope whose rows stand in a form
module _ (form : List ℕ) where
  pub counted_in_lem : (f : Floor) (outer space n : ℕ) (x : Located) → Stands form f outer → counted_row f space n ≡ some x → find_in form f.row space (Number n) ≡ Some (record { row = x.row; number = n })
  unfolding counted_row
  counted_in_lem f outer space n x S e =
      let same : 0 + n ≡ n = omega arith in
      find_in_lem form space (Number n) f.level.fields f.row S.fields S.fits
      ∙ (ap (λ (k : ℕ). search space (Number k) 0 (located f.row 0 f.level.fields)) (sym same)
      ∙ (number_some space (located f.row 0 f.level.fields) n 0 x e ∙ ap (λ (k : ℕ). Some (record { row = x.row; number = k })) same))

  pub meant_in_lem : (f : Floor) (outer out space n : ℕ) (x : Located) → Stands form f outer → counted_row f space n ≡ some x → in_scope form f.row out space (Number n) ≡ Some (record { row = x.row; number = n; out = out; name = x_at form x.row })
  unfolding in_scope meant
  meant_in_lem f outer out space n x S e = rw (counted_in_lem f outer space n x S e)

  pub nothing_in : (f : Floor) (outer out space n : ℕ) → Stands form f outer → counted_row f space n ≡ none → in_scope form f.row out space (Number n) ≡ None
  unfolding counted_row in_scope meant
  nothing_in f outer out space n S e =
      let same : 0 + n ≡ n = omega arith in
      let found : find_in form f.row space (Number n) ≡ None =
      find_in_lem form space (Number n) f.level.fields f.row S.fields S.fits
      ∙ (ap (λ (k : ℕ). search space (Number k) 0 (located f.row 0 f.level.fields)) (sym same) ∙ number_none space (located f.row 0 f.level.fields) n 0 e) in
      rw found

  pub stands_at : (fs : List Floor) (d : ℕ) (f : Floor) → Chain form fs → get_elem? fs d ≡ some f → (outer : ℕ) × Stands form f outer
  stands_at [] d f C e = no_option f e
  stands_at (g ∷ fs) zero f C e = (first_row fs, subst (λ (h : Floor). Stands form h (first_row fs)) (some_same g f e) C.0)
  stands_at (g ∷ fs) (suc d) f C e = stands_at fs d f C.1 e

  -- an OUTER of two numbers
  outer_in_lem : (fs : List Floor) (row space d n z : ℕ) (f : Floor) → Chain form fs → scope_of form row ≡ first_row fs → Is form row (Outer space (Num d) (Num n) z) → get_elem? fs d ≡ some f
      → through_outer form row ≡ in_scope form f.row d space (Number n)
  unfolding through_outer outer_wanted index_key in_outer encode flag number pick
  outer_in_lem fs row space d n z f C around is e =
      let flags : e_at form row ≡ 0 = ap e_part is in
      let up : x_at form row ≡ d = ap x_part is in
      let index : y_at form row ≡ n = ap y_part is in
      let sort : b_at form row ≡ space = ap b_part is in
      let same : d ≡ 0 + d = omega arith in
      let there : scope_outward form (first_row fs) (Out d) ≡ Some (record { scope = f.row; out = d }) =
      scope_outward_lem form (Out d) fs C ∙ (ap (λ (k : ℕ). first_wanted form (Out k) 0 fs) same ∙ (count_out form fs d 0 f e ∙ ap (λ (k : ℕ). Some (record { scope = f.row; out = k })) (sym same))) in
      rw (flags, up, index, sort, around, there)

  pub outer_meant : (fs : List Floor) (row space d n z : ℕ) (f : Floor) (x : Located) → Chain form fs → scope_of form row ≡ first_row fs → Is form row (Outer space (Num d) (Num n) z)
      → get_elem? fs d ≡ some f → counted_row f space n ≡ some x → through_outer form row ≡ Some (record { row = x.row; number = n; out = d; name = x_at form x.row })
  outer_meant fs row space d n z f x C around is e q = let S = stands_at fs d f C e in outer_in_lem fs row space d n z f C around is e ∙ meant_in_lem f S.0 d space n x S.1 q

  pub outer_nothing : (fs : List Floor) (row space d n z : ℕ) (f : Floor) → Chain form fs → scope_of form row ≡ first_row fs → Is form row (Outer space (Num d) (Num n) z)
      → get_elem? fs d ≡ some f → counted_row f space n ≡ none → through_outer form row ≡ None
  outer_nothing fs row space d n z f C around is e q = let S = stands_at fs d f C e in outer_in_lem fs row space d n z f C around is e ∙ nothing_in f S.0 d space n S.1 q

  -- or past the last scope
  pub outer_past : (fs : List Floor) (row space d n z : ℕ) → Chain form fs → scope_of form row ≡ first_row fs → Is form row (Outer space (Num d) (Num n) z) → get_elem? fs d ≡ none → through_outer form row ≡ None
  unfolding through_outer outer_wanted in_outer encode flag number pick
  outer_past fs row space d n z C around is e =
      let flags : e_at form row ≡ 0 = ap e_part is in
      let up : x_at form row ≡ d = ap x_part is in
      let same : d ≡ 0 + d = omega arith in
      let there : scope_outward form (first_row fs) (Out d) ≡ None = scope_outward_lem form (Out d) fs C ∙ (ap (λ (k : ℕ). first_wanted form (Out k) 0 fs) same ∙ count_past form fs d 0 e) in
      rw (flags, up, around, there)
