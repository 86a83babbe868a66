-- In a scope: a number moves exactly if an inserted declaration of its space has it or a lower one.
use Rattle.std.specs.Prelude.{◌≡◌, Bool, ◌&&◌, ◌||◌, not, ◌⊎◌, eqb, leb, Some}
use Rattle.std.proofs.Math.Path.{refl, ap}
use Rattle.std.proofs.Common.{sym, ◌∙◌, inl, inr, arith}
use Rattle.std.proofs.Math.Bool.{true, false}
use Rattle.std.proofs.Math.Option.{some}
use mathlib.Core.List.{List, [], ◌∷◌, ◌++◌, map}
use Prim.Native.Nat.{ℕ, zero, suc, ◌+◌, ◌≤◌, ◌<◌}
use Rattle.std.proofs.Math.ListN.{get_elem?}
use Rattle.kit.specs.Pick.{pick}
use Rattle.kit.proofs.Laws.{tests}
use Rattle.rules.specs.Tools.{when◌then◌else◌}
use Rattle.rules.specs.Tree.{Declaration, Head, Fields, end, ◌▸◌, head_of}
use Rattle.rules.specs.Answer.{same_numbers}
use Rattle.rules.specs.Readings.{is_fresh, Level, Spot, original, inserted, Standing, in_original, standings, place}
use Rattle.rules.specs.Laws.ToolLaws.{All, done, ◌&◌, and-false}
use Rattle.rules.specs.Laws.Results.{some_same, no_option}
use Rattle.places.specs.PlaceRows.{Located, located_of}
use Rattle.places.specs.Counting.{standing}
use Rattle.moving.specs.Moved.{same_place}
use Rattle.moving.proofs.Laws.Lists.{Kin, nothing_left, stays, comes, NoneInFields, place_same}
use Rattle.scopes.specs.declared.Key.TheVariants.{Inserted}
use Rattle.numbers.specs.Entries.{reaches}
use Rattle.reading_laws.specs.Find.{search}

-- ---- those of a space

unfoldable pub of_one : (space : ℕ) → List Standing → List Standing
of_one space [] = []
of_one space (x ∷ xs) = when eqb x.decl.space space then x ∷ of_one space xs else of_one space xs

pub located_one : (space : ℕ) (xs : List Located) → map standing (located_of xs space) ≡ of_one space (map standing xs)
unfolding located_of of_one when◌then◌else◌
located_one space [] = refl
located_one space (x ∷ xs) = go (eqb x.standing.decl.space space) (located_one space xs)
  where
    go : (b : Bool) → map standing (located_of xs space) ≡ of_one space (map standing xs)
        → map standing (when b then x ∷ located_of xs space else located_of xs space) ≡ (when b then x.standing ∷ of_one space (map standing xs) else of_one space (map standing xs))
    go true e = ap {B = List Standing} (λ l. x.standing ∷ l) e
    go false e = e

pub kin_one : (space : ℕ) {xs ys : List Standing} → Kin xs ys → Kin (of_one space xs) (of_one space ys)
unfolding of_one when◌then◌else◌
kin_one space nothing_left = nothing_left
kin_one space (stays {x = x} {xs = xs} {ys = ys} k) = go (eqb x.decl.space space) (kin_one space k)
  where
    go : (b : Bool) → Kin (of_one space xs) (of_one space ys) → Kin (when b then x ∷ of_one space xs else of_one space xs) (when b then x ∷ of_one space ys else of_one space ys)
    go true r = stays r
    go false r = r
kin_one space (comes {d = d} {h = h} {xs = xs} {ys = ys} k) = go (eqb d.space space) (kin_one space k)
  where
    go : (b : Bool) → Kin (of_one space xs) (of_one space ys) → Kin (of_one space xs) (when b then record { decl = d; spot = inserted h } ∷ of_one space ys else of_one space ys)
    go true r = comes r
    go false r = r

pub all_one : {P : Standing → Type 0} (space : ℕ) (xs : List Standing) → All P xs → All P (of_one space xs)
unfolding of_one when◌then◌else◌
all_one space [] a = done
all_one {P} space (x ∷ xs) (h & a) = go (eqb x.decl.space space) (all_one space xs a)
  where
    go : (b : Bool) → All P (of_one space xs) → All P (when b then x ∷ of_one space xs else of_one space xs)
    go true r = h & r
    go false r = r

-- ---- the first inserted one, found by going through the declarations

-- is one of the first n + 1 inserted, by its name?
unfoldable pub fresh_to : List Standing → (n : ℕ) → Bool
fresh_to [] n = false
fresh_to (x ∷ xs) zero = is_fresh x.decl.name
fresh_to (x ∷ xs) (suc n) = is_fresh x.decl.name || fresh_to xs n

module _ (space : ℕ) where
  -- what is found has at least the number that the search begins with
  too_high : (xs : List Located) (start n : ℕ) → n < start → reaches (search space Inserted start xs) n ≡ false
  unfolding search reaches pick
  too_high [] start n h = refl
  too_high (x ∷ xs) start n h = go (eqb x.standing.decl.space space) (is_fresh x.standing.decl.name) (too_high xs start n h) (too_high xs (start + 1) n (omega arith))
    where
      go : (b c : Bool) → reaches (search space Inserted start xs) n ≡ false → reaches (search space Inserted (start + 1) xs) n ≡ false
          → reaches (pick (b && c) (Some (record { row = x.row; number = start })) (search space Inserted (pick b (start + 1) start) xs)) n ≡ false
      go true true e₁ e₂ = omega (tests, h)
      go true false e₁ e₂ = e₂
      go false c e₁ e₂ = e₁

  pub first_inserted : (xs : List Located) (start n : ℕ) → reaches (search space Inserted start xs) (start + n) ≡ fresh_to (map standing (located_of xs space)) n
  unfolding search reaches located_of when◌then◌else◌ fresh_to pick
  first_inserted [] start n = refl
  first_inserted (x ∷ xs) start n =
      go (eqb x.standing.decl.space space) (is_fresh x.standing.decl.name) refl n (λ from m. first_inserted xs from m) (too_high xs (start + 1) start (omega arith))
    where
      rest : List Standing
      rest = map standing (located_of xs space)

      found : (n : ℕ) → is_fresh x.standing.decl.name ≡ true → fresh_to (x.standing ∷ rest) n ≡ true
      found zero e = e
      found (suc n) e = rw e

      past : (n : ℕ) → is_fresh x.standing.decl.name ≡ false → ((from m : ℕ) → reaches (search space Inserted from xs) (from + m) ≡ fresh_to rest m)
          → reaches (search space Inserted (start + 1) xs) start ≡ false → reaches (search space Inserted (start + 1) xs) (start + n) ≡ fresh_to (x.standing ∷ rest) n
      past zero e below none_here = let same : start + 0 ≡ start = omega arith in ap (reaches (search space Inserted (start + 1) xs)) same ∙ (none_here ∙ sym e)
      past (suc n) e below none_here =
          let on : start + suc n ≡ (start + 1) + n = omega arith in
          ap (reaches (search space Inserted (start + 1) xs)) on ∙ (below (start + 1) n ∙ ap (λ (b : Bool). b || fresh_to rest n) (sym e))

      go : (b c : Bool) → is_fresh x.standing.decl.name ≡ c → (n : ℕ) → ((from m : ℕ) → reaches (search space Inserted from xs) (from + m) ≡ fresh_to rest m)
          → reaches (search space Inserted (start + 1) xs) start ≡ false
          → reaches (pick (b && c) (Some (record { row = x.row; number = start })) (search space Inserted (pick b (start + 1) start) xs)) (start + n)
          ≡ fresh_to (map standing (when b then x ∷ located_of xs space else located_of xs space)) n
      go true true e n below none_here = let low : leb start (start + n) ≡ true = omega tests in low ∙ sym (found n e)
      go true false e n below none_here = past n e below none_here
      go false c e n below none_here = below start n

-- ---- the declarations of original fields stand one behind another

abbrev After : (field at f a : ℕ) → Type 0
After field at f a = (field < f) ⊎ ((f ≡ field) × (at ≤ a))

-- each is of an original field, at this place of its scope or behind it, and behind those before it
pub data Rise : (field at : ℕ) → List Standing → Type 0 where
  no_more : {field at : ℕ} → Rise field at []
  then_on : {field at f a : ℕ} {d : Declaration} {xs : List Standing} → After field at f a → Rise f (suc a) xs → Rise field at (record { decl = d; spot = original f a } ∷ xs)

after_on : (field at f a g b : ℕ) → After field at f a → After f (suc a) g b → After field at g b
after_on field at f a g b (inl h) (inl k) = inl (omega (arith, h, k))
after_on field at f a g b (inl h) (inr k) = inl (omega (arith, h, k))
after_on field at f a g b (inr h) (inl k) = inl (omega (arith, h, k))
after_on field at f a g b (inr h) (inr k) = inr (omega (arith, h, k), omega (arith, h, k))

rise_from : (field at f a : ℕ) {xs : List Standing} → After field at f a → Rise f (suc a) xs → Rise field at xs
rise_from field at f a h no_more = no_more
rise_from field at f a h (then_on {f = g} {a = b} k r) = then_on (after_on field at f a g b h k) r

pub rise_one : (space : ℕ) {field at : ℕ} {xs : List Standing} → Rise field at xs → Rise field at (of_one space xs)
unfolding of_one when◌then◌else◌
rise_one space no_more = no_more
rise_one space {field} {at} (then_on {f = f} {a = a} {d = d} {xs = xs} h r) = go (eqb d.space space) (rise_one space r)
  where
    go : (b : Bool) → Rise f (suc a) (of_one space xs) → Rise field at (when b then record { decl = d; spot = original f a } ∷ of_one space xs else of_one space xs)
    go true q = then_on h q
    go false q = rise_from field at f a h q

next_field : (n at : ℕ) {xs : List Standing} → Rise (suc n) 0 xs → Rise n at xs
next_field n at no_more = no_more
next_field n at (then_on {f = f} {a = a} h r) = then_on (inl (go h)) r
  where
    go : After (suc n) 0 f a → n < f
    go (inl k) = omega (arith, k)
    go (inr k) = omega (arith, k)

rise_own : (n at : ℕ) (ds : List Declaration) {rest : List Standing} → Rise (suc n) 0 rest → Rise n at (in_original n at ds ++ rest)
unfolding in_original
rise_own n at [] r = next_field n at r
rise_own n at (d ∷ ds) r = then_on {field = n} {at = at} {f = n} {a = at} (inr (refl, omega arith)) (rise_own n (suc at) ds r)

pub rise_standings : (n : ℕ) (fs : Fields) → NoneInFields fs → Rise n 0 (standings n fs)
unfolding standings when◌then◌else◌
rise_standings n end h = no_more
rise_standings n (i ▸ fs) h = rw h.0 (rise_own n 0 (head_of i).decls (rise_standings (suc n) fs h.2))

rise_at : {field at : ℕ} {xs : List Standing} → Rise field at xs → (k : ℕ) (x : Standing) → get_elem? xs k ≡ some x → (f a : ℕ) × (x.spot ≡ original f a) × After field at f a
rise_at no_more k x e = no_option x e
rise_at (then_on {f = f} {a = a} h r) zero x e = (f, a, ap (λ (y : Standing). y.spot) (sym (some_same _ x e)), h)
rise_at {field} {at} (then_on {f = f} {a = a} h r) (suc k) x e =
    let I = rise_at r k x e in
    (I.0, I.1, I.2, after_on field at f a I.0 I.1 h I.3)

apart_places : (l l' : Level) (f a g b : ℕ) → After f (suc a) g b → same_place (place l (original g b)) (place l' (original f a)) ≡ false
unfolding same_place place
apart_places l l' f a g b (inl h) = let e : eqb g f ≡ false = omega (tests, h) in rw (e, and-false (same_numbers l.way l'.way))
apart_places l l' f a g b (inr h) = let e : eqb b a ≡ false = omega (tests, h) in rw (e, and-false (eqb g f), and-false (same_numbers l.way l'.way))

-- a later one is at another place
differ : {field at : ℕ} {xs : List Standing} → Rise field at xs → (l l' : Level) (j k : ℕ) (x y : Standing) → j < k → get_elem? xs j ≡ some y → get_elem? xs k ≡ some x
    → same_place (place l x.spot) (place l' y.spot) ≡ false
differ no_more l l' j k x y h ey ex = no_option y ey
differ (then_on h r) l l' j zero x y less ey ex = absurd (omega arith)
differ (then_on {f = f} {a = a} h r) l l' zero (suc k) x y less ey ex =
    let I = rise_at r k x ex in
    let there : y.spot ≡ original f a = ap (λ (s : Standing). s.spot) (sym (some_same _ y ey)) in
    rw (there, I.2) (apart_places l l' f a I.0 I.1 I.3)
differ (then_on h r) l l' (suc j) (suc k) x y less ey ex = differ r l l' j k x y (omega arith) ey ex

-- ---- in the output

-- fresh names are those of inserted declarations
abbrev pub Marked : Spot → (name : ℕ) → Type 0
Marked (original field at) name = is_fresh name ≡ false
Marked (inserted h) name = is_fresh name ≡ true

-- one of the output's is inserted, or it is one of the input's, no further behind
kin_where : {xs ys : List Standing} → Kin xs ys → (m : ℕ) (y : Standing) → get_elem? ys m ≡ some y → ((h : Head) × (y.spot ≡ inserted h)) ⊎ ((j : ℕ) × (j ≤ m) × (get_elem? xs j ≡ some y))
kin_where nothing_left m y e = no_option y e
kin_where (stays k) zero y e = inr (0, omega arith, e)
kin_where (stays {x = x} {xs = xs} k) (suc m) y e = go (kin_where k m y e)
  where
    go : ((h : Head) × (y.spot ≡ inserted h)) ⊎ ((j : ℕ) × (j ≤ m) × (get_elem? xs j ≡ some y)) → ((h : Head) × (y.spot ≡ inserted h)) ⊎ ((j : ℕ) × (j ≤ suc m) × (get_elem? (x ∷ xs) j ≡ some y))
    go (inl i) = inl i
    go (inr i) = inr (suc i.0, omega (arith, i.1), i.2)
kin_where (comes {h = h} k) zero y e = inl (h, ap (λ (s : Standing). s.spot) (sym (some_same _ y e)))
kin_where (comes {xs = xs} k) (suc m) y e = go (kin_where k m y e)
  where
    go : ((h : Head) × (y.spot ≡ inserted h)) ⊎ ((j : ℕ) × (j ≤ m) × (get_elem? xs j ≡ some y)) → ((h : Head) × (y.spot ≡ inserted h)) ⊎ ((j : ℕ) × (j ≤ suc m) × (get_elem? xs j ≡ some y))
    go (inl i) = inl i
    go (inr i) = inr (i.0, omega (arith, i.1), i.2)

-- an inserted one is at no place
nowhere : (l l' : Level) (x : Spot) (h : Head) → same_place (place l x) (place l' (inserted h)) ≡ false
unfolding same_place place
nowhere l l' (original field at) h = refl
nowhere l l' (inserted k) h = refl

module _ (l l' : Level) (same : l'.way ≡ l.way) where
  here_again : (f a : ℕ) → same_place (place l (original f a)) (place l' (original f a)) ≡ true
  unfolding place
  here_again f a = rw same (place_same (record { way = l.way; field = f; at = a }))

  -- the n-th of the input and of the output are at the same place exactly if none of the first n + 1 of the output is inserted
  pub moves : {xs ys : List Standing} → Kin xs ys → {field at : ℕ} → Rise field at xs → All (λ (y : Standing). Marked y.spot y.decl.name) ys → (n : ℕ) (x y : Standing)
      → get_elem? xs n ≡ some x → get_elem? ys n ≡ some y → same_place (place l x.spot) (place l' y.spot) ≡ not (fresh_to ys n)
  unfolding fresh_to
  moves nothing_left r marks n x y ex ey = no_option x ex
  moves (stays k) (then_on {f = f} {a = a} h r) (mark & marks) zero x y ex ey =
      let was : x.spot ≡ original f a = ap (λ (s : Standing). s.spot) (sym (some_same _ x ex)) in
      let now : y.spot ≡ original f a = ap (λ (s : Standing). s.spot) (sym (some_same _ y ey)) in
      rw (was, now, mark) (here_again f a)
  moves (stays k) (then_on h r) (mark & marks) (suc n) x y ex ey = rw mark (moves k r marks n x y ex ey)
  moves (comes {h = h} k) r (mark & marks) zero x y ex ey =
      let now : y.spot ≡ inserted h = ap (λ (s : Standing). s.spot) (sym (some_same _ y ey)) in
      rw (now, mark) (nowhere l l' x.spot h)
  moves (comes {xs = xs} k) r (mark & marks) (suc n) x y ex ey = rw mark (go (kin_where k n y ey))
    where
      go : ((h : Head) × (y.spot ≡ inserted h)) ⊎ ((j : ℕ) × (j ≤ n) × (get_elem? xs j ≡ some y)) → same_place (place l x.spot) (place l' y.spot) ≡ false
      go (inl i) = rw i.1 (nowhere l l' x.spot i.0)
      go (inr i) = differ r l l' i.0 (suc n) x y (omega (arith, i.1)) i.2 ex
