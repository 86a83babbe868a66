-- The scope of a row says all of how deep it lies in the scopes that are gone through: what stands in a scope is counted and found by it.
use Rattle.std.specs.Prelude.{Option, Some, None}
use mathlib.Core.Path.{◌≡◌, refl, sym, ◌∙◌}
use mathlib.Core.Bool.{Bool, true, false, ◌&&◌}
use mathlib.Core.Logic.{◌⊎◌, inl, inr}
use mathlib.Core.List.{List}
use native.Mathlib.Omega.{arith}
use native.Mathlib.Numerals.{add-one}
use native.Mathlib.Nat.{add-suc}
use Prim.Native.Nat.{ℕ, zero, suc, ◌+◌, ◌-◌, ◌≤◌, ◌<◌}
use borrow.Author.Tests.{eqb-true}
use lib.Dec.{eqb, eqb-suc-zero}
use Rattle.kit.specs.Pick.{pick}
use Rattle.kit.proofs.Laws.{yes!, no!, tests, lt_or_le}
use Rattle.row_parts.specs.Parts.{code_at, b_at, x_at, rows_in}
use Rattle.scopes.specs.Scopes.{level_behind, level_above, scope_above, scope_of, declares, number_from, number_of, is_meant, find_from, find_in}
use Rattle.scopes.specs.declared.Key.{Key}
use Rattle.scopes.specs.Tables.{stands, count_above, count_of, is_sought, first_above, found_at}
use Rattle.scopes.specs.declared.Found.{Found}

pub both_true : (a b : Bool) → (a && b) ≡ true → (a ≡ true) × (b ≡ true)
both_true true b e = (refl, e)
both_true false b e = absurd (let z : ◌≡◌ {A = ℕ} 0 1 = cc in omega arith)

-- ---- going up

above_opens : (l code : ℕ) → (eqb l 0 && eqb code 7) ≡ true → level_above (suc l) code ≡ 0
unfolding level_above pick
above_opens zero code h = by (eqb code 8) refl
  where
    by : (c : Bool) → eqb code 8 ≡ c → level_above 1 code ≡ 0
    by true c = let a = eqb-true code 8 c in let b = eqb-true code 7 h in absurd (omega arith)
    by false c = rw (c, h)
above_opens (suc l) code h = let f : false ≡ true = simp eqb-suc-zero at h in absurd (let z : ◌≡◌ {A = ℕ} 0 1 = cc in omega arith)

above_inside : (l code : ℕ) → (eqb l 0 && eqb code 7) ≡ false → level_above (suc l) code ≡ suc (level_above l code)
unfolding level_above pick
above_inside l code h = by (eqb code 8) refl (eqb code 7) refl l h
  where
    by : (c : Bool) → eqb code 8 ≡ c → (o : Bool) → eqb code 7 ≡ o → (l : ℕ) → (eqb l 0 && eqb code 7) ≡ false → level_above (suc l) code ≡ suc (level_above l code)
    by true c o e l h = rw c (omega arith)
    by false c true e zero h = let f : true ≡ false = rw e at h in absurd (let z : ◌≡◌ {A = ℕ} 0 1 = cc in omega arith)
    by false c true e (suc l) h = rw (c, e) (omega arith)
    by false c false e l h = rw (c, e)

-- behind a row, a level above it is one below
level_back : (l code : ℕ) → (eqb l 0 && eqb code 8) ≡ false → level_above (level_behind l code) code ≡ l
unfolding level_above level_behind pick
level_back l code h = by (eqb code 7) refl (eqb code 8) refl l h
  where
    by : (o : Bool) → eqb code 7 ≡ o → (c : Bool) → eqb code 8 ≡ c → (l : ℕ) → (eqb l 0 && eqb code 8) ≡ false → level_above (level_behind l code) code ≡ l
    by true o true c l h = let a = eqb-true code 7 o in let b = eqb-true code 8 c in absurd (omega arith)
    by true o false c l h = rw (o, c) (omega arith)
    by false o true c zero h = let f : true ≡ false = rw c at h in absurd (let z : ◌≡◌ {A = ℕ} 0 1 = cc in omega arith)
    by false o true c (suc l) h = rw (o, c) (omega arith)
    by false o false c l h = rw (o, c)

-- a level further in behind a row is one further in above it
level_in : (m l code : ℕ) → m < level_behind l code → (eqb m 0 && eqb code 7) ≡ false → level_above m code < l
unfolding level_above level_behind pick
level_in m l code i h = by (eqb code 7) refl (eqb code 8) refl m i h
  where
    by : (o : Bool) → eqb code 7 ≡ o → (c : Bool) → eqb code 8 ≡ c → (m : ℕ) → m < level_behind l code → (eqb m 0 && eqb code 7) ≡ false → level_above m code < l
    by true o true c m i h = let a = eqb-true code 7 o in let b = eqb-true code 8 c in absurd (omega arith)
    by true o false c zero i h = let f : true ≡ false = rw o at h in absurd (let z : ◌≡◌ {A = ℕ} 0 1 = cc in omega arith)
    by true o false c (suc m) i h = let j : suc m < l + 1 = rw o at i in rw (o, c) (omega arith)
    by false o true c m i h = let j : m < l - 1 = rw (o, c) at i in rw c (omega arith)
    by false o false c m i h = let j : m < l = rw (o, c) at i in rw (o, c) (omega arith)

-- behind an OPEN no scope is gone through on its own level
behind_opens : (l code : ℕ) → (eqb (level_behind l code) 0 && eqb code 7) ≡ false
unfolding level_behind pick
behind_opens l code = by (eqb code 7) refl
  where
    none : (b : Bool) → (b && false) ≡ false
    none true = refl
    none false = refl

    by : (o : Bool) → eqb code 7 ≡ o → (eqb (level_behind l code) 0 && eqb code 7) ≡ false
    by true o = rw (o, add-one, eqb-suc-zero l)
    by false o = rw o (none (eqb (pick (eqb code 8) (l - 1) l) 0))

module _ (form : List ℕ) where
  pub above_found : (above l : ℕ) → (eqb l 0 && eqb (code_at form above) 7) ≡ true → scope_above form (suc above) l ≡ suc above
  unfolding scope_above
  above_found above l h = sym (yes! _ h refl)

  pub above_on : (above l : ℕ) → (eqb l 0 && eqb (code_at form above) 7) ≡ false → scope_above form (suc above) l ≡ scope_above form above (level_above l (code_at form above))
  unfolding scope_above
  above_on above l h = sym (no! _ h refl)

  pub scope_least : (above l : ℕ) → scope_above form above l ≤ above
  unfolding scope_above
  scope_least zero l = omega arith
  scope_least (suc above) l = by (scope_least above (level_above l (code_at form above))) (eqb l 0 && eqb (code_at form above) 7) refl
    where
      by : scope_above form above (level_above l (code_at form above)) ≤ above → (b : Bool) → (eqb l 0 && eqb (code_at form above) 7) ≡ b → scope_above form (suc above) l ≤ suc above
      by i true h = let e = above_found above l h in omega arith
      by i false h = let e = above_on above l h in omega arith

  -- one level further out: past the OPEN that is found
  pub scope_further : (above l s : ℕ) → s ≡ scope_above form above l → scope_above form above (suc l) ≡ pick (eqb s 0) 0 (scope_above form (s - 1) 0)
  unfolding scope_above pick
  scope_further zero l s q = rw q
  scope_further (suc above) l s q = by (scope_further above (level_above l (code_at form above)) s) (eqb l 0 && eqb (code_at form above) 7) refl
    where
      by : (s ≡ scope_above form above (level_above l (code_at form above)) → scope_above form above (suc (level_above l (code_at form above))) ≡ pick (eqb s 0) 0 (scope_above form (s - 1) 0))
          → (b : Bool) → (eqb l 0 && eqb (code_at form above) 7) ≡ b → scope_above form (suc above) (suc l) ≡ pick (eqb s 0) 0 (scope_above form (s - 1) 0)
      by i true h =
          let f : s ≡ suc above = q ∙ above_found above l h in
          let e : suc above - 1 ≡ above = omega arith in
          above_on above (suc l) (rw (eqb-suc-zero l)) ∙ rw (above_opens l (code_at form above) h, f, eqb-suc-zero above, e)
      by i false h =
          above_on above (suc l) (rw (eqb-suc-zero l)) ∙ rw (above_inside l (code_at form above) h) (i (q ∙ above_on above l h))

  scope_less : (above l : ℕ) → scope_above form above (suc l) ≤ scope_above form above l - 1
  unfolding pick
  scope_less above l = by (scope_above form above l) refl
    where
      by : (s : ℕ) → s ≡ scope_above form above l → scope_above form above (suc l) ≤ scope_above form above l - 1
      by zero q = let e : scope_above form above (suc l) ≡ 0 = scope_further above l zero q in omega arith
      by (suc s) q =
          let d : suc s - 1 ≡ s = omega arith in
          let e : scope_above form above (suc l) ≡ scope_above form s 0 = scope_further above l (suc s) q ∙ rw (eqb-suc-zero s, d) in
          let m = scope_least s 0 in
          omega arith

  pub scope_most : (row : ℕ) → scope_of form row ≤ row
  unfolding scope_of
  scope_most row = scope_least row 0

  -- a scope's first row has it for its scope
  pub scope_again : (above l : ℕ) → scope_of form (scope_above form above l) ≡ scope_above form above l
  unfolding scope_of scope_above
  scope_again zero l = refl
  scope_again (suc above) l = by (scope_again above (level_above l (code_at form above))) (eqb l 0 && eqb (code_at form above) 7) refl
    where
      opens : (l : ℕ) (code : ℕ) → (eqb l 0 && eqb code 7) ≡ true → eqb code 7 ≡ true
      opens zero code h = h
      opens (suc l) code h = let f : false ≡ true = simp eqb-suc-zero at h in absurd (let z : ◌≡◌ {A = ℕ} 0 1 = cc in omega arith)

      by : scope_above form (scope_above form above (level_above l (code_at form above))) 0 ≡ scope_above form above (level_above l (code_at form above))
          → (b : Bool) → (eqb l 0 && eqb (code_at form above) 7) ≡ b → scope_above form (scope_above form (suc above) l) 0 ≡ scope_above form (suc above) l
      by i true h = rw (above_found above l h) (above_found above 0 (opens l (code_at form above) h))
      by i false h = rw (above_on above l h) i

-- ---- going down a scope

module _ (form : List ℕ) (s : ℕ) where
  -- at a row in it, `l` scopes are open inside it
  abbrev On : (row l : ℕ) → Type 0
  On row l = (scope_above form row l ≡ s) × ((m : ℕ) → m < l → s < scope_above form row m)

  on_step : (row l : ℕ) → s ≤ row → (eqb l 0 && eqb (code_at form row) 8) ≡ false → On row l → On (row + 1) (level_behind l (code_at form row))
  on_step row l b h o = rw add-one (above_on form row _ (behind_opens l (code_at form row)) ∙ rw (level_back l (code_at form row) h) o.0, within)
    where
      within : (m : ℕ) → m < level_behind l (code_at form row) → s < scope_above form (suc row) m
      within m i = by (eqb m 0 && eqb (code_at form row) 7) refl
        where
          by : (b : Bool) → (eqb m 0 && eqb (code_at form row) 7) ≡ b → s < scope_above form (suc row) m
          by true e = let f = above_found form row m e in omega arith
          by false e = let f = above_on form row m e in let j = o.1 (level_above m (code_at form row)) (level_in m l (code_at form row) i e) in omega arith

  -- a row stands in the scope itself just where no scope is open inside
  on_level : (row l : ℕ) → On row l → eqb l 0 ≡ eqb (scope_of form row) s
  unfolding scope_of
  on_level row zero o = let f = o.0 in let e : eqb (scope_above form row 0) s ≡ true = omega tests in sym e
  on_level row (suc l) o = let j = o.1 0 (omega arith) in let e : eqb (scope_above form row 0) s ≡ false = omega tests in eqb-suc-zero l ∙ sym e

  on_declares : (row l space : ℕ) → On row l → declares form row l space ≡ stands form s space row
  unfolding declares stands
  on_declares row l space o = rw (on_level row l o)

  -- ---- behind its CLOSE

  abbrev Past : (row : ℕ) → Type 0
  Past row = (m : ℕ) → scope_above form row m ≡ s → ⊥

  past_step : (row : ℕ) → s ≤ row → Past row → Past (suc row)
  past_step row b p m e = by (eqb m 0 && eqb (code_at form row) 7) refl
    where
      by : (b : Bool) → (eqb m 0 && eqb (code_at form row) 7) ≡ b → ⊥
      by true h = let f = above_found form row m h in omega arith
      by false h = p (level_above m (code_at form row)) (sym (above_on form row m h) ∙ e)

  past_more : (row more : ℕ) → s ≤ row → Past row → Past (row + more)
  past_more row zero b p = let e : row + 0 ≡ row = omega arith in rw e p
  past_more row (suc more) b p = rw add-suc (past_step (row + more) (omega arith) (past_more row more b p))

  scope_under : (row : ℕ) → 0 < s → scope_above form row 0 ≡ s → (m : ℕ) → scope_above form row (suc m) < s
  scope_under row b e zero = let f = scope_less form row 0 in omega arith
  scope_under row b e (suc m) = let f = scope_less form row (suc m) in let i = scope_under row b e m in omega arith

  above_close : (row l : ℕ) → eqb (code_at form row) 8 ≡ true → scope_above form (suc row) l ≡ scope_above form row (suc l)
  unfolding level_above pick
  above_close row l c =
      let e = eqb-true (code_at form row) 8 c in
      let f : (eqb l 0 && eqb (code_at form row) 7) ≡ false = rw e (none (eqb l 0)) in
      above_on form row l f ∙ rw c (rw add-one)
    where
      none : (b : Bool) → (b && false) ≡ false
      none true = refl
      none false = refl

  past_close : (row : ℕ) → 0 < s → scope_above form row 0 ≡ s → eqb (code_at form row) 8 ≡ true → Past (row + 1)
  past_close row b e c m q =
      let f : scope_above form (suc row) m ≡ s = rw add-one at q in
      let g = above_close row m c in
      let u = scope_under row b e m in
      omega arith

  -- outside every OPEN a CLOSE ends nothing
  root_close : (row : ℕ) → s ≡ 0 → scope_above form row 0 ≡ s → eqb (code_at form row) 8 ≡ true → On (row + 1) 0
  root_close row z e c =
      let g = above_close row 0 c in
      let u = scope_less form row 0 in
      let f : scope_above form (suc row) 0 ≡ s = omega arith in
      (rw add-one f, λ m h. absurd (omega arith))

  -- before a row of the scope itself, there is no CLOSE of it
  on_number : (row l left : ℕ) → s ≤ row → On row l → scope_of form (row + 1 + left) ≡ s → On (row + 1) (level_behind l (code_at form row))
  unfolding level_behind scope_of pick
  on_number row l left b o e = by (eqb l 0 && eqb (code_at form row) 8) refl
    where
      root : s ≡ 0 → l ≡ 0 → eqb (code_at form row) 8 ≡ true → On (row + 1) (level_behind l (code_at form row))
      root z k c =
          let p : scope_above form row 0 ≡ s = rw k at o.0 in
          let d = eqb-true (code_at form row) 8 c in
          let v : level_behind l (code_at form row) ≡ 0 = rw (d, k) in
          rw v (root_close row z p c)

      inner : 0 < s → l ≡ 0 → eqb (code_at form row) 8 ≡ true → On (row + 1) (level_behind l (code_at form row))
      inner z k c =
          let p : scope_above form row 0 ≡ s = rw k at o.0 in
          absurd (past_more (row + 1) left (omega arith) (past_close row z p c) 0 e)

      which : (0 < s) ⊎ (s ≤ 0) → l ≡ 0 → eqb (code_at form row) 8 ≡ true → On (row + 1) (level_behind l (code_at form row))
      which (inl z) k c = inner z k c
      which (inr z) k c = root (omega arith) k c

      by : (t : Bool) → (eqb l 0 && eqb (code_at form row) 8) ≡ t → On (row + 1) (level_behind l (code_at form row))
      by true h =
          let a = both_true (eqb l 0) (eqb (code_at form row) 8) h in
          which (lt_or_le 0 s) (eqb-true l 0 a.0) a.1
      by false h = on_step row l b h o

-- ---- the number of a declaration

module _ (form : List ℕ) (s space : ℕ) where
  pub count_most : (row : ℕ) → count_above form s space row ≤ row
  unfolding count_above
  count_most zero = omega arith
  count_most (suc row) = by (count_most row) (stands form s space row) refl
    where
      by : count_above form s space row ≤ row → (b : Bool) → stands form s space row ≡ b → count_above form s space (suc row) ≤ suc row
      by i true h = let e : count_above form s space (suc row) ≡ count_above form s space row + 1 = sym (yes! _ h refl) in omega arith
      by i false h = let e : count_above form s space (suc row) ≡ count_above form s space row = sym (no! _ h refl) in omega arith

  -- no row of a scope lies above its first
  stands_before : (row : ℕ) → row < s → stands form s space row ≡ false
  unfolding stands
  stands_before row h = let m = scope_most form row in let e : eqb (scope_of form row) s ≡ false = omega tests in rw e

  stands_past : (row : ℕ) → Past form s row → stands form s space row ≡ false
  unfolding stands scope_of
  stands_past row p = let n = p 0 in let e : eqb (scope_above form row 0) s ≡ false = omega tests in rw e

  -- what stands in a scope has the count of its space there
  pub stands_count : (row : ℕ) → stands form s space row ≡ true → count_of form row ≡ count_above form s space row
  unfolding stands count_of
  stands_count row h =
      let b = both_true (eqb (scope_of form row) s && eqb (code_at form row) 2) (eqb (b_at form row) space) h in
      let a = both_true (eqb (scope_of form row) s) (eqb (code_at form row) 2) b.0 in
      rw (eqb-true (scope_of form row) s a.0, eqb-true (b_at form row) space b.1)

  count_before : (row : ℕ) → row ≤ s → count_above form s space row ≡ 0
  unfolding count_above
  count_before zero h = refl
  count_before (suc row) h = sym (no! _ (stands_before row (omega arith)) (sym (count_before row (omega arith))))

  -- what comes of one row: the next is counted alike, and a row behind the CLOSE has another scope
  number_from_lem : (left row l n : ℕ) → s ≤ row → On form s row l → n ≡ count_above form s space row → scope_of form (row + left) ≡ s → number_from form space row left l n ≡ count_above form s space (row + left)
  unfolding number_from count_above
  number_from_lem zero row l n b o q e = let z : row + 0 ≡ row = omega arith in rw z q
  number_from_lem (suc left) row l n b o q e =
      let z : row + suc left ≡ row + 1 + left = omega arith in
      let next : pick (declares form row l space) (n + 1) n ≡ count_above form s space (row + 1) = rw (add-one row, on_declares form s row l space o, q) in
      rw z (number_from_lem left (row + 1) (level_behind l (code_at form row)) _ (omega arith) (on_number form s row l left b o (rw z at e)) next (rw z at e))

-- it counts those before it
pub number_count : (form : List ℕ) (row : ℕ) → number_of form row ≡ count_of form row
unfolding number_of count_of scope_of
number_count form row =
    let m = scope_least form row 0 in
    let s = scope_above form row 0 in
    let e : s + (row - s) ≡ row = omega arith in
    rw e at (number_from_lem form s (b_at form row) (row - s) s 0 0 (omega arith) (scope_again form row 0, λ m h. absurd (omega arith)) (sym (count_before form s (b_at form row) s (omega arith))) (rw e))

-- ---- the first declaration that has a key

module _ (form : List ℕ) (s space : ℕ) (key : Key) where
  abbrev Unsought : (row : ℕ) → Type 0
  Unsought row = (i : ℕ) → i < row → is_sought form s space key i ≡ false

  first_none : (row found : ℕ) → Unsought row → first_above form s space key row found ≡ found
  unfolding first_above pick
  first_none zero found n = refl
  first_none (suc row) found n = rw (n row (omega arith)) (first_none row found (λ i h. n i (omega arith)))

  first_hit : (row more found : ℕ) → Unsought row → is_sought form s space key row ≡ true → first_above form s space key (suc row + more) found ≡ suc row
  unfolding first_above pick
  first_hit row zero found n h =
      let z : suc row + 0 ≡ suc row = omega arith in
      rw z (rw h (first_none row (suc row) n))
  first_hit row (suc more) found n h = rw (add-suc (suc row) more) (first_hit row more _ n h)

  -- the number that the row has is that which was counted
  sought_is : (row l n : ℕ) → On form s row l → n ≡ count_above form s space row → (declares form row l space && is_meant key (x_at form row) n) ≡ is_sought form s space key row
  unfolding is_sought
  sought_is row l n o q = rw (on_declares form s row l space o) (by (stands form s space row) refl)
    where
      by : (b : Bool) → stands form s space row ≡ b → (b && is_meant key (x_at form row) n) ≡ (b && is_meant key (x_at form row) (count_of form row))
      by true h = rw (stands_count form s space row h, q)
      by false h = refl

  sought_before : (row : ℕ) → row < s → is_sought form s space key row ≡ false
  unfolding is_sought
  sought_before row h = rw (stands_before form s space row h)

  sought_past : (row : ℕ) → Past form s row → is_sought form s space key row ≡ false
  unfolding is_sought
  sought_past row p = rw (stands_past form s space row p)

  sought_close : (row : ℕ) → eqb (code_at form row) 8 ≡ true → is_sought form s space key row ≡ false
  unfolding is_sought stands
  sought_close row c =
      let e = eqb-true (code_at form row) 8 c in
      let d : eqb (code_at form row) 2 ≡ false = omega tests in
      rw d (none (eqb (scope_of form row) s))
    where
      none : (b : Bool) → ((b && false) && eqb (b_at form row) space && is_meant key (x_at form row) (count_of form row)) ≡ false
      none true = refl
      none false = refl

  -- behind the CLOSE there is none
  none_close : (row more : ℕ) → s ≤ row → Unsought row → eqb (code_at form row) 8 ≡ true → Past form s (row + 1) → Unsought more
  none_close row more b n c p i h = by (lt_or_le i row) (lt_or_le row i)
    where
      by : (i < row) ⊎ (row ≤ i) → (row < i) ⊎ (i ≤ row) → is_sought form s space key i ≡ false
      by (inl k) q = n i k
      by (inr k) (inl q) =
          let e : row + 1 + (i - (row + 1)) ≡ i = omega arith in
          sought_past i (rw e at (past_more form s (row + 1) (i - (row + 1)) (omega arith) p))
      by (inr k) (inr q) = let e : i ≡ row = omega arith in rw e (sought_close row c)

  none_on : (row : ℕ) → Unsought row → is_sought form s space key row ≡ false → Unsought (row + 1)
  none_on row n e i h = by (lt_or_le i row)
    where
      by : (i < row) ⊎ (row ≤ i) → is_sought form s space key i ≡ false
      by (inl k) = n i k
      by (inr k) = let q : i ≡ row = omega arith in rw q e

  module _ (inner : 0 < s) where
    find_from_lem : (left row l n : ℕ) → s ≤ row → On form s row l → n ≡ count_above form s space row → Unsought row → find_from form space key row left l n ≡ found_at form (first_above form s space key (row + left) 0)
    unfolding find_from found_at count_above is_sought
    find_from_lem zero row l n b o q e = let z : row + 0 ≡ row = omega arith in rw (z, first_none row 0 e)
    find_from_lem (suc left) row l n b o q e =
        let z : row + suc left ≡ row + 1 + left = omega arith in
        let next : pick (declares form row l space) (n + 1) n ≡ count_above form s space (row + 1) = rw (add-one row, on_declares form s row l space o, q) in
        rw z (by (eqb l 0 && eqb (code_at form row) 8) refl (is_sought form s space key row) refl (λ c m. find_from_lem left (row + 1) (level_behind l (code_at form row)) _ (omega arith) (on_step form s row l b c o) next (none_on row e m)))
      where
        T : Option Found
        T = found_at form (first_above form s space key (row + 1 + left) 0)

        by : (c : Bool) → (eqb l 0 && eqb (code_at form row) 8) ≡ c → (m : Bool) → is_sought form s space key row ≡ m
            → ((eqb l 0 && eqb (code_at form row) 8) ≡ false → is_sought form s space key row ≡ false → find_from form space key (row + 1) left (level_behind l (code_at form row)) (pick (declares form row l space) (n + 1) n) ≡ T)
            → pick (eqb l 0 && eqb (code_at form row) 8) None (pick (declares form row l space && is_meant key (x_at form row) n) (Some (record { row = row; number = n })) (find_from form space key (row + 1) left (level_behind l (code_at form row)) (pick (declares form row l space) (n + 1) n))) ≡ T
        by true h m w i =
            let a = both_true (eqb l 0) (eqb (code_at form row) 8) h in
            let p : scope_above form row 0 ≡ s = rw (eqb-true l 0 a.0) at o.0 in
            let f = first_none (row + 1 + left) 0 (none_close row (row + 1 + left) b e a.1 (past_close form s row inner p a.1)) in
            sym (yes! _ h (rw f))
        by false h true w i =
            let d = sought_is row l n o q ∙ w in
            let y : row + 1 + left ≡ suc row + left = omega arith in
            let f = first_hit row left 0 e w in
            let k : n ≡ count_of form row = q ∙ sym (stands_count form s space row (both_true (stands form s space row) _ w).0) in
            sym (no! _ h (yes! _ d (rw (y, f, k))))
        by false h false w i = sym (no! _ h (no! _ (sought_is row l n o q ∙ w) (sym (i h w))))

    -- a search through a scope finds what a search through all rows does
    pub find_first : scope_of form s ≡ s → s < rows_in form → found_at form (first_above form s space key (rows_in form) 0) ≡ find_in form s space key
    unfolding find_in scope_of
    find_first e h =
        let z : s + (rows_in form - s) ≡ rows_in form = omega arith in
        sym (rw z at (find_from_lem (rows_in form - s) s 0 0 (omega arith) (e, λ m k. absurd (omega arith)) (sym (count_before form s space s (omega arith))) sought_before))
