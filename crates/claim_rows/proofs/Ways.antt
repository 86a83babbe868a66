-- Each way through the code finds what its twin finds.
use Rattle.std.specs.Prelude.{Result, Ok, Err, ⊤, ℕ}
use mathlib.Core.Path.{◌≡◌, refl, sym}
use mathlib.Core.Bool.{Bool, true, false, not}
use mathlib.Core.List.{List, [], ◌∷◌}
use Prim.Native.Nat.{ℕ, ◌+◌, ◌-◌, ◌/◌, ◌<◌, ◌≤◌}
use native.Mathlib.Omega.{arith}
use lib.ListN.{length}
use borrow.Author.Rules.{rules}
use borrow.Author.Tests.{lt-ltb, le-ltb, le-leb, lt-leb, eq-eqb, ne_eqb}
use Rattle.kit.specs.Pick.{pick}
use Rattle.kit.proofs.Laws.{left_suc}
use Rattle.parts.specs.PartsAt.{parts_at}
use Rattle.parts.specs.declared.Parts.{Parts}
use Rattle.claim_rows.specs.Left.{rows_from, rows_at}
use Rattle.claim_rows.specs.Added.{any_fresh, is_added_t}
use Rattle.claim_rows.specs.Same.{depth_behind_t, is_same_t, other_t, same_breaks_t, past_paths, same_next_t, rows_behind_t, rest_t, differs_t}

-- ---- a test that is turned round

pub is_false : (b : Bool) → not b ≡ true → b ≡ false
is_false true h = sym h
is_false false h = refl

pub is_true : (b : Bool) → not b ≡ false → b ≡ true
is_true true h = refl
is_true false h = sym h

-- ---- the rows that are left

pub rows_there : (l : List ℕ) (i : ℕ) → i < length l / 16 → rows_at l i ≡ parts_at l i ∷ rows_at l (i + 1)
unfolding rows_at rows_from
rows_there l i h = rw (left_suc i (length l / 16) h)

pub rows_past : (l : List ℕ) (i : ℕ) → length l / 16 ≤ i → rows_at l i ≡ []
unfolding rows_at rows_from
rows_past l i h = let e : length l / 16 - i ≡ 0 = omega arith in rw e

-- ---- any_fresh, is_added

module _ (l : List ℕ) (T : Bool) (i : ℕ) (inv : any_fresh (rows_at l i) ≡ T) where
  pub fresh_none : length l / 16 ≤ i → false ≡ T
  unfolding any_fresh
  fresh_none h = rw (rows_past l i h) at inv

  module _ (h : i < length l / 16) (p : Parts) (e : p ≡ parts_at l i) where
    next : any_fresh (p ∷ rows_at l (i + 1)) ≡ T
    next = rw e (rw (rows_there l i h) at inv)

    pub fresh_other : (p.code ≡ 2 → ⊥) → false ≡ T
    unfolding any_fresh pick
    fresh_other g = rw (ne_eqb _ _ g) at next

    pub fresh_found : p.code ≡ 2 → 2147483648 ≤ p.x → true ≡ T
    unfolding any_fresh pick
    fresh_found g k = rw (eq-eqb _ _ g, le-leb _ _ k) at next

    pub fresh_turn : p.code ≡ 2 → p.x < 2147483648 → any_fresh (rows_at l (i + 1)) ≡ T
    unfolding any_fresh pick
    fresh_turn g k = rw (eq-eqb _ _ g, lt-leb _ _ k) at next

pub ruleset freshes = (fresh_none, fresh_other, fresh_found, fresh_turn, rules)

module _ (before : Bool) (code : ℕ) (ps : List Parts) where
  pub added_field : (b : Bool) → code ≡ 1 → b ≡ any_fresh ps → b ≡ is_added_t before code ps
  unfolding is_added_t pick
  added_field b h e = rw (eq-eqb _ _ h) e

  pub added_close : code ≡ 8 → false ≡ is_added_t before code ps
  unfolding is_added_t pick
  added_close h = rw h

  pub added_other : (code ≡ 1 → ⊥) → (code ≡ 8 → ⊥) → before ≡ is_added_t before code ps
  unfolding is_added_t pick
  added_other h g = rw (ne_eqb _ _ h, ne_eqb _ _ g)

pub ruleset adding = (added_field, added_close, added_other, rules)

-- ---- depth_behind

module _ (d code : ℕ) (b : Bool) where
  pub depth_inner : code ≡ 1 → 1 < d → d ≡ depth_behind_t d code b
  unfolding depth_behind_t pick
  depth_inner h g = rw (h, lt-ltb _ _ g)

  pub depth_added : code ≡ 1 → d ≤ 1 → b ≡ true → 1 ≡ depth_behind_t d code b
  unfolding depth_behind_t pick
  depth_added h g k = rw (h, le-ltb _ _ g, k)

  pub depth_own : code ≡ 1 → d ≤ 1 → b ≡ false → 0 ≡ depth_behind_t d code b
  unfolding depth_behind_t pick
  depth_own h g k = rw (h, le-ltb _ _ g, k)

  pub depth_close : code ≡ 8 → d - 1 ≡ depth_behind_t d code b
  unfolding depth_behind_t pick
  depth_close h = rw h

  pub depth_end : code ≡ 8 → d ≡ 0 → 0 ≡ depth_behind_t d code b
  unfolding depth_behind_t pick
  depth_end h g = rw (h, g)

  pub depth_outside : code ≡ 7 → d ≡ 0 → 0 ≡ depth_behind_t d code b
  unfolding depth_behind_t pick
  depth_outside h g = rw (h, g)

  pub depth_open : code ≡ 7 → (d ≡ 0 → ⊥) → d + 1 ≡ depth_behind_t d code b
  unfolding depth_behind_t pick
  depth_open h g = rw (h, ne_eqb _ _ g)

  pub depth_other : (code ≡ 1 → ⊥) → (code ≡ 8 → ⊥) → (code ≡ 7 → ⊥) → d ≡ depth_behind_t d code b
  unfolding depth_behind_t pick
  depth_other h g k = rw (ne_eqb _ _ h, ne_eqb _ _ g, ne_eqb _ _ k)

pub ruleset depths = (depth_inner, depth_added, depth_own, depth_close, depth_end, depth_outside, depth_open, depth_other, rules)

-- ---- breaks

module _ (p : Parts) (d : ℕ) where
  pub breaks_path : (qs : List Parts) → p.code ≡ 4 → true ≡ same_breaks_t p d qs
  unfolding same_breaks_t pick
  breaks_path qs h = rw (eq-eqb _ _ h)

  module _ (h : p.code ≡ 4 → ⊥) where
    pub breaks_added : (qs : List Parts) → 0 < d → false ≡ same_breaks_t p d qs
    unfolding same_breaks_t pick
    breaks_added qs g = rw (ne_eqb _ _ h, lt-ltb _ _ g)

    module _ (l : List ℕ) (j : ℕ) (g : d ≤ 0) where
      pub breaks_past : length l / 16 ≤ j → true ≡ same_breaks_t p d (rows_at l j)
      unfolding same_breaks_t pick other_t
      breaks_past k = rw (ne_eqb _ _ h, le-ltb _ _ g, rows_past l j k)

      pub breaks_other : (q : Parts) (b : Bool) → j < length l / 16 → q ≡ parts_at l j → b ≡ is_same_t p q → not b ≡ same_breaks_t p d (rows_at l j)
      unfolding same_breaks_t pick other_t
      breaks_other q b k e f = rw (ne_eqb _ _ h, le-ltb _ _ g, rows_there l j k, ← e, f)

pub ruleset breaking = (breaks_path, breaks_added, breaks_past, breaks_other, rules)

-- ---- past_paths, behind

module _ (l : List ℕ) (i : ℕ) (T : List Parts) (inv : past_paths (rows_at l i) ≡ T) where
  pub paths_none : length l / 16 ≤ i → rows_at l (length l / 16) ≡ T
  unfolding past_paths
  paths_none h = rw (rows_past l (length l / 16) (omega arith)) (rw (rows_past l i h) at inv)

  module _ (h : i < length l / 16) (p : Parts) (e : p ≡ parts_at l i) where
    pub paths_done : (p.code ≡ 4 → ⊥) → rows_at l i ≡ T
    unfolding past_paths pick
    paths_done g =
        let w : past_paths (p ∷ rows_at l (i + 1)) ≡ T = rw e (rw (rows_there l i h) at inv) in
        rw (rows_there l i h, ← e) (rw (ne_eqb _ _ g) at w)

    pub paths_turn : p.code ≡ 4 → past_paths (rows_at l (i + 1)) ≡ T
    unfolding past_paths pick
    paths_turn g =
        let w : past_paths (p ∷ rows_at l (i + 1)) ≡ T = rw e (rw (rows_there l i h) at inv) in
        rw (eq-eqb _ _ g) at w

pub ruleset passing = (paths_none, paths_done, paths_turn, rules)

module _ (d : ℕ) (l : List ℕ) (j : ℕ) where
  pub behind_added : 0 < d → rows_at l j ≡ rows_behind_t d (rows_at l j)
  unfolding rows_behind_t pick
  behind_added h = rw (lt-ltb _ _ h)

  pub behind_past : d ≤ 0 → length l / 16 ≤ j → rows_at l j ≡ rows_behind_t d (rows_at l j)
  unfolding rows_behind_t pick same_next_t
  behind_past h g = rw (le-ltb _ _ h, rows_past l j g)

  pub behind_own : (r : ℕ) → d ≤ 0 → j < length l / 16 → rows_at l r ≡ past_paths (rows_at l (j + 1)) → rows_at l r ≡ rows_behind_t d (rows_at l j)
  unfolding rows_behind_t pick same_next_t
  behind_own r h g e = rw (le-ltb _ _ h, rows_there l j g) e

pub ruleset following = (behind_added, behind_past, behind_own, rules)

-- ---- try_rows

module _ (l w : List ℕ) (T : Result ⊤ ℕ) (i d j : ℕ) (inv : differs_t i d (rows_at l i) (rows_at w j) ≡ T) where
  module _ (h : i < length l / 16) (p : Parts) (e : p ≡ parts_at l i) (b : Bool) (f : b ≡ is_added_t false p.code (rows_at l (i + 1))) (d' : ℕ) (g : d' ≡ depth_behind_t d p.code b) (t : Bool) (k : t ≡ same_breaks_t p d' (rows_at w j)) where
    turn : pick t (Err i) (differs_t (i + 1) d' (rows_at l (i + 1)) (rows_behind_t d' (rows_at w j))) ≡ T
    unfolding differs_t
    turn = let q : d' ≡ depth_behind_t d p.code (is_added_t false p.code (rows_at l (i + 1))) = rw (← f) g in rw (k, q, e) (rw (rows_there l i h) at inv)

    pub row_breaks : t ≡ true → Err i ≡ T
    unfolding pick
    row_breaks z = rw z at turn

    pub row_passes : (j' : ℕ) → t ≡ false → rows_at w j' ≡ rows_behind_t d' (rows_at w j) → differs_t (i + 1) d' (rows_at l (i + 1)) (rows_at w j') ≡ T
    unfolding pick
    row_passes j' z q = rw q (rw z at turn)

  module _ (h : length l / 16 ≤ i) where
    pub rows_missing : i ≤ length l / 16 → j < length w / 16 → Err (length l / 16) ≡ T
    unfolding differs_t rest_t
    rows_missing g k = let q : length l / 16 ≡ i = omega arith in rw q (rw (rows_past l i h, rows_there w j k) at inv)

    pub all_passed : length w / 16 ≤ j → Ok tt ≡ T
    unfolding differs_t rest_t
    all_passed k = rw (rows_past l i h, rows_past w j k) at inv

pub ruleset turns = (row_breaks, row_passes, rows_missing, all_passed, rules)
