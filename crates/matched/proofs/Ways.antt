-- Each turn of a loop keeps what its twin finds.
use mathlib.Core.Path.{◌≡◌, refl, sym, ◌∙◌}
use mathlib.Core.Bool.{Bool, true, false, not}
use mathlib.Core.List.{List}
use Prim.Native.Nat.{ℕ, zero, suc, ◌+◌, ◌-◌, ◌/◌, ◌<◌, ◌≤◌}
use native.Mathlib.Omega.{arith}
use lib.Dec.{leb}
use lib.ListN.{length}
use borrow.Author.Rules.{rules}
use borrow.Author.Tests.{leb-false, lt-ltb, le-ltb, le-leb, lt-leb, eq-eqb, ne_eqb}
use Rattle.kit.specs.Pick.{pick}
use Rattle.kit.proofs.Laws.{left_suc}
use Rattle.parts.specs.PartsAt.{parts_at}
use Rattle.parts.specs.declared.Parts.{Parts}
use Rattle.rules.specs.Laws.ToolLaws.{false_not}
use Rattle.comparing.specs.Compare.{Choice}
use Rattle.matched.specs.declared.fields.Rest.{Rest}
use Rattle.matched.specs.Counted.{same_t}
use Rattle.matched.specs.Alike.{code_of, is_behind, depth_behind, end_t, end_behind, field_end, same_run_t, same_field_t, next_t, front_t, more_t, back_t, tail_t, rest_from, front_of, end_of, middle_t}

-- ---- a test that is turned round

is_false : (b : Bool) → not b ≡ true → b ≡ false
is_false true h = sym h
is_false false h = refl

is_true : (b : Bool) → not b ≡ false → b ≡ true
is_true true h = refl
is_true false h = sym h

-- ---- depth_behind

module _ (d code : ℕ) where
  pub depth_open : code ≡ 7 → d + 1 ≡ depth_behind d code
  unfolding depth_behind pick
  depth_open h = rw (eq-eqb _ _ h)

  pub depth_other : (code ≡ 7 → ⊥) → (code ≡ 8 → ⊥) → d ≡ depth_behind d code
  unfolding depth_behind pick
  depth_other h g = rw (ne_eqb _ _ h, ne_eqb _ _ g)

  pub depth_close : code ≡ 8 → d - 1 ≡ depth_behind d code
  unfolding depth_behind pick
  depth_close h = rw h

  pub depth_none : code ≡ 8 → d ≡ 0 → 0 ≡ depth_behind d code
  unfolding depth_behind pick
  depth_none h g = rw (h, g)

pub ruleset depths = (depth_open, depth_other, depth_close, depth_none, rules)

pub code_is : (l : List ℕ) (i : ℕ) (p : Parts) → p ≡ parts_at l i → p.code ≡ code_of l i
code_is l i p e = rw e

-- ---- end_from

module _ (l : List ℕ) (n T : ℕ) where
  pub end_found : (j d code : ℕ) (b : Bool) → end_t l j d (n - j) ≡ T → j < n → code ≡ code_of l j → b ≡ is_behind d code → b ≡ true → j ≡ T
  unfolding end_t pick
  end_found j d code b inv h e f g =
      let t : is_behind d (code_of l j) ≡ true = rw (← e) (sym f ∙ g) in
      rw (left_suc j n h, t) at inv

  pub end_turn : (j d d' code : ℕ) (b : Bool) → end_t l j d (n - j) ≡ T → j < n → code ≡ code_of l j → b ≡ is_behind d code → b ≡ false → d' ≡ depth_behind d code → end_t l (j + 1) d' (n - (j + 1)) ≡ T
  unfolding end_t pick
  end_turn j d d' code b inv h e f g q =
      let t : is_behind d (code_of l j) ≡ false = rw (← e) (sym f ∙ g) in
      rw (q, e) (rw (left_suc j n h, t) at inv)

  pub end_done : (j d : ℕ) → end_t l j d (n - j) ≡ T → n ≤ j → j ≤ n → n ≡ T
  unfolding end_t
  end_done j d inv h g =
      let e : n - j ≡ 0 = omega arith in
      let f : n ≡ j = omega arith in
      f ∙ (rw e at inv)

pub ruleset ends = (end_found, end_turn, end_done, rules)

-- ---- field_end_lem

pub end_past : (l : List ℕ) (i : ℕ) → length l / 16 ≤ i → i ≡ field_end l i
unfolding field_end pick
end_past l i h = rw (le-leb _ _ h)

pub end_there : (l : List ℕ) (i r : ℕ) → i < length l / 16 → r ≡ end_behind l i → r ≡ field_end l i
unfolding field_end pick
end_there l i r h e = rw (lt-leb _ _ h) e

-- ---- same_run

module _ (c : Choice) (l r : List ℕ) (to : ℕ) (T : Bool) where
  pub run_other : (i : ℕ) (b : Bool) → same_run_t c l r i (to - i) ≡ T → i < to → b ≡ same_t c (parts_at l i) (parts_at r i) → not b ≡ true → false ≡ T
  unfolding same_run_t pick
  run_other i b inv h e f =
      let t : same_t c (parts_at l i) (parts_at r i) ≡ false = sym e ∙ is_false b f in
      rw (left_suc i to h, t) at inv

  pub run_turn : (i : ℕ) (b : Bool) → same_run_t c l r i (to - i) ≡ T → i < to → b ≡ same_t c (parts_at l i) (parts_at r i) → not b ≡ false → same_run_t c l r (i + 1) (to - (i + 1)) ≡ T
  unfolding same_run_t pick
  run_turn i b inv h e f =
      let t : same_t c (parts_at l i) (parts_at r i) ≡ true = sym e ∙ is_true b f in
      rw (left_suc i to h, t) at inv

  pub run_done : (i : ℕ) → same_run_t c l r i (to - i) ≡ T → to ≤ i → true ≡ T
  unfolding same_run_t
  run_done i inv h = let e : to - i ≡ 0 = omega arith in rw e at inv

pub ruleset runs = (run_other, run_turn, run_done, rules)

-- ---- same_field

module _ (c : Choice) (l r : List ℕ) (i end e : ℕ) (q : end ≡ end_behind l i) (h : e ≡ end_behind r i) where
  pub other_end : (e ≡ end → ⊥) → false ≡ same_field_t c l r i
  unfolding same_field_t pick
  other_end g = rw (← h, ← q, ne_eqb _ _ g)

  pub same_end : (b : Bool) → e ≡ end → b ≡ same_run_t c l r i (end - i) → b ≡ same_field_t c l r i
  unfolding same_field_t pick
  same_end b g f = rw (← h, ← q, eq-eqb _ _ g) f

-- ---- next

module _ (c : Choice) (l r : List ℕ) (i : ℕ) where
  pub next_left : length l / 16 ≤ i + 1 → i ≡ next_t c l r i
  unfolding next_t pick
  next_left h = rw (le-leb _ _ h)

  module _ (h : i + 1 < length l / 16) where
    pub next_right : length r / 16 ≤ i + 1 → i ≡ next_t c l r i
    unfolding next_t pick
    next_right g = rw (lt-leb _ _ h, le-leb _ _ g)

    module _ (g : i + 1 < length r / 16) (b : Bool) (f : b ≡ same_field_t c l r i) where
      pub next_same : (e : ℕ) → e ≡ end_behind l i → b ≡ true → e ≡ next_t c l r i
      unfolding next_t pick
      next_same e q t = let u : same_field_t c l r i ≡ true = sym f ∙ t in rw (lt-leb _ _ h, lt-leb _ _ g, u) q

      pub next_other : b ≡ false → i ≡ next_t c l r i
      unfolding next_t pick
      next_other t = let u : same_field_t c l r i ≡ false = sym f ∙ t in rw (lt-leb _ _ h, lt-leb _ _ g, u)

-- ---- front

-- the turns that are left of the twin's suffice
pub record FrontGoes (c : Choice) (l r : List ℕ) (i T : ℕ) : Type 0 where
  pub most : ℕ
  pub enough : length l / 16 ≤ i + most
  pub goes : front_t c l r i most ≡ T

module _ (c : Choice) (l r : List ℕ) where
  pub front_starts : FrontGoes c l r 1 (front_t c l r 1 (length l / 16))
  front_starts = record { most = length l / 16; enough = omega arith; goes = refl }

  module _ (i T : ℕ) (g : FrontGoes c l r i T) where
    pub front_done : length l / 16 ≤ i → i ≡ T
    unfolding front_t pick
    front_done h = go g.most g.goes
      where
        go : (most : ℕ) → front_t c l r i most ≡ T → i ≡ T
        go zero e = e
        go (suc k) e = rw (le-ltb _ _ h) at e

    pub front_other : (e : ℕ) → i < length l / 16 → e ≡ next_t c l r i → e ≤ i → i ≡ T
    unfolding front_t pick
    front_other e h q f = go g.most g.goes
      where
        go : (most : ℕ) → front_t c l r i most ≡ T → i ≡ T
        go zero w = w
        go (suc k) w = let t : leb (next_t c l r i) i ≡ true = rw (← q) (le-leb _ _ f) in rw (lt-ltb _ _ h, t) at w

    pub front_again : (e : ℕ) → i < length l / 16 → e ≡ next_t c l r i → i < e → FrontGoes c l r e T
    unfolding front_t pick
    front_again e h q f = go g.most g.enough g.goes
      where
        go : (most : ℕ) → length l / 16 ≤ i + most → front_t c l r i most ≡ T → FrontGoes c l r e T
        go zero n w = absurd (omega arith)
        go (suc k) n w =
            let t : leb (next_t c l r i) i ≡ false = rw (← q) (lt-leb _ _ f) in
            record { most = k; enough = omega arith; goes = rw q (rw (lt-ltb _ _ h, t) at w) }

-- ---- back

module _ (c : Choice) (l r : List ℕ) (from : ℕ) where
  pub none_more : (s : ℕ) → length r / 16 ≤ from + 1 + s → false ≡ more_t c l r from s
  unfolding more_t pick
  none_more s h = rw (le-leb _ _ h)

  pub more_there : (s : ℕ) (b : Bool) → from + 1 + s < length r / 16 → b ≡ same_t c (parts_at l (length l / 16 - 2 - s)) (parts_at r (length r / 16 - 2 - s)) → b ≡ more_t c l r from s
  unfolding more_t pick
  more_there s b h e = rw (lt-leb _ _ h) e

  pub more_room : (s : ℕ) (b : Bool) → b ≡ more_t c l r from s → not b ≡ false → s + 1 ≤ length r / 16 - (from + 1)
  unfolding more_t pick
  more_room s b e f = go (leb (length r / 16) (from + 1 + s)) refl (sym e ∙ is_true b f)
    where
      go : (t : Bool) → leb (length r / 16) (from + 1 + s) ≡ t → pick t false (same_t c (parts_at l (length l / 16 - 2 - s)) (parts_at r (length r / 16 - 2 - s))) ≡ true → s + 1 ≤ length r / 16 - (from + 1)
      go true h w = false_not w
      go false h w = let g : from + 1 + s < length r / 16 = leb-false _ _ h in omega arith

  -- the rows of the left behind `from`, but for the CLOSE
  abbrev k : ℕ
  k = length l / 16 - (from + 1)

  pub back_starts : back_t c l r from 0 (k - 0) ≡ back_t c l r from 0 k
  back_starts = let e : k - 0 ≡ k = omega arith in rw e

  module _ (T s : ℕ) (inv : back_t c l r from s (k - s) ≡ T) where
    pub back_done : length l / 16 ≤ from + 1 + s → s ≡ T
    unfolding back_t
    back_done h = let e : k - s ≡ 0 = omega arith in rw e at inv

    module _ (h : from + 1 + s < length l / 16) (b : Bool) (e : b ≡ more_t c l r from s) where
      more : k - s ≡ suc (k - (s + 1))
      more = omega arith

      pub back_other : not b ≡ true → s ≡ T
      unfolding back_t pick
      back_other f = let t : more_t c l r from s ≡ false = sym e ∙ is_false b f in rw (more, t) at inv

      pub back_turn : not b ≡ false → back_t c l r from (s + 1) (k - (s + 1)) ≡ T
      unfolding back_t pick
      back_turn f = let t : more_t c l r from s ≡ true = sym e ∙ is_true b f in rw (more, t) at inv

-- ---- tail

pub record TailGoes (l : List ℕ) (same i T : ℕ) : Type 0 where
  pub most : ℕ
  pub enough : length l / 16 ≤ i + most
  pub goes : tail_t l same i most ≡ T

module _ (l : List ℕ) (same : ℕ) where
  pub tail_starts : (i : ℕ) → TailGoes l same i (tail_t l same i (length l / 16))
  tail_starts i = record { most = length l / 16; enough = omega arith; goes = refl }

  module _ (i T : ℕ) (g : TailGoes l same i T) where
    pub tail_done : length l / 16 ≤ i + 1 + same → i ≡ T
    unfolding tail_t pick
    tail_done h = go g.most g.goes
      where
        go : (most : ℕ) → tail_t l same i most ≡ T → i ≡ T
        go zero e = e
        go (suc k) e = rw (le-ltb _ _ h) at e

    pub tail_again : (e : ℕ) → i + 1 + same < length l / 16 → e ≡ end_behind l i → i + 1 ≤ e → TailGoes l same e T
    unfolding tail_t pick
    tail_again e h q up = go g.most g.enough g.goes
      where
        go : (most : ℕ) → length l / 16 ≤ i + most → tail_t l same i most ≡ T → TailGoes l same e T
        go zero n w = absurd (omega arith)
        go (suc k) n w = record { most = k; enough = omega arith; goes = rw q (rw (lt-ltb _ _ h) at w) }

pub ruleset backs = (more_room, back_starts, back_done, back_other, back_turn, rules)

pub ruleset tails = (tail_starts, tail_done, tail_again, rules)

-- ---- middle

module _ (c : Choice) (l r : List ℕ) where
  pub left_short : (v : Rest) → v ≡ rest_from 1 1 1 → length l / 16 < 2 → v ≡ middle_t c l r
  unfolding middle_t pick
  left_short v e h = rw (lt-ltb _ _ h) e

  pub right_short : (v : Rest) → v ≡ rest_from 1 1 1 → 2 ≤ length l / 16 → length r / 16 < 2 → v ≡ middle_t c l r
  unfolding middle_t pick
  right_short v e h g = rw (le-ltb _ _ h, lt-ltb _ _ g) e

  pub rest_found : (f s e : ℕ) → 2 ≤ length l / 16 → 2 ≤ length r / 16 → f ≡ front_t c l r 1 (length l / 16) → s ≡ back_t c l r f 0 (length l / 16 - (f + 1)) → e ≡ tail_t l s f (length l / 16)
      → rest_from f e (e + length r / 16 - length l / 16) ≡ middle_t c l r
  unfolding middle_t pick front_of end_of
  rest_found f s e h g hf hs he = rw (le-ltb _ _ h, le-ltb _ _ g, he, hs, hf)
