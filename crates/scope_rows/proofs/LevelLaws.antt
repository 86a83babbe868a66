-- The ways through the code that goes through the rows of a scope.
use mathlib.Core.Path.{◌≡◌, refl, ◌∙◌}
use mathlib.Core.Bool.{Bool, true, false, ◌&&◌}
use mathlib.Core.List.{List}
use native.Mathlib.Omega.{arith}
use Prim.Native.Nat.{ℕ, suc, ◌+◌, ◌-◌, ◌≤◌, ◌<◌}
use borrow.Author.Rules.{rules}
use lib.Dec.{eqb}
use Rattle.kit.specs.Pick.{pick}
use Rattle.kit.proofs.Laws.{yes!, no!, tests, left_suc, down}
use Rattle.row_parts.proofs.PartLaws.{count_on_lem}
use Rattle.row_parts.specs.Parts.{code_at, b_at, count_on}
use Rattle.scope_rows.specs.Levels.{level_behind, level_on, level_above, scope_above, scope_of, declares, number_from, number_of}

-- ---- levels

module _ (level code : ℕ) where
  pub behind_open : code ≡ 7 → (r : ℕ) → r ≡ count_on level true → r ≡ level_on level code
  unfolding level_on
  behind_open h r e = yes! _ (omega tests) e

  -- below the highest count nothing stays
  pub level_on_lem : level < 4294967295 → level_on level code ≡ level_behind level code
  unfolding level_on level_behind pick
  level_on_lem h = rw (count_on_lem level true h)

  pub above_close : code ≡ 8 → level + 1 ≡ level_above level code
  unfolding level_above
  above_close h = yes! _ (omega tests) refl

  module _ (n : code ≡ 7 → ⊥) where
    pub behind_close : code ≡ 8 → (r : ℕ) → r ≡ level - 1 → r ≡ level_on level code
    unfolding level_on
    behind_close h r e = no! _ (omega tests) (yes! _ (omega tests) e)

    pub behind_other : (code ≡ 8 → ⊥) → level ≡ level_on level code
    unfolding level_on
    behind_other h = no! _ (omega tests) (no! _ (omega tests) refl)

  module _ (n : code ≡ 8 → ⊥) where
    pub above_open : code ≡ 7 → (r : ℕ) → r ≡ level - 1 → r ≡ level_above level code
    unfolding level_above
    above_open h r e = no! _ (omega tests) (yes! _ (omega tests) e)

    pub above_other : (code ≡ 7 → ⊥) → level ≡ level_above level code
    unfolding level_above
    above_other h = no! _ (omega tests) (no! _ (omega tests) refl)

-- ---- the scope of a row

pub scope_start : (form : List ℕ) (row : ℕ) → scope_above form row 0 ≡ scope_of form row
unfolding scope_of
scope_start form row = refl

module _ (form : List ℕ) (above level T : ℕ) (inv : scope_above form above level ≡ T) where
  pub scope_end : above ≤ 0 → 0 ≡ T
  unfolding scope_above
  scope_end h = let e : above ≡ 0 = omega arith in rw e at inv

  module _ (h : 0 < above) (c : ℕ) (code : c ≡ code_at form (above - 1)) (b : Bool) (bound : b ≡ (eqb level 0 && eqb c 7)) where
    step : pick b (above - 1 + 1) (scope_above form (above - 1) (level_above level c)) ≡ T
    unfolding scope_above
    step = let e : above - 1 + 1 ≡ suc (above - 1) = omega arith in rw (bound, code, e) (rw (down above h) at inv)

    pub scope_hit : b ≡ true → above - 1 + 1 ≡ T
    scope_hit e = yes! _ e refl ∙ step

    pub scope_on : b ≡ false → (l : ℕ) → l ≡ level_above level c → scope_above form (above - 1) l ≡ T
    scope_on e l hl = no! _ e (rw hl) ∙ step

-- ---- declarations

pub declares_is : (form : List ℕ) (row level space c b : ℕ) → c ≡ code_at form row → b ≡ b_at form row → (eqb level 0 && eqb c 2 && eqb b space) ≡ declares form row level space
unfolding declares
declares_is form row level space c b hc hb = rw (hc, hb)

pub number_start : (form : List ℕ) (decl space scope : ℕ) → space ≡ b_at form decl → scope ≡ scope_of form decl → number_from form space scope (decl - scope) 0 0 ≡ number_of form decl
unfolding number_of
number_start form decl space scope hb hs = rw (hb, hs)

module _ (form : List ℕ) (space decl row level number T : ℕ) (inv : number_from form space row (decl - row) level number ≡ T) where
  pub number_end : decl ≤ row → number ≡ T
  unfolding number_from
  number_end h = let e : decl - row ≡ 0 = omega arith in rw e at inv

  pub number_turn : row < decl → (d : Bool) (c n l : ℕ) → d ≡ declares form row level space → c ≡ code_at form row → n ≡ pick d (number + 1) number → l ≡ level_behind level c → number_from form space (row + 1) (decl - (row + 1)) l n ≡ T
  unfolding number_from
  number_turn h d c n l hd hc hn hl = rw (hn, hl, hd, hc) (rw (left_suc row decl h) at inv)

pub ruleset level_ways = (behind_open, above_close, behind_close, behind_other, above_open, above_other, declares_is, rules)

pub ruleset climb_ways = (scope_start, scope_end, scope_hit, scope_on, rules)

pub ruleset number_ways = (number_start, number_end, rules)
