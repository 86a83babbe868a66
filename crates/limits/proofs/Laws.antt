-- Limits and the settings that they stand for.
use mathlib.Core.Path.{◌≡◌, refl, ap, ◌∙◌}
use mathlib.Core.List.{◌∷◌}
use native.Mathlib.Omega.{arith}
use Prim.Native.Nat.{ℕ, zero, suc, ◌*◌, ◌≤◌}
use mir.Syntax.{w64}
use mir.Val.{Fits}
use lib.ListN.{take, replicate}
use Rattle.kit.specs.Pick.{pick}
use Rattle.rules.specs.Versions.{version1, version2, today, as_claimed}
use Rattle.limits.specs.declared.Limits.{Limits}
use Rattle.limits.specs.Held.{rules_of, setting_in, limits_of, setting}

-- ---- the entries

module _ (i : ℕ) (l : Limits) where
  pub entry_two : i ≡ 1 → l ≡ limits_of (record { version = version2; rules = rules_of 0 }) → l ≡ limits_of (setting i)
  entry_two h e = e ∙ rw h

  pub entry_newer : i ≡ 2 → l ≡ limits_of (record { version = version2; rules = rules_of 1 }) → l ≡ limits_of (setting i)
  entry_newer h e = e ∙ rw h

  pub entry_else : (i ≡ 1 → ⊥) → (i ≡ 2 → ⊥) → l ≡ limits_of (setting 0) → l ≡ limits_of (setting i)
  entry_else n m e = e ∙ here i n m
    where
      here : (i : ℕ) → (i ≡ 1 → ⊥) → (i ≡ 2 → ⊥) → limits_of (setting 0) ≡ limits_of (setting i)
      here zero n m = refl
      here (suc zero) n m = absurd (n refl)
      here (suc (suc zero)) n m = absurd (m refl)
      here (suc (suc (suc i))) n m = refl

-- no setting has more rows
pub few_rows : (i : ℕ) → (setting i).version.rows ≤ 16383
few_rows zero = omega arith
few_rows (suc zero) = omega arith
few_rows (suc (suc zero)) = omega arith
few_rows (suc (suc (suc i))) = omega arith

module _ (i : ℕ) (l : Limits) (e : l ≡ limits_of (setting i)) where
  pub rows_fit : Fits w64 (4 * l.rows)
  rows_fit = let h : l.rows ≤ 16383 = rw e (few_rows i) in omega (arith, h)

  pub entry_claimed : record { version = l.version; header = l.header; wide = l.wide; names = 4294967295; rows = 4 * l.rows; scopes = l.scopes; rules = l.rules } ≡ limits_of (as_claimed (setting i))
  entry_claimed = rw e

-- ---- what they stand for

-- those of an input stand for its setting
pub stand_for : (i : ℕ) → setting_in (limits_of (setting i)) ≡ setting i
unfolding setting_in pick
stand_for zero = refl
stand_for (suc zero) = refl
stand_for (suc (suc zero)) = refl
stand_for (suc (suc (suc i))) = refl

-- and those of a claim for what an output is read by
pub stand_claimed : (i : ℕ) → setting_in (limits_of (as_claimed (setting i))) ≡ as_claimed (setting i)
unfolding setting_in pick
stand_claimed zero = refl
stand_claimed (suc zero) = refl
stand_claimed (suc (suc zero)) = refl
stand_claimed (suc (suc (suc i))) = refl

-- ---- as many places as scopes

-- a part of an array that is all zero
pub take_replicate : (n m : ℕ) → n ≤ m → take n (replicate {A = ℕ} m 0) ≡ replicate n 0
take_replicate zero m h = refl
take_replicate (suc n) zero h = absurd (omega arith)
take_replicate (suc n) (suc m) h = ap (λ l. 0 ∷ l) (take_replicate n m (omega arith))
