-- The ways through a copy.
use mathlib.Core.Path.{◌≡◌, refl, ap, ◌∙◌}
use mathlib.Core.List.{List, [], ◌∷◌}
use native.Mathlib.Omega.{arith}
use native.Mathlib.Numerals.{add-one}
use Prim.Native.Nat.{ℕ, zero, suc, ◌+◌, ◌≤◌, ◌<◌}
use lib.ListN.{length, get_or, set, drop, drop_of_length-le}
use lib.Seq.{sets, drop-cons}
use borrow.Author.Rules.{rules}

-- a store past the end
set_past : (l : List ℕ) (i v : ℕ) → length l ≤ i → l ≡ set l i v
set_past [] i v h = refl
set_past (x ∷ l) zero v h = absurd (omega arith)
set_past (x ∷ l) (suc i) v h = ap (λ k. x ∷ k) (set_past l i v (omega arith))

-- and a run of them
sets_past : (l : List ℕ) (i : ℕ) (vs : List ℕ) → length l ≤ i → l ≡ sets l i vs
sets_past l i [] h = refl
sets_past l i (v ∷ vs) h = rw (← set_past l i v h) (sets_past l (suc i) vs (omega arith))

module _ (to from T : List ℕ) (i k : ℕ) (inv : sets to i (drop k from) ≡ T) where
  pub copy_full : length to ≤ i → to ≡ T
  copy_full h = sets_past to i (drop k from) h ∙ inv

  pub copy_turn : k < length from → (b : ℕ) → b ≡ get_or from k 0 → sets (set to i b) (i + 1) (drop (k + 1) from) ≡ T
  copy_turn h b e = rw e (simp add-one (rw (drop-cons from k 0 h) at inv))

  pub copy_end : length from ≤ k → to ≡ T
  copy_end h = rw (drop_of_length-le from h) at inv

pub ruleset ways = (copy_full, copy_turn, copy_end, rules)
