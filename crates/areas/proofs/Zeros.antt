-- Zeros up to an element, and one more: the ways through the loops.
use mathlib.Core.Path.{◌≡◌, refl, sym, ap, ◌∙◌}
use mathlib.Core.List.{List, [], ◌∷◌, ◌++◌}
use native.Mathlib.Omega.{arith}
use native.Mathlib.Numerals.{add-one}
use Prim.Native.Nat.{ℕ, zero, suc, ◌+◌, ◌≤◌, ◌<◌}
use lib.ListN.{length, set, take, drop, replicate}
use lib.Seq.{take_all}
use borrow.Author.Rules.{rules}
use Rattle.clearing.specs.Cleared.{cleared}
use Rattle.clearing.specs.Laws.{cleared_all, cleared_front}
use Rattle.kit.proofs.Laws.{take_next_set}

copies_snoc : {A : Type 0} (n : ℕ) (z : A) → replicate n z ++ (z ∷ []) ≡ replicate (suc n) z
copies_snoc zero z = refl
copies_snoc (suc n) z = ap (λ (l : List _). z ∷ l) (copies_snoc n z)

module _ {A : Type 0} (z : A) (l : List A) (i : ℕ) (inv : take i l ≡ replicate i z) where
  pub zero_turn : i < length l → take (i + 1) (set l i z) ≡ replicate (i + 1) z
  zero_turn h = take_next_set l i z h ∙ ap (λ (x : List A). x ++ (z ∷ [])) inv ∙ copies_snoc i z ∙ ap (λ (n : ℕ). replicate n z) (sym (add-one i))

  pub zero_end : (n : ℕ) → length l ≡ n → i ≤ length l → length l ≤ i → l ≡ replicate n z
  zero_end n len le ge =
      let e : i ≡ n = omega arith in
      sym (take_all i l ge) ∙ inv ∙ ap (λ (k : ℕ). replicate k z) e

pub ruleset ways = (zero_turn, zero_end, rules)

-- ---- the front of an area

pub ruleset fronts = (cleared_all, cleared_front, rules)
