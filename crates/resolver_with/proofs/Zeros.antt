-- Ways through the areas' sizes, and what is left of an area whose front is zeroed.
use mathlib.Core.Path.{◌≡◌, sym, ap, ◌∙◌}
use mathlib.Core.Bool.{true, false}
use mathlib.Core.Logic.{◌⊎◌, inl, inr}
use mathlib.Core.List.{List, ◌++◌}
use native.Mathlib.Omega.{arith}
use Prim.Native.Nat.{ℕ, ◌-◌, ◌≤◌}
use lib.Dec.{eqb, leb}
use lib.ListN.{length, take, drop, replicate, drop_of_length-le}
use lib.Seq.{take_all, length-take-le}
use Rattle.kit.proofs.Laws.{tests, lt_or_le}
use Rattle.rules.specs.Versions.{Version}
use Rattle.limits.specs.declared.Limits.{Limits}
use Rattle.limits.specs.Held.{limits_of, setting}
use Rattle.limits.proofs.Laws.{few_rows}
use Rattle.names.specs.Table.{Slot}
use Rattle.clearing.specs.Cleared.{cleared}
use Rattle.resolver_with.specs.Areas.{slots_for, links_for, lent_of, roomy}
use Rattle.resolver_with.specs.Exact.{exactly}

-- ---- slots_for, links_for

module _ (i : ℕ) (l : Limits) (e : l ≡ limits_of (setting i)) where
  pub rows_are : l.rows ≡ (setting i).version.rows
  rows_are = ap (λ (x : Limits). x.rows) e

  pub rows_few : l.rows ≤ 16383
  rows_few = omega (arith, rows_are, few_rows i)

-- ---- an area of which the front is lent

either : {A B C : Type 0} → A ⊎ B → (A → C) → (B → C) → C
either (inl a) f g = f a
either (inr b) f g = g b

module _ {A : Type 0} (size a : ℕ) (l : List A) (least : a ≡ size - (size - length l)) where
  front_length : length (take a l) ≡ a
  front_length = length-take-le a l (omega arith)

  rest_is : drop a l ≡ drop size l
  rest_is =
      either (lt_or_le (length l) size)
      (λ h. drop_of_length-le l {i = a} (omega arith) ∙ sym (drop_of_length-le l {i = size} (omega arith)))
      (λ h. let e : a ≡ size = omega arith in ap (λ (k : ℕ). drop k l) e)

  taken : length (take size l) ≡ a
  taken =
      either (lt_or_le (length l) size)
      (λ h. ap length (take_all size l (omega arith)) ∙ (omega arith))
      (λ h. length-take-le size l h ∙ (omega arith))

  pub cleared_is : (z : A) (f : List A) → f ≡ replicate (length (take a l)) z → f ++ drop a l ≡ cleared z size l
  unfolding cleared
  cleared_is z f e = rw (e, front_length, rest_is, taken)

  -- the front has the size exactly where the area is not too small
  fits : eqb (length (take a l)) size ≡ leb size (length l)
  fits =
      either (lt_or_le (length l) size)
      (λ h. let f : eqb (length (take a l)) size ≡ false = omega (tests, front_length) in let g : leb size (length l) ≡ false = omega tests in f ∙ sym g)
      (λ h. let f : eqb (length (take a l)) size ≡ true = omega (tests, front_length) in let g : leb size (length l) ≡ true = omega tests in f ∙ sym g)

module _ (v : Version) (e n : List Slot) (k c m : List ℕ) (a b d f g : ℕ)
    (ea : a ≡ slots_for v - (slots_for v - length e)) (eb : b ≡ slots_for v - (slots_for v - length n)) (ed : d ≡ links_for v - (links_for v - length k)) (ef : f ≡ links_for v - (links_for v - length c)) (eg : g ≡ slots_for v - (slots_for v - length m)) where
  pub exact_is : exactly v (lent_of (take a e) (take b n) (take d k) (take f c) (take g m)) ≡ roomy v (lent_of e n k c m)
  unfolding exactly roomy
  exact_is = rw (fits (slots_for v) a e ea, fits (slots_for v) b n eb, fits (links_for v) d k ed, fits (links_for v) f c ef, fits (slots_for v) g m eg)
