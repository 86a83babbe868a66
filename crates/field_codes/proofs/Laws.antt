-- A case by a test, as the rules say it, and the codes that open nothing.
use mathlib.Core.Path.{◌≡◌, refl}
use mathlib.Core.Bool.{Bool, true, false}
use mathlib.Core.Option.{none}
use Prim.Native.Nat.{ℕ}
use borrow.Author.Tests.{ne_eqb}
use Rattle.rules.specs.Tools.{when◌then◌else◌}
use Rattle.rules.specs.Shapes as rules

module _ {A : Type 0} {x y : A} {b : Bool} where
  pub if_yes : (z : A) → b ≡ true → x ≡ y → x ≡ (when b then y else z)
  unfolding when◌then◌else◌
  if_yes z h e = rw h e

  pub if_no : (z : A) → b ≡ false → x ≡ y → x ≡ (when b then z else y)
  unfolding when◌then◌else◌
  if_no z h e = rw h e

pub opens_nothing : (code : ℕ) → (code ≡ 6 → ⊥) → (code ≡ 14 → ⊥) → (code ≡ 15 → ⊥) → (code ≡ 17 → ⊥) → none ≡ rules.opens code
unfolding rules.opens
opens_nothing code a b c d = if_no _ (ne_eqb code 6 a) (if_no _ (ne_eqb code 14 b) (if_no _ (ne_eqb code 15 c) (if_no _ (ne_eqb code 17 d) refl)))
