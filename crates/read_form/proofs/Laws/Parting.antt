-- What an equation between lists, or between a choice and nothing, says of their parts.
use Rattle.std.specs.Prelude.{◌≡◌, refl, List, [], ◌∷◌, ℕ}
use Rattle.std.proofs.Math.Option.{Option, none, some}
use Rattle.std.proofs.Common.{arith}
use Rattle.rules.specs.Tools.{◌or_else◌}

pub or_else_first : {A : Type 0} (a b : Option A) → (a or_else b) ≡ none → a ≡ none
unfolding ◌or_else◌
or_else_first none b e = refl
or_else_first (some x) b e = e

pub or_else_second : {A : Type 0} (a b : Option A) → (a or_else b) ≡ none → b ≡ none
unfolding ◌or_else◌
or_else_second none b e = e
or_else_second (some x) b e = let no_way : ◌≡◌ {A = ℕ} 0 1 = cc in absurd (omega arith)

pub no_cons : {X A : Type 0} {x : A} {xs : List A} → [] ≡ x ∷ xs → X
no_cons e = let no_way : ◌≡◌ {A = ℕ} 0 1 = cc in absurd (omega arith)

pub cons_head : {A : Type 0} {x y : A} {xs ys : List A} → x ∷ xs ≡ y ∷ ys → x ≡ y
cons_head e = cc

pub cons_tail : {A : Type 0} {x y : A} {xs ys : List A} → x ∷ xs ≡ y ∷ ys → xs ≡ ys
cons_tail e = cc
