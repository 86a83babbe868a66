-- The rows of allowed fields are the rules'.
use mathlib.Core.Path.{◌≡◌, refl, sym, ◌∙◌}
use mathlib.Core.Bool.{Bool, false, and-false}
use mathlib.Core.Logic.{⊎_elim}
use mathlib.Core.List.{List, [], ◌∷◌}
use native.Mathlib.Omega.{arith}
use Prim.Native.Nat.{ℕ, zero, suc, ◌<◌, ◌≤◌}
use lib.Dec.{eqb, ltb}
use lib.ListN.{get_or, get_or-eq_default}
use borrow.Author.Tests.{ne_eqb, lt-leb}
use Rattle.kit.specs.Pick.{pick}
use Rattle.kit.proofs.Laws.{lt_or_le, yes!, no!, tests}
use Rattle.kit.proofs.Tables.{values, same_table}
use Rattle.rules.specs.Shapes.{allowed}
use Rattle.allowed.specs.Rows.{in_rows, Allows}

no_such_kind : (kind code : ℕ) → 4 ≤ kind → false ≡ allowed kind code
unfolding allowed
no_such_kind kind code h = rw get_or-eq_default

no_such_field : (kind code : ℕ) → 26 ≤ code → false ≡ allowed kind code
unfolding allowed
no_such_field kind code h =
    rw (lt-leb code 22 (omega arith), lt-leb code 17 (omega arith), lt-leb code 11 (omega arith), ne_eqb code 25 (omega arith), ne_eqb code 4 (omega arith), ne_eqb code 5 (omega arith), ne_eqb code 21 (omega arith), ne_eqb code 23 (omega arith), ne_eqb code 24 (omega arith))
    (simp and-false (each kind))
  where
    each : (kind : ℕ) → false ≡ get_or (false ∷ false ∷ false ∷ false ∷ []) kind false
    each zero = refl
    each (suc zero) = refl
    each (suc (suc zero)) = refl
    each (suc (suc (suc zero))) = refl
    each (suc (suc (suc (suc kind)))) = refl

abbrev at_row : List (List ℕ) → (kind code : ℕ) → Bool
at_row rows kind code = eqb (get_or (get_or rows kind []) code 0) 49

-- rows of allowed fields are the rules' if they are so at each kind and code: one computed test
pub allowed_right : (rows : List (List ℕ)) → values (λ k. values (at_row rows k) 0 26) 0 4 ≡ values (λ k. values (allowed k) 0 26) 0 4 → Allows rows
unfolding Allows in_rows
allowed_right rows e kind code = ⊎_elim kinds (λ h. sym (no! _ (omega tests) refl) ∙ no_such_kind kind code h) (lt_or_le kind 4)
  where
    kinds : kind < 4 → pick (ltb kind 4) (pick (ltb code 26) (at_row rows kind code) false) false ≡ allowed kind code
    kinds h =
        sym (yes! _ (omega tests) refl)
        ∙ ⊎_elim (λ g. sym (yes! _ (omega tests) refl) ∙ same_table (at_row rows) allowed 4 26 kind code e h g)
        (λ g. sym (no! _ (omega tests) refl) ∙ no_such_field kind code g) (lt_or_le code 26)

module _ (rows : List (List ℕ)) (kind code : ℕ) where
  pub in_row : kind < 4 → code < 26 → eqb (get_or (get_or rows kind []) code 0) 49 ≡ in_rows rows kind code
  unfolding in_rows
  in_row h g = yes! _ (omega tests) (yes! _ (omega tests) refl)

  pub past_row : kind < 4 → 26 ≤ code → false ≡ in_rows rows kind code
  unfolding in_rows
  past_row h g = yes! _ (omega tests) (no! _ (omega tests) refl)

  pub past_rows : 4 ≤ kind → false ≡ in_rows rows kind code
  unfolding in_rows
  past_rows h = no! _ (omega tests) refl
