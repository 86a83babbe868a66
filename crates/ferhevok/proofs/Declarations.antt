-- The number that each declaration is packed into.
use Rattle.std.specs.Prelude.{Option, Some}
use mathlib.Core.Path.{◌≡◌, refl, ap, ◌∙◌}
use mathlib.Core.List.{List}
use native.Mathlib.Omega.{arith}
use Prim.Native.Nat.{ℕ, ◌+◌, ◌*◌, ◌≤◌, ◌<◌}
use borrow.Author.Rules.{rules}
use Rattle.kit.proofs.Laws.{yes!, no!, tests}
use Rattle.meant.specs.Part.{meant_t}
use Rattle.ferhevok.specs.Meant.{packed_declared, meant_row}
use Rattle.meant.specs.declared.Declared.TheVariants.{Member, Prelude}
use Rattle.meant.specs.declared.Declared.{Declared}

module _ (d : Option Declared) where
  pub packs_member : (row n : ℕ) → d ≡ Some (Member row) → n ≡ 1 * 4294967296 + row → n ≡ packed_declared d
  packs_member row n e h = rw e (omega (arith, h))

  pub packs_prelude : (row n : ℕ) → d ≡ Some (Prelude row) → n ≡ 2 * 4294967296 + row → n ≡ packed_declared d
  packs_prelude row n e h = rw e (omega (arith, h))

module _ (prelude member : List ℕ) (row : ℕ) where
  pub past_rows : 65535 < row → 0 ≡ packed_declared (meant_row prelude member row)
  unfolding meant_row
  past_rows h = ap packed_declared (yes! _ (omega tests) refl)

  pub packs_row : row ≤ 65535 → (d : Option Declared) (r : ℕ) → d ≡ meant_t prelude member row → r ≡ packed_declared d → r ≡ packed_declared (meant_row prelude member row)
  unfolding meant_row
  packs_row h d r e q = q ∙ ap packed_declared (no! _ (omega tests) e)

pub ruleset declarations = (packs_member, packs_prelude, past_rows, packs_row, rules)
