-- What is tested of parts, by their code.
use mathlib.Core.Path.{◌≡◌}
use mathlib.Core.Bool.{Bool, false}
use Prim.Native.Nat.{ℕ}
use borrow.Author.Rules.{rules}
use borrow.Author.Tests.{ne_eqb}
use Rattle.kit.specs.Pick.{pick}
use Rattle.parts.specs.declared.Parts.{Parts}
use Rattle.sound.specs.Sound.{is_lone, is_field, is_decl, is_ref, is_outer, is_case, is_open, is_close, is_sound}

module _ (top : ℕ) (p : Parts) (t : Bool) where
  pub tests_field : p.code ≡ 1 → t ≡ is_field p → t ≡ is_sound top p
  unfolding is_sound pick
  tests_field h e = rw h e

  pub tests_decl : p.code ≡ 2 → t ≡ is_decl top p → t ≡ is_sound top p
  unfolding is_sound pick
  tests_decl h e = rw h e

  pub tests_ref : p.code ≡ 3 → t ≡ is_ref top p → t ≡ is_sound top p
  unfolding is_sound pick
  tests_ref h e = rw h e

  pub tests_path : p.code ≡ 4 → t ≡ is_lone p → t ≡ is_sound top p
  unfolding is_sound pick
  tests_path h e = rw h e

  pub tests_outer : p.code ≡ 5 → t ≡ is_outer top p → t ≡ is_sound top p
  unfolding is_sound pick
  tests_outer h e = rw h e

  pub tests_case : p.code ≡ 6 → t ≡ is_case top p → t ≡ is_sound top p
  unfolding is_sound pick
  tests_case h e = rw h e

  pub tests_open : p.code ≡ 7 → t ≡ is_open top p → t ≡ is_sound top p
  unfolding is_sound pick
  tests_open h e = rw h e

  pub tests_close : p.code ≡ 8 → t ≡ is_close p → t ≡ is_sound top p
  unfolding is_sound pick
  tests_close h e = rw h e

  pub tests_export : p.code ≡ 9 → t ≡ is_lone p → t ≡ is_sound top p
  unfolding is_sound pick
  tests_export h e = rw h e

pub tests_none : (top : ℕ) (p : Parts) → (p.code ≡ 1 → ⊥) → (p.code ≡ 2 → ⊥) → (p.code ≡ 3 → ⊥) → (p.code ≡ 4 → ⊥) → (p.code ≡ 5 → ⊥) → (p.code ≡ 6 → ⊥) → (p.code ≡ 7 → ⊥) → (p.code ≡ 8 → ⊥) → (p.code ≡ 9 → ⊥) → false ≡ is_sound top p
unfolding is_sound pick
tests_none top p a b c d e f g h i =
    let k = p.code in
    rw (ne_eqb k 1 a, ne_eqb k 2 b, ne_eqb k 3 c, ne_eqb k 4 d, ne_eqb k 5 e, ne_eqb k 6 f, ne_eqb k 7 g, ne_eqb k 8 h, ne_eqb k 9 i)

-- every way through `is_sound`
pub ruleset sound_ways = (tests_field, tests_decl, tests_ref, tests_path, tests_outer, tests_case, tests_open, tests_close, tests_export, tests_none, rules)
