-- The parts of a row: each law is one unfolding of a definition, with the facts in the form in which the code gives them.
use mathlib.Core.Path.{◌≡◌, ◌∙◌}
use mathlib.Core.List.{List}
use Prim.Native.Nat.{ℕ, ◌+◌}
use borrow.Author.Rules.{rules}
use lib.ListN.{get_or}
use Rattle.parts.specs.PartsAt.{two, four}
use Rattle.row_bytes.specs.Parts.{start_of, code_at, b_at, e_at, x_at, y_at, z_at}

module _ (form : List ℕ) (row s r : ℕ) (at : s ≡ start_of row) where
  pub code_is : r ≡ get_or form s 0 → r ≡ code_at form row
  unfolding code_at
  code_is h = h ∙ rw at

  pub b_is : r ≡ get_or form (s + 1) 0 → r ≡ b_at form row
  unfolding b_at
  b_is h = h ∙ rw at

  pub e_is : r ≡ two form (s + 2) → r ≡ e_at form row
  unfolding e_at
  e_is h = h ∙ rw at

  pub x_is : r ≡ four form (s + 4) → r ≡ x_at form row
  unfolding x_at
  x_is h = h ∙ rw at

  pub y_is : r ≡ four form (s + 8) → r ≡ y_at form row
  unfolding y_at
  y_is h = h ∙ rw at

  pub z_is : r ≡ four form (s + 12) → r ≡ z_at form row
  unfolding z_at
  z_is h = h ∙ rw at

pub ruleset part_ways = (code_is, b_is, e_is, x_is, y_is, z_is, rules)
