-- The ways through the code that looks at operands.
use mathlib.Core.Path.{◌≡◌, refl}
use mathlib.Core.Bool.{Bool, true, false, ◌&&◌, ◌||◌, not}
use mathlib.Core.List.{List}
use Prim.Native.Nat.{ℕ, ◌≤◌, ◌<◌}
use borrow.Author.Rules.{rules}
use lib.Dec.{eqb}
use Rattle.kit.proofs.Laws.{yes!, no!, tests}
use Rattle.rules.specs.Shapes.{here_only}
use Rattle.row_parts.specs.Parts.{code_at, b_at, e_at, x_at, y_at, is_inserted, next_of, field_of}
use Rattle.scopes.specs.declared.Key.TheVariants.{Name, Number}
use Rattle.scopes.specs.declared.Wanted.TheVariants.{Out, Named}
use Rattle.operands.specs.Operands.{space_sought, is_walked, outer_wanted, index_key, key_of, is_inserted_outer}

module _ (form : List ℕ) (row b y : ℕ) (space : b ≡ b_at form row) (paths : y ≡ y_at form row) where
  pub sought_own : y ≡ 0 → b ≡ space_sought form row
  unfolding space_sought
  sought_own e = yes! _ (omega tests) space

  module _ (n : y ≡ 0 → ⊥) where
    pub sought_core : b < 7 → 6 ≡ space_sought form row
    unfolding space_sought
    sought_core h = no! _ (omega tests) (yes! _ (omega tests) refl)

    pub sought_instance : 7 ≤ b → 10 ≡ space_sought form row
    unfolding space_sought
    sought_instance h = no! _ (omega tests) (no! _ (omega tests) refl)

pub walked_is : (form : List ℕ) (row c y f b : ℕ) (h : Bool) → c ≡ code_at form row → y ≡ y_at form row → f ≡ field_of form row → b ≡ b_at form f → h ≡ here_only b → (eqb c 3 && eqb y 0 && not h) ≡ is_walked form row
unfolding is_walked
walked_is form row c y f b h hc hy hf hb hh = rw (hc, hy, hh, hb, hf)

module _ (form : List ℕ) (row e x : ℕ) (flag : e ≡ e_at form row) (operand : x ≡ x_at form row) where
  pub key_number : e ≡ 0 → Number x ≡ key_of form row
  unfolding key_of
  key_number h = yes! _ (omega tests) (rw operand)

  pub key_name : (e ≡ 0 → ⊥) → Name x ≡ key_of form row
  unfolding key_of
  key_name h = no! _ (omega tests) (rw operand)

module _ (e x : ℕ) where
  pub wanted_name : (eqb e 1 || eqb e 3) ≡ true → Named x ≡ outer_wanted e x
  unfolding outer_wanted
  wanted_name h = yes! _ h refl

  pub wanted_count : (eqb e 1 || eqb e 3) ≡ false → Out x ≡ outer_wanted e x
  unfolding outer_wanted
  wanted_count h = no! _ h refl

  pub index_number : e < 2 → Number x ≡ index_key e x
  unfolding index_key
  index_number h = yes! _ (omega tests) refl

  pub index_name : 2 ≤ e → Name x ≡ index_key e x
  unfolding index_key
  index_name h = no! _ (omega tests) refl

pub inserted_outer_is : (form : List ℕ) (decl n c : ℕ) (i : Bool) → i ≡ is_inserted form decl → n ≡ next_of decl → c ≡ code_at form n → (i && eqb c 5) ≡ is_inserted_outer form decl
unfolding is_inserted_outer
inserted_outer_is form decl n c i hi hn hc = rw (hi, hc, hn)

pub ruleset operand_ways = (sought_own, sought_core, sought_instance, walked_is, wanted_name, wanted_count, index_number, index_name, key_number, key_name, inserted_outer_is, rules)
