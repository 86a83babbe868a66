-- The ways through the code that finds declarations with the tables of a form.
use Rattle.std.specs.Prelude.{Option, Some, None}
use mathlib.Core.Path.{◌≡◌, refl, sym, ◌∙◌}
use mathlib.Core.Bool.{Bool, true, false, ◌&&◌, not}
use mathlib.Core.List.{List}
use native.Mathlib.Omega.{arith}
use Prim.Native.Nat.{ℕ, suc, ◌-◌, ◌≤◌, ◌<◌}
use borrow.Author.Rules.{rules}
use borrow.Author.Tests.{ltb-true, eqb-true}
use lib.Dec.{eqb, ltb}
use lib.ListN.{length}
use Rattle.row_parts.specs.Parts.{x_at, rows_in}
use Rattle.scopes.specs.Scopes.{scope_of, is_meant, find_in}
use Rattle.scopes.specs.declared.Key.{Key}
use Rattle.scopes.specs.declared.Key.TheVariants.{Name, Number}
use Rattle.scopes.specs.Tables.{stands, count_of, kind_of, is_scope, is_sought, first_above, found_at, Scopes, Chains, Tabled, Known}
use Rattle.scopes.proofs.ScopedLaws.{both_true, find_first}
use Rattle.scopes.specs.declared.Found.{Found}

pub is_scope_is : (form : List ℕ) (row rows s : ℕ) → rows ≡ rows_in form → s ≡ scope_of form row → (ltb 0 row && ltb row rows && eqb s row) ≡ is_scope form row
unfolding is_scope
is_scope_is form row rows s r e = rw (r, e)

pub is_sought_is : (form : List ℕ) (scope space : ℕ) (key : Key) (row n x : ℕ) (d m : Bool) → d ≡ stands form scope space row → n ≡ count_of form row → x ≡ x_at form row → m ≡ is_meant key x n → (d && m) ≡ is_sought form scope space key row
unfolding is_sought
is_sought_is form scope space key row n x d m hd hn hx hm = rw (hd, hm, hn, hx)

module _ (form : List ℕ) (behind : ℕ) where
  pub found_none : (1 ≤ behind → ⊥) → (X : Option Found) → X ≡ None → X ≡ found_at form behind
  unfolding found_at
  found_none h X x = let e : behind ≡ 0 = omega arith in x ∙ rw e

  pub found_there : (row n : ℕ) → (1 ≤ behind) × (row ≡ behind - 1) → n ≡ count_of form row → Some (record { row = row; number = n }) ≡ found_at form behind
  unfolding found_at
  found_there row n h e = let q : behind ≡ suc row = omega (arith, h.0, h.1) in rw (e, q)

module _ (form : List ℕ) (row : ℕ) (b : Bool) (is : b ≡ is_scope form row) where
  pub scope_left : not b ≡ false → is_scope form row ≡ true
  scope_left h = sym is ∙ by b h
    where
      by : (b : Bool) → not b ≡ false → b ≡ true
      by true h = refl
      by false h = sym h

-- a key's kind of chain
module _ (form chains : List ℕ) (key : Key) (wanted : ℕ) where
  pub chains_name : key ≡ Name wanted → (to : ℕ) → Chains form 1 chains to → Chains form (kind_of key) chains to
  chains_name q to t = rw q t

  pub chains_number : key ≡ Number wanted → (to : ℕ) → Chains form 2 chains to → Chains form (kind_of key) chains to
  chains_number q to t = rw q t

module _ (key : Key) (wanted : ℕ) where
  pub kind_name : key ≡ Name wanted → 0 < kind_of key
  kind_name q = rw q (omega arith)

  pub kind_number_lem : key ≡ Number wanted → 0 < kind_of key
  kind_number_lem q = rw q (omega arith)

pub ruleset key_ways = (scope_left, chains_name, chains_number, kind_name, kind_number_lem, rules)

-- what is first on the chain is what the scope has
pub follow_is : (form : List ℕ) (scope space : ℕ) (key : Key) (first : ℕ) (f : Option Found) → is_scope form scope ≡ true → first ≡ first_above form scope space key (rows_in form) 0 → f ≡ found_at form first → f ≡ find_in form scope space key
unfolding is_scope
follow_is form scope space key first f h q e =
    let a = both_true (ltb 0 scope && ltb scope (rows_in form)) (eqb (scope_of form scope) scope) h in
    let b = both_true (ltb 0 scope) (ltb scope (rows_in form)) a.0 in
    e ∙ rw q (find_first form scope space key (ltb-true 0 scope b.0) (eqb-true (scope_of form scope) scope a.1) (ltb-true scope (rows_in form) b.1))

pub ruleset found_ways = (is_scope_is, is_sought_is, found_none, found_there, follow_is, rules)

-- ---- lent tables

pub known_none : (form known names numbers : List ℕ) → length known ≡ 0 → Known form known names numbers
known_none form known names numbers e = record { lent = λ h. absurd (omega arith) }

pub known_scopes : (form known names numbers : List ℕ) → Known form known names numbers → 0 < length known → Scopes form known 4096
known_scopes form known names numbers k h = (k.lent h).scopes

pub known_tabled : (form known names numbers : List ℕ) → Known form known names numbers → (length known ≡ 0 → ⊥) → Tabled form known names numbers
known_tabled form known names numbers k h = k.lent (omega arith)

pub known_lent : (form known names numbers : List ℕ) → Tabled form known names numbers → Known form known names numbers
known_lent form known names numbers t = record { lent = λ h. t }

pub ruleset lent_ways = (known_none, known_lent, known_scopes, known_tabled, rules)
