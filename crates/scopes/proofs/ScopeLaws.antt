-- The ways through the code that goes through scopes.
use Rattle.std.specs.Prelude.{Option, Some, None, is_some}
use mathlib.Core.Path.{◌≡◌, refl, ◌∙◌}
use mathlib.Core.Bool.{Bool, true, false, ◌&&◌, not}
use mathlib.Core.List.{List}
use native.Mathlib.Omega.{arith}
use Prim.Native.Nat.{ℕ, zero, suc, ◌+◌, ◌-◌, ◌≤◌, ◌<◌}
use borrow.Author.Rules.{rules}
use lib.Dec.{eqb, leb}
use Rattle.kit.specs.Pick.{pick}
use Rattle.kit.proofs.Laws.{yes!, no!, tests, left_suc}
use Rattle.rules.specs.Readings.{is_fresh}
use Rattle.row_parts.specs.Parts.{code_at, x_at, rows_in}
use Rattle.scopes.specs.Scopes.{level_behind, scope_of, declares, is_meant, find_from, find_in, declares_name, is_wanted, outward_from, scope_outward}
use Rattle.scopes.specs.declared.Key.{Key}
use Rattle.scopes.specs.declared.Key.TheVariants.{Name, Number, Inserted}
use Rattle.scopes.specs.declared.Wanted.{Wanted}
use Rattle.scopes.specs.declared.Wanted.TheVariants.{Out, Named, Declaring}
use Rattle.scopes.specs.declared.Found.{Found}
use Rattle.scopes.specs.declared.Outer.{Outer}

-- ---- declarations

module _ (name number wanted : ℕ) (key : Key) where
  pub meant_name : key ≡ Name wanted → (not (eqb wanted 0) && eqb wanted name) ≡ is_meant key name number
  meant_name q = rw q

  pub meant_number : key ≡ Number wanted → eqb wanted number ≡ is_meant key name number
  meant_number q = rw q

pub meant_inserted : (name number : ℕ) (key : Key) → key ≡ Inserted → leb 2147483648 name ≡ is_meant key name number
unfolding is_fresh
meant_inserted name number key q = rw q

pub find_start : (form : List ℕ) (scope space rows : ℕ) (key : Key) → rows ≡ rows_in form → find_from form space key scope (rows - scope) 0 0 ≡ find_in form scope space key
unfolding find_in
find_start form scope space rows key h = rw h

module _ (form : List ℕ) (space : ℕ) (key : Key) (rows row level number : ℕ) (T : Option Found) (inv : find_from form space key row (rows - row) level number ≡ T) where
  pub find_end : rows ≤ row → None ≡ T
  unfolding find_from
  find_end h = let e : rows - row ≡ 0 = omega arith in rw e at inv

  module _ (h : row < rows) (c : ℕ) (code : c ≡ code_at form row) (b : Bool) (bound : b ≡ (eqb level 0 && eqb c 8)) where
    found : pick b None (pick (declares form row level space && is_meant key (x_at form row) number) (Some (record { row = row; number = number })) (find_from form space key (row + 1) (rows - (row + 1)) (level_behind level c) (pick (declares form row level space) (number + 1) number))) ≡ T
    unfolding find_from
    found = rw (bound, code) (rw (left_suc row rows h) at inv)

    pub find_close : b ≡ true → None ≡ T
    find_close e = yes! _ e refl ∙ found

    module _ (on : b ≡ false) (d : Bool) (here : d ≡ declares form row level space) (x : ℕ) (name : x ≡ x_at form row) (m : Bool) (meant : m ≡ is_meant key x number) where
      pub find_hit : (d && m) ≡ true → Some (record { row = row; number = number }) ≡ T
      find_hit e = no! _ on (yes! _ (rw (← name, ← meant, ← here) e) refl) ∙ found

      pub find_on : (d && m) ≡ false → (n l : ℕ) → n ≡ pick d (number + 1) number → l ≡ level_behind level c → find_from form space key (row + 1) (rows - (row + 1)) l n ≡ T
      find_on e n l hn hl = no! _ on (no! _ (rw (← name, ← meant, ← here) e) (rw (hn, hl, here))) ∙ found

-- ---- outward

module _ (form : List ℕ) (scope space name : ℕ) (f : Option Found) (w : f ≡ find_in form scope space (Name name)) where
  pub declares_found : is_some f ≡ declares_name form scope space name
  unfolding declares_name
  declares_found = rw (← w)

module _ (form : List ℕ) (scope out : ℕ) (wanted : Wanted) where
  pub wanted_out : (count : ℕ) → wanted ≡ Out count → eqb out count ≡ is_wanted form scope out wanted
  wanted_out count q = rw q

  pub wanted_named : (name x : ℕ) → wanted ≡ Named name → x ≡ x_at form (scope - 1) → eqb x name ≡ is_wanted form scope out wanted
  wanted_named name x q h = rw (h, q)

  pub wanted_declaring : (space name : ℕ) (b : Bool) → wanted ≡ Declaring space name → b ≡ declares_name form scope space name → b ≡ is_wanted form scope out wanted
  wanted_declaring space name b q h = h ∙ rw q

pub outward_start : (form : List ℕ) (scope : ℕ) (wanted : Wanted) → outward_from form wanted (scope - 0) scope 0 ≡ scope_outward form scope wanted
unfolding scope_outward
outward_start form scope wanted = let e : scope - 0 ≡ scope = omega arith in rw e

outward_past : (form : List ℕ) (wanted : Wanted) (left out : ℕ) → None ≡ outward_from form wanted left 0 out
unfolding outward_from
outward_past form wanted zero out = refl
outward_past form wanted (suc left) out = yes! _ refl refl

module _ (form : List ℕ) (wanted : Wanted) (scope around out : ℕ) (T : Option Outer) (inv : outward_from form wanted (scope - out) around out ≡ T) where
  pub outward_end : around ≤ 0 → None ≡ T
  outward_end h = let e : around ≡ 0 = omega arith in outward_past form wanted (scope - out) out ∙ (rw e at inv)

  module _ (h : 0 < around) (inside : around + out ≤ scope) (b : Bool) (is : b ≡ is_wanted form around out wanted) where
    sought : pick (eqb around 0) None (pick b (Some (record { scope = around; out = out })) (outward_from form wanted (scope - (out + 1)) (scope_of form (around - 1)) (out + 1))) ≡ T
    unfolding outward_from
    sought = let l : out < scope = omega arith in rw is (rw (left_suc out scope l) at inv)

    pub outward_hit : b ≡ true → Some (record { scope = around; out = out }) ≡ T
    outward_hit e = no! _ (omega tests) (yes! _ e refl) ∙ sought

    pub outward_on : b ≡ false → (a : ℕ) → a ≡ scope_of form (around - 1) → outward_from form wanted (scope - (out + 1)) a (out + 1) ≡ T
    outward_on e a ha = no! _ (omega tests) (no! _ e (rw ha)) ∙ sought

pub ruleset scope_ways = (meant_name, meant_number, meant_inserted, declares_found, wanted_out, wanted_named, wanted_declaring, rules)

pub ruleset find_ways = (find_start, find_end, find_close, find_hit, rules)

pub ruleset outward_ways = (outward_start, outward_end, outward_hit, outward_on, rules)
