-- Each way through the code that tries an operand finds what its twin finds.
use Rattle.std.specs.Prelude.{Option, Some, None, ℕ}
use Rattle.std.specs.Option.{option_eq}
use mathlib.Core.Path.{◌≡◌, refl, sym, ap, ◌∙◌}
use mathlib.Core.Logic.{⊎_elim}
use mathlib.Core.Bool.{Bool, true, false, ◌&&◌}
use mathlib.Core.List.{List}
use Prim.Native.Nat.{ℕ, zero, suc, ◌+◌, ◌-◌, ◌/◌, ◌%◌, ◌<◌, ◌≤◌}
use native.Mathlib.Omega.{arith}
use lib.Dec.{eqb}
use lib.ListN.{length, get_or, take}
use borrow.Author.Rules.{rules}
use borrow.Author.Tests.{lt-ltb, le-ltb, le-leb, lt-leb, eq-eqb, ne_eqb, eqb-true, eqb-false}
use Rattle.kit.specs.Pick.{pick}
use Rattle.kit.proofs.Laws.{down, lt_or_le}
use Rattle.parts.specs.PartsAt.{parts_at}
use Rattle.parts.specs.declared.Parts.{Parts}
use Rattle.names.specs.Table.{Slot, no_scope, scope_at, named_from}
use Rattle.index.specs.Indexed.{Holds}
use Rattle.claim_rows.specs.Left.{rows_at}
use Rattle.claim_rows.proofs.Ways.{rows_there, rows_past}
use Rattle.claim_scopes.specs.Open.{open_in, here_t, open_closed_t}
use Rattle.claim_scopes.specs.Entries.{look_t}
use Rattle.claim_scopes.proofs.Held.{open_length}
use Rattle.claim_reach.specs.Alias.{through_outer_t, through_export_t}
use Rattle.claim_reach.specs.Outward.{reach_out_t}
use Rattle.claim_reach.specs.declared.alias.Sought.{Sought}
use Rattle.claim_operands.specs.Paths.{no_parts, onward, or_stop, through_paths_t, instance_space, is_number, instance_t}
use Rattle.claim_operands.specs.Reference.{is_met_t, seeking, further_t, own_or, name_right_t, ref_from_t, path_right_t, ref_right_t}
use Rattle.claim_operands.specs.Outer.{named_in, up_t, at_right_t, up_right_t, outer_right_t}
use Rattle.names.specs.declared.Met.{Met}

-- ---- rows behind a row

none_there : (l : List ℕ) (i : ℕ) → length l / 16 ≤ i → parts_at l i ≡ no_parts
unfolding parts_at pick
none_there l i h = rw (le-leb _ _ h)

past_rows : (l : List ℕ) (first k : ℕ) → length l / 16 ≤ first → parts_at l (first + k) ≡ get_or (rows_at l first) k no_parts
past_rows l first k h = rw (rows_past l first h) (none_there l (first + k) (omega arith))

pub row_behind : (l : List ℕ) (first k : ℕ) → parts_at l (first + k) ≡ get_or (rows_at l first) k no_parts
row_behind l first zero =
    ⊎_elim (λ (h : first < length l / 16). let e : first + 0 ≡ first = omega arith in rw (e, rows_there l first h)) (past_rows l first 0) (lt_or_le first (length l / 16))
row_behind l first (suc k) =
    ⊎_elim (λ (h : first < length l / 16). let e : first + suc k ≡ first + 1 + k = omega arith in rw (e, rows_there l first h) (row_behind l (first + 1) k)) (past_rows l first (suc k)) (lt_or_le first (length l / 16))

-- ---- references with PATHs

-- what a turn of the loop keeps
pub record Follows (table : List Slot) (index claim input : List ℕ) (first used left : ℕ) (s : Sought) (T : Option ℕ) : Type 0 where
  pub goes : through_paths_t (take used table) claim (rows_at input first) left s ≡ T
  pub is_used : s.used ≡ used
  pub held : Holds table index s.used

pub follows_start : (table : List Slot) (index claim input : List ℕ) (first left : ℕ) (s : Sought) → Holds table index s.used → Follows table index claim input first s.used left s (through_paths_t (take s.used table) claim (rows_at input first) left s)
follows_start table index claim input first left s h = record { goes = refl; is_used = refl; held = h }

module _ (table : List Slot) (index claim input : List ℕ) (first used left : ℕ) (s : Sought) (T : Option ℕ) (g : Follows table index claim input first used left s T) where
  pub follows_end : left ≤ 0 → Some s.number ≡ T
  unfolding through_paths_t
  follows_end h = let z : left ≡ 0 = omega arith in rw z at g.goes

  module _ (h : 0 < left) (q : Parts) (r : q ≡ parts_at input (first + (left - 1))) (e : Option ℕ) (f : e ≡ through_export_t (take s.used table) claim s q.x) where
    followed : or_stop e (λ n. through_paths_t (take used table) claim (rows_at input first) (left - 1) (onward s n)) ≡ T
    unfolding through_paths_t
    followed =
        let k : e ≡ through_export_t (take used table) claim s q.x = f ∙ ap (λ (n : ℕ). through_export_t (take n table) claim s q.x) g.is_used in
        rw (k, r, row_behind input first (left - 1)) (rw (down left h) at g.goes)

    pub follows_stop : e ≡ None → (X : Option ℕ) → X ≡ None → X ≡ T
    unfolding or_stop
    follows_stop z X x = x ∙ (rw z at followed)

    pub follows_on : (n : ℕ) (m : Sought) → e ≡ Some n → m ≡ onward s n → Follows table index claim input first used (left - 1) m T
    unfolding or_stop
    follows_on n m z w = record { goes = rw w (rw z at followed); is_used = rw w g.is_used; held = rw w g.held }

pub ruleset following = (follows_start, follows_end, follows_stop, follows_on, rules)

pub instance_core : (space : ℕ) → space ≤ 6 → 6 ≡ instance_space space
unfolding instance_space pick
instance_core space h = rw (le-leb _ _ h)

pub instance_other : (space : ℕ) → 6 < space → 10 ≡ instance_space space
unfolding instance_space pick
instance_other space h = rw (lt-leb _ _ h)

eqb_turned : (a b : ℕ) → eqb a b ≡ eqb b a
eqb_turned a b = go (eqb a b) refl
  where
    go : (t : Bool) → eqb a b ≡ t → t ≡ eqb b a
    go true e = sym (eq-eqb b a (sym (eqb-true a b e)))
    go false e = sym (ne_eqb b a (λ h. eqb-false a b e (sym h)))

-- what `==` says of a number that is found, and one that is asked for
number_is : (e : Option ℕ) (number : ℕ) → option_eq eqb e (Some number) ≡ is_number e number
unfolding is_number
number_is (Some own) number = eqb_turned own number
number_is None number = refl

module _ (ss : List Slot) (scope : ℕ) (q : Parts) (number : ℕ) where
  pub instance_written : q.e ≡ 0 → eqb number q.x ≡ instance_t ss scope q number
  unfolding instance_t pick
  instance_written h = rw (eq-eqb _ _ h)

  module _ (h : q.e ≡ 0 → ⊥) (space : ℕ) (k : space ≡ instance_space q.b) (e : Option ℕ) (f : e ≡ look_t ss scope space q.x) where
    pub instance_found : (t : Bool) → t ≡ option_eq eqb e (Some number) → t ≡ instance_t ss scope q number
    unfolding instance_t pick
    instance_found t g = rw (ne_eqb _ _ h, ← k, ← f) (g ∙ number_is e number)

pub ruleset instances = (instance_core, instance_other, instance_written, instance_found, rules)

-- ---- other references

pub met_none : (a b : Option Met) → a ≡ None → false ≡ is_met_t a b
unfolding is_met_t
met_none a b h = rw h

pub met_first : (a b : Option Met) (m : Met) → a ≡ Some m → b ≡ None → false ≡ is_met_t a b
unfolding is_met_t
met_first a b m h g = rw (h, g)

pub met_both : (a b : Option Met) (m n : Met) → a ≡ Some m → b ≡ Some n → (eqb m.out n.out && eqb m.number n.number) ≡ is_met_t a b
unfolding is_met_t
met_both a b m n h g = rw (h, g)

pub ruleset meeting = (met_none, met_first, met_both, rules)

-- the scopes around the innermost
open_close : (scopes : List (List ℕ)) (d : ℕ) → open_in scopes (d - 1) ≡ open_closed_t (open_in scopes d)
unfolding open_in open_closed_t
open_close scopes zero = refl
open_close scopes (suc k) = let q : suc k - 1 ≡ k = omega arith in rw q

module _ (ss : List Slot) (claim : List ℕ) (used : ℕ) (scopes : List (List ℕ)) (depth : ℕ) (q : Parts) (number : ℕ) where
  pub further_is : (scope around : ℕ) (m o : Option Met) (t : Bool) → scope ≡ here_t (open_in scopes depth) → around ≡ depth - 1 → m ≡ through_outer_t ss claim (seeking used scope q.b number) → o ≡ reach_out_t ss (open_in scopes around) 1 q.b q.x → t ≡ is_met_t m o
      → t ≡ further_t ss claim used (open_in scopes depth) q number
  unfolding further_t
  further_is scope around m o t h k e f g = rw (← h, ← open_close scopes depth, ← k, ← e, ← f) g

  module _ (scope : ℕ) (h : scope ≡ here_t (open_in scopes depth)) (e : Option ℕ) (f : e ≡ look_t ss scope q.b q.x) where
    pub name_here : (own : ℕ) → e ≡ Some own → eqb number own ≡ name_right_t ss claim used (open_in scopes depth) q number
    unfolding name_right_t own_or
    name_here own z = rw (← h, ← f, z)

    pub name_further : (t : Bool) → e ≡ None → t ≡ further_t ss claim used (open_in scopes depth) q number → t ≡ name_right_t ss claim used (open_in scopes depth) q number
    unfolding name_right_t own_or
    name_further t z g = rw (← h, ← f, z) g

pub ruleset naming = (name_here, name_further, rules)

module _ (ss : List Slot) (claim : List ℕ) (used scope : ℕ) (q : Parts) (qs : List Parts) (number : ℕ) (e : Option ℕ) (f : e ≡ through_paths_t ss claim qs q.y (seeking used scope q.b number)) where
  pub path_ends : (from : ℕ) (t : Bool) → e ≡ Some from → t ≡ instance_t ss scope q from → t ≡ path_right_t ss claim used scope q qs number
  unfolding path_right_t ref_from_t
  path_ends from t z g = rw (← f, z) g

  pub path_none : e ≡ None → false ≡ path_right_t ss claim used scope q qs number
  unfolding path_right_t ref_from_t
  path_none z = rw (← f, z)

-- the same of the row itself
module _ (ss : List Slot) (claim input : List ℕ) (used scope next number : ℕ) (q : Parts) (k : q ≡ parts_at input next) (e : Option ℕ) (f : e ≡ through_paths_t ss claim (rows_at input (next + 1)) q.y (seeking used scope q.b number)) where
  pub path_leads : (from : ℕ) (t : Bool) → e ≡ Some from → t ≡ instance_t ss scope q from → t ≡ path_right_t ss claim used scope (parts_at input next) (rows_at input (next + 1)) number
  path_leads from t z g = rw (← k) (path_ends ss claim used scope q (rows_at input (next + 1)) number e f from t z g)

  pub path_stops : e ≡ None → false ≡ path_right_t ss claim used scope (parts_at input next) (rows_at input (next + 1)) number
  path_stops z = rw (← k) (path_none ss claim used scope q (rows_at input (next + 1)) number e f z)

pub ruleset pathing = (path_leads, path_stops, rules)

module _ (ss : List Slot) (claim : List ℕ) (used : ℕ) (st : List (List ℕ)) (p q₀ : Parts) (qs : List Parts) where
  pub ref_named : 0 < p.e → false ≡ ref_right_t ss claim used st p q₀ qs
  unfolding ref_right_t pick
  ref_named h = rw (lt-ltb _ _ h)

  module _ (h : p.e ≤ 0) (q : Parts) (k : q ≡ q₀) where
    pub ref_paths : (scope : ℕ) (t : Bool) → scope ≡ here_t st → 0 < q.y → t ≡ path_right_t ss claim used scope q₀ qs p.x → t ≡ ref_right_t ss claim used st p q₀ qs
    unfolding ref_right_t pick
    ref_paths scope t e g f = rw (le-ltb _ _ h, ← k, lt-ltb _ _ g, ← e) (rw (← k) at f)

    pub ref_written : q.y ≤ 0 → q.e ≡ 0 → eqb p.x q.x ≡ ref_right_t ss claim used st p q₀ qs
    unfolding ref_right_t pick
    ref_written g f = rw (le-ltb _ _ h, ← k, le-ltb _ _ g, eq-eqb _ _ f)

    pub ref_name : (t : Bool) → q.y ≤ 0 → (q.e ≡ 0 → ⊥) → t ≡ name_right_t ss claim used st q p.x → t ≡ ref_right_t ss claim used st p q₀ qs
    unfolding ref_right_t pick
    ref_name t g f e = rw (le-ltb _ _ h, ← k, le-ltb _ _ g, ne_eqb _ _ f) e

pub ruleset referring = (ref_named, ref_paths, ref_written, ref_name, rules)

-- ---- OUTERs

-- the scopes by their names
named_list : (scopes : List (List ℕ)) (depth left name : ℕ) → left ≤ depth → named_from scopes depth left name ≡ named_in (open_in scopes left) (depth - left) name
unfolding named_from named_in open_in
named_list scopes depth zero name h = refl
named_list scopes depth (suc left) name h =
    let e : depth - 1 - left ≡ depth - suc left = omega arith in
    let n : depth - left ≡ depth - suc left + 1 = omega arith in
    rw (named_list scopes depth left name (omega arith), e, n)

all_named_lem : (scopes : List (List ℕ)) (depth name : ℕ) → named_from scopes depth depth name ≡ named_in (open_in scopes depth) 0 name
all_named_lem scopes depth name = let e : depth - depth ≡ 0 = omega arith in named_list scopes depth depth name (omega arith) ∙ rw e

module _ (scopes : List (List ℕ)) (depth : ℕ) (q : Parts) where
  pub up_written : q.e % 2 ≡ 0 → Some q.x ≡ up_t (open_in scopes depth) q
  unfolding up_t pick
  up_written h = rw (eq-eqb _ _ h)

  module _ (h : q.e % 2 ≡ 0 → ⊥) (n : Option ℕ) (f : n ≡ named_from scopes depth depth q.x) where
    pub up_is : n ≡ up_t (open_in scopes depth) q
    unfolding up_t pick
    up_is = rw (ne_eqb _ _ h) (f ∙ all_named_lem scopes depth q.x)

pub ruleset upward = (up_written, up_is, rules)

-- the scope so far out
scope_out : (scopes : List (List ℕ)) (d k : ℕ) → k < d → get_or (open_in scopes d) k no_scope ≡ scope_at scopes (d - 1 - k)
unfolding open_in
scope_out scopes (suc d) zero h = let e : suc d - 1 - 0 ≡ d = omega arith in rw e
scope_out scopes (suc d) (suc k) h = let e : suc d - 1 - suc k ≡ d - 1 - k = omega arith in rw e (scope_out scopes d k (omega arith))
scope_out scopes zero k h = absurd (omega arith)

module _ (ss : List Slot) (scopes : List (List ℕ)) (d up : ℕ) (q p : Parts) where
  pub at_far : d ≤ up → false ≡ at_right_t ss (open_in scopes d) up q p
  unfolding at_right_t pick
  at_far h = rw (open_length scopes d, le-leb _ _ h)

  module _ (h : up < d) where
    pub at_other : (p.x ≡ up → ⊥) → false ≡ at_right_t ss (open_in scopes d) up q p
    unfolding at_right_t pick
    at_other g = rw (open_length scopes d, lt-leb _ _ h, ne_eqb _ _ g)

    module _ (g : p.x ≡ up) where
      pub at_written : q.e < 2 → eqb p.y q.y ≡ at_right_t ss (open_in scopes d) up q p
      unfolding at_right_t pick
      at_written k = rw (open_length scopes d, lt-leb _ _ h, eq-eqb _ _ g, lt-ltb _ _ k)

      module _ (k : 2 ≤ q.e) (scope : List ℕ) (s : scope ≡ scope_at scopes (d - 1 - up)) (e : Option ℕ) (f : e ≡ look_t ss (get_or scope 1 0) q.b q.y) where
        at_is : is_number e p.y ≡ at_right_t ss (open_in scopes d) up q p
        unfolding at_right_t pick
        at_is = rw (open_length scopes d, lt-leb _ _ h, eq-eqb _ _ g, le-ltb _ _ k, scope_out scopes d up h, ← s, ← f)

        pub at_found : (t : Bool) → t ≡ option_eq eqb e (Some p.y) → t ≡ at_right_t ss (open_in scopes d) up q p
        at_found t g = g ∙ (number_is e p.y ∙ at_is)

pub ruleset reaching = (at_far, at_other, at_written, at_found, rules)

module _ (ss : List Slot) (st : List (List ℕ)) (q p : Parts) where
  pub outer_named : 0 < p.e → false ≡ outer_right_t ss st q p
  unfolding outer_right_t pick
  outer_named h = rw (lt-ltb _ _ h)

  module _ (h : p.e ≤ 0) where
    pub outer_written : q.e ≡ 0 → (eqb p.x q.x && eqb p.y q.y) ≡ outer_right_t ss st q p
    unfolding outer_right_t pick
    outer_written g = rw (le-ltb _ _ h, eq-eqb _ _ g)

    module _ (g : q.e ≡ 0 → ⊥) (n : Option ℕ) (f : n ≡ up_t st q) where
      pub outer_up : (up : ℕ) (t : Bool) → n ≡ Some up → t ≡ at_right_t ss st up q p → t ≡ outer_right_t ss st q p
      unfolding outer_right_t pick up_right_t
      outer_up up t z e = rw (le-ltb _ _ h, ne_eqb _ _ g, ← f, z) e

      pub outer_none : n ≡ None → false ≡ outer_right_t ss st q p
      unfolding outer_right_t pick up_right_t
      outer_none z = rw (le-ltb _ _ h, ne_eqb _ _ g, ← f, z)

pub ruleset outers = (outer_named, outer_written, outer_up, outer_none, rules)
