-- Each way through the code that goes over the rows finds what its twin finds.
use Rattle.std.specs.Prelude.{Result, Ok, Err, ⊤, ℕ}
use mathlib.Core.Path.{◌≡◌, refl, ap, ◌∙◌}
use mathlib.Core.Bool.{Bool, true, false, not}
use mathlib.Core.List.{List, [], ◌∷◌}
use Prim.Native.Nat.{ℕ, ◌+◌, ◌/◌, ◌<◌, ◌≤◌}
use native.Mathlib.Omega.{arith}
use lib.ListN.{length, take, replicate, length-replicate}
use borrow.Author.Rules.{rules}
use borrow.Author.Tests.{eq-eqb, ne_eqb}
use Rattle.kit.specs.Pick.{pick}
use Rattle.kit.specs.Out.{◌&◌}
use Rattle.parts.specs.PartsAt.{parts_at}
use Rattle.parts.specs.declared.Parts.{Parts}
use Rattle.names.specs.Table.{Slot, no_scope}
use Rattle.index.specs.Indexed.{Holds}
use Rattle.claim_rows.specs.Left.{rows_at}
use Rattle.claim_rows.specs.Added.{is_added_t}
use Rattle.claim_rows.specs.Same.{past_paths, same_next_t}
use Rattle.claim_rows.proofs.Ways.{is_false, is_true, rows_there, rows_past}
use Rattle.claim_scopes.specs.Open.{open_behind_t, open_in, open_one_t}
use Rattle.claim_scopes.proofs.Held.{open_behind}
use Rattle.claim_operands.specs.Reference.{ref_right_t}
use Rattle.claim_operands.specs.Outer.{outer_right_t}
use Rattle.claim_operands.specs.Operands.{operand_at_t, next_in, Behind, is_right_t, try_operands_t}
use Rattle.claim_operands.specs.declared.Cursor.{Cursor}

-- ---- at_row, is_right

pub at_is : (p : Parts) (ps : List Parts) (c : Cursor) (a : Bool) → a ≡ is_added_t c.added p.code ps → record { used = c.used; depth = c.depth; added = a; next = c.next } ≡ operand_at_t p ps c
unfolding operand_at_t
at_is p ps c a e = rw e

module _ (ss : List Slot) (claim : List ℕ) (used : ℕ) (added : Bool) (st : List (List ℕ)) (p : Parts) (input : List ℕ) (next : ℕ) where
  by_rows_lem : (qs : List Parts) → added ≡ true → true ≡ is_right_t ss claim used added st p qs
  unfolding is_right_t pick
  by_rows_lem [] h = refl
  by_rows_lem (q ∷ qs) h = rw h

  pub right_added : added ≡ true → true ≡ is_right_t ss claim used added st p (rows_at input next)
  right_added h = by_rows_lem (rows_at input next) h

  pub right_past : length input / 16 ≤ next → true ≡ is_right_t ss claim used added st p (rows_at input next)
  unfolding is_right_t
  right_past h = rw (rows_past input next h)

  module _ (a : added ≡ false) (h : next < length input / 16) where
    pub right_ref : (t : Bool) → p.code ≡ 3 → t ≡ ref_right_t ss claim used st p (parts_at input next) (rows_at input (next + 1)) → t ≡ is_right_t ss claim used added st p (rows_at input next)
    unfolding is_right_t pick
    right_ref t g e = rw (rows_there input next h, a, eq-eqb _ _ g) e

    pub right_outer : (t : Bool) (q : Parts) → p.code ≡ 5 → q ≡ parts_at input next → t ≡ outer_right_t ss st q p → t ≡ is_right_t ss claim used added st p (rows_at input next)
    unfolding is_right_t pick
    right_outer t q g k e = rw (rows_there input next h, a, eq-eqb _ _ g, ne_eqb p.code 3 (omega arith), ← k) e

    pub right_other : (p.code ≡ 3 → ⊥) → (p.code ≡ 5 → ⊥) → true ≡ is_right_t ss claim used added st p (rows_at input next)
    unfolding is_right_t pick
    right_other g k = rw (rows_there input next h, a, ne_eqb _ _ g, ne_eqb _ _ k)

pub ruleset righting = (right_added, right_past, right_ref, right_outer, right_other, rules)

-- ---- behind, go_on

module _ (added : Bool) (l : List ℕ) (j : ℕ) where
  pub behind_added : added ≡ true → rows_at l j ≡ next_in added (rows_at l j)
  unfolding next_in pick
  behind_added h = rw h

  module _ (h : added ≡ false) where
    pub behind_past : length l / 16 ≤ j → rows_at l j ≡ next_in added (rows_at l j)
    unfolding next_in pick same_next_t
    behind_past g = rw (h, rows_past l j g)

    pub behind_own : (r : ℕ) → j < length l / 16 → rows_at l r ≡ past_paths (rows_at l (j + 1)) → rows_at l r ≡ next_in added (rows_at l j)
    unfolding next_in pick same_next_t
    behind_own r g e = rw (h, rows_there l j g) e

pub ruleset following = (behind_added, behind_past, behind_own, rules)

pub on_is : (p : Parts) (i : ℕ) (input : List ℕ) (scopes scopes' : List (List ℕ)) (c : Cursor) (d r : ℕ) → (d & scopes') ≡ open_behind_t scopes c.depth p i → rows_at input r ≡ next_in c.added (rows_at input c.next)
    → Behind p i input scopes scopes' c (record { used = c.used; depth = d; added = c.added; next = r })
on_is p i input scopes scopes' c d r o n = record { opened = o; left = n; added = refl; used = refl }

-- ---- try_operands

-- what a turn of the loop keeps
pub record Goes (table : List Slot) (index claim input : List ℕ) (used : ℕ) (scopes : List (List ℕ)) (c : Cursor) (i : ℕ) (T : Result ⊤ ℕ) : Type 0 where
  pub goes : try_operands_t (take used table) claim used i c.added (open_in scopes c.depth) (rows_at claim i) (rows_at input c.next) ≡ T
  pub is_used : c.used ≡ used
  pub held : Holds table index c.used
  pub deep : c.depth ≤ 64
  pub long : length scopes ≡ 64

module _ (table : List Slot) (index claim input : List ℕ) (used : ℕ) where
  pub goes_start : Holds table index used → Goes table index claim input used (replicate 64 no_scope) (record { used = used; depth = 0; added = false; next = 0 }) 0 (try_operands_t (take used table) claim used 0 false [] (rows_at claim 0) (rows_at input 0))
  unfolding open_in
  goes_start h = record { goes = refl; is_used = refl; held = h; deep = omega arith; long = length-replicate 64 no_scope }

  module _ (scopes : List (List ℕ)) (c : Cursor) (i : ℕ) (T : Result ⊤ ℕ) (g : Goes table index claim input used scopes c i T) where
    pub goes_end : length claim / 16 ≤ i → Ok tt ≡ T
    unfolding try_operands_t
    goes_end h = rw (rows_past claim i h) at g.goes

    pub held_at : (p : Parts) (ps : List Parts) (m : Cursor) → m ≡ operand_at_t p ps c → Holds table index m.used
    unfolding operand_at_t
    held_at p ps m k = rw k g.held

    module _ (h : i < length claim / 16) (p : Parts) (e : p ≡ parts_at claim i) (m : Cursor) (k : m ≡ operand_at_t p (rows_at claim (i + 1)) c) where
      used_at : m.used ≡ used
      unfolding operand_at_t
      used_at = rw k g.is_used

      module _ (t : Bool) (r : t ≡ is_right_t (take m.used table) claim m.used m.added (open_in scopes m.depth) p (rows_at input m.next)) where
        turn : pick t (try_operands_t (take used table) claim used (i + 1) m.added (open_one_t 64 (open_in scopes m.depth) p i) (rows_at claim (i + 1)) (next_in m.added (rows_at input m.next))) (Err i) ≡ T
        unfolding try_operands_t operand_at_t
        turn =
            let u : t ≡ is_right_t (take used table) claim used m.added (open_in scopes m.depth) p (rows_at input m.next) = r ∙ ap (λ (n : ℕ). is_right_t (take n table) claim n m.added (open_in scopes m.depth) p (rows_at input m.next)) used_at in
            rw (u, k, e) (rw (rows_there claim i h) at g.goes)

        pub goes_breaks : not t ≡ true → Err i ≡ T
        unfolding pick
        goes_breaks z = rw (is_false t z) at turn

        pub goes_on_lem : (n : Cursor) (scopes' : List (List ℕ)) → not t ≡ false → Behind p i input scopes scopes' m n → Goes table index claim input used scopes' n (i + 1) T
        unfolding pick operand_at_t
        goes_on_lem n scopes' z b =
            let long = g.long in
            let deep : m.depth ≤ 64 = rw k g.deep in
            let O = open_behind scopes m.depth p i (omega arith) scopes' n.depth b.opened in
            let room = O.room in
            let are : open_in scopes' n.depth ≡ open_one_t 64 (open_in scopes m.depth) p i = rw (← long) O.are in
            record {
              goes = rw (are, b.left, b.added) (rw (is_true t z) at turn);
              is_used = b.used ∙ used_at;
              held = rw b.used (held_at p (rows_at claim (i + 1)) m k);
              deep = omega arith;
              long = O.long ∙ long;
            }

pub ruleset turns = (goes_start, goes_end, goes_breaks, goes_on_lem, rules)
