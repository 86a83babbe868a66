-- Each way through the code finds what its twin finds.
use Rattle.std.specs.Prelude.{Option, Some, None, Result, Ok, Err, ⊤, ℕ, is_some}
use mathlib.Core.Path.{◌≡◌, refl, sym, ap, ◌∙◌}
use mathlib.Core.Bool.{Bool, true, false, ◌&&◌, ◌||◌, not}
use mathlib.Core.List.{List, [], ◌∷◌}
use Prim.Native.Nat.{ℕ, zero, suc, ◌+◌, ◌-◌, ◌/◌, ◌<◌, ◌≤◌}
use native.Mathlib.Omega.{arith}
use lib.Dec.{eqb, ltb}
use lib.ListN.{length, take, replicate, length-replicate}
use borrow.Author.Rules.{rules}
use borrow.Author.Tests.{lt-ltb, le-ltb, eq-eqb, ne_eqb}
use Rattle.kit.specs.Pick.{pick}
use Rattle.kit.specs.Out.{Out, ◌&◌}
use Rattle.parts.specs.PartsAt.{parts_at}
use Rattle.parts.specs.declared.Parts.{Parts}
use Rattle.names.specs.Table.{Slot, pushed, no_scope}
use Rattle.claim_rows.specs.Left.{rows_at}
use Rattle.claim_rows.specs.Added.{is_added_t}
use Rattle.claim_rows.proofs.Ways.{is_false, is_true, rows_there, rows_past}
use Rattle.claim_scopes.specs.Open.{open_behind_t, open_in, here_t, open_one_t}
use Rattle.claim_scopes.specs.Entries.{slot_t, look_t, enter_t, laid_t}
use Rattle.claim_scopes.proofs.Held.{Behind, open_behind, Laid, laid_none, Entered, slot_enters, laid_is}
use Rattle.index.specs.Indexed.{Holds}
use Rattle.claim_aliases.specs.Aliases.{is_alias, alias_new_t, is_known, alias_breaks_t, name_slot, alias_entered_t, alias_at_t, alias_went_t, alias_on_t, Turned, turned_t, over_t, alias_turn_t, HeldBy, alias_names_t, Names, try_aliases_t, laid_by}
use Rattle.claim_aliases.specs.declared.Cursor.{Cursor}

-- ---- is_known

module _ (ss : List Slot) (scope : ℕ) (p : Parts) (n : ℕ) (k : n ≡ alias_new_t p.x) (f : Option ℕ) (e : f ≡ look_t ss scope p.b n) where
  pub known_is : is_some f ≡ is_known ss scope p
  unfolding is_known
  known_is = rw (e, k)

pub ruleset knowing = (known_is, rules)

-- ---- breaks

module _ (added : Bool) (ss : List Slot) (scope : ℕ) (p : Parts) where
  pub breaks_own : not added ≡ true → false ≡ alias_breaks_t added ss scope p
  unfolding alias_breaks_t pick
  breaks_own h = rw (is_false added h)

  module _ (h : not added ≡ false) where
    pub breaks_field : (b : Bool) → p.code ≡ 1 → b ≡ is_alias p.b → not b ≡ alias_breaks_t added ss scope p
    unfolding alias_breaks_t pick
    breaks_field b g e = rw (is_true added h, eq-eqb _ _ g, e)

    pub breaks_decl : (b : Bool) → p.code ≡ 2 → b ≡ is_known ss scope p → b ≡ alias_breaks_t added ss scope p
    unfolding alias_breaks_t pick
    breaks_decl b g e = rw (is_true added h, ne_eqb p.code 1 (omega arith), eq-eqb _ _ g) e

    pub breaks_operand : (p.code ≡ 1 → ⊥) → (p.code ≡ 2 → ⊥) → ((eqb p.code 3 || eqb p.code 5) && ltb 0 p.e) ≡ alias_breaks_t added ss scope p
    unfolding alias_breaks_t pick
    breaks_operand g k = rw (is_true added h, ne_eqb _ _ g, ne_eqb _ _ k)

pub ruleset breaking = (breaks_own, breaks_field, breaks_decl, breaks_operand, rules)

-- ---- enter_name

module _ (added : Bool) (table : List Slot) (used scope : ℕ) (p : Parts) where
  pub enters_own : not added ≡ true → (used & table) ≡ alias_entered_t added table used scope p
  unfolding alias_entered_t pick
  enters_own h = rw (is_false added h)

  module _ (h : not added ≡ false) where
    pub enters_other : (p.code ≡ 2 → ⊥) → (used & table) ≡ alias_entered_t added table used scope p
    unfolding alias_entered_t pick
    enters_other g = rw (is_true added h, ne_eqb _ _ g)

    pub enters_decl : (r n : ℕ) (table' : List Slot) → p.code ≡ 2 → n ≡ alias_new_t p.x → (r & table') ≡ pushed table used (slot_t scope p.b n 0) → (r & table') ≡ alias_entered_t added table used scope p
    unfolding alias_entered_t pick name_slot
    enters_decl r n table' g k e = rw (is_true added h, eq-eqb _ _ g, ← k) e

pub ruleset entering = (enters_own, enters_other, enters_decl, rules)

-- ---- go_on, go_over, at_row

module _ (p : Parts) (i : ℕ) (table : List Slot) (scopes : List (List ℕ)) (c : Cursor) where
  pub on_is : (scope r d : ℕ) (table' : List Slot) (scopes' : List (List ℕ)) → scope ≡ here_t (open_in scopes c.depth) → (r & table') ≡ alias_entered_t c.added table c.used scope p → (d & scopes') ≡ open_behind_t scopes c.depth p i
      → (record { depth = d; used = r; added = c.added } & table' & scopes') ≡ alias_on_t p i table scopes c
  unfolding alias_on_t alias_went_t
  on_is scope r d table' scopes' w n o = rw (← w, ← n, ← o)

  module _ (scope : ℕ) (w : scope ≡ here_t (open_in scopes c.depth)) (t : Bool) (b : t ≡ alias_breaks_t c.added (take c.used table) scope p) where
    pub over_breaks : t ≡ true → (None & table & scopes) ≡ over_t p i table scopes c
    unfolding over_t pick
    over_breaks z = rw (← w, ← b, z)

    pub over_on : (n : Cursor) (table' : List Slot) (scopes' : List (List ℕ)) → t ≡ false → (n & table' & scopes') ≡ alias_on_t p i table scopes c → (Some n & table' & scopes') ≡ over_t p i table scopes c
    unfolding over_t pick turned_t
    over_on n table' scopes' z o = rw (← w, ← b, z, ← o)

pub at_is : (p : Parts) (ps : List Parts) (c : Cursor) (a : Bool) → a ≡ is_added_t c.added p.code ps → record { depth = c.depth; used = c.used; added = a } ≡ alias_at_t p ps c
unfolding alias_at_t
at_is p ps c a e = rw e

pub turn_is : (claim : List ℕ) (i : ℕ) (table : List Slot) (scopes : List (List ℕ)) (c m : Cursor) (p : Parts) (v : Option Cursor) (table' : List Slot) (scopes' : List (List ℕ)) → i < length claim / 16 → p ≡ parts_at claim i → m ≡ alias_at_t p (rows_at claim (i + 1)) c
    → (v & table' & scopes') ≡ over_t p i table scopes m → (v & table' & scopes') ≡ alias_turn_t (rows_at claim i) i table scopes c
unfolding alias_turn_t
turn_is claim i table scopes c m p v table' scopes' h e k q = rw (rows_there claim i h, ← e, ← k) q

-- ---- try_aliases

abbrev out_of : {A B : Type 0} → Out A B → A
out_of (a & b) = a

abbrev left_of : {A B : Type 0} → Out A B → B
left_of (a & b) = b

-- behind a row the slots are those of the twin
pub record Named (before table table' : List Slot) (added : Bool) (used r scope : ℕ) (p : Parts) : Type 0 where
  pub are : take r table' ≡ alias_names_t (length before) added (take used table) scope p
  pub laid : Laid before table' r

module _ (before table : List Slot) (used scope : ℕ) (p : Parts) (h : Laid before table used) where
  unnamed : (table' : List Slot) (r : ℕ) → (r & table') ≡ (used & table) → (take r table' ≡ take used table) × Laid before table' r
  unnamed table' r e =
      let r-is : r ≡ used = ap out_of e in
      let t-is : table' ≡ table = ap left_of e in
      rw (r-is, t-is) (refl, h)

  by_code_lem : (a t : Bool) → eqb p.code 2 ≡ t → (table' : List Slot) (r : ℕ) → (r & table') ≡ alias_entered_t a table used scope p → Named before table table' a used r scope p
  unfolding alias_entered_t alias_names_t pick
  by_code_lem false t g table' r e = let u = unnamed table' r e in record { are = u.0; laid = u.1 }
  by_code_lem true false g table' r e = let u = unnamed table' r (rw g at e) in record { are = rw g u.0; laid = u.1 }
  by_code_lem true true g table' r e = let n = slot_enters before table used (name_slot scope p) h table' r (rw g at e) in record { are = rw g n.are; laid = n.laid }

  pub names_entered : (a : Bool) (table' : List Slot) (r : ℕ) → (r & table') ≡ alias_entered_t a table used scope p → Named before table table' a used r scope p
  names_entered a = by_code_lem a (eqb p.code 2) refl

-- what a turn of the loop keeps
pub record Goes (claim : List ℕ) (before table : List Slot) (scopes : List (List ℕ)) (c : Cursor) (i : ℕ) (T : Names) : Type 0 where
  pub goes : try_aliases_t (length before) i c.added (open_in scopes c.depth) (take c.used table) (rows_at claim i) ≡ T
  pub laid : Laid before table c.used
  pub deep : c.depth ≤ 64
  pub long : length scopes ≡ 64

module _ (claim : List ℕ) (before : List Slot) where
  pub goes_start : Goes claim before before (replicate 64 no_scope) (record { depth = 0; used = 0; added = false }) 0 (try_aliases_t (length before) 0 false [] [] (rows_at claim 0))
  unfolding open_in
  goes_start = record { goes = refl; laid = laid_none before; deep = omega arith; long = length-replicate 64 no_scope }

  module _ (table : List Slot) (scopes : List (List ℕ)) (c : Cursor) (i : ℕ) (T : Names) (g : Goes claim before table scopes c i T) where
    answered : (a : Result ⊤ ℕ) → (a & take c.used table) ≡ T → (a & table) ≡ laid_by T before
    unfolding laid_by
    answered a e = rw (← e, ← laid_is before table c.used g.laid)

    pub goes_end : length claim / 16 ≤ i → ((Ok tt) & table) ≡ laid_by T before
    unfolding try_aliases_t
    goes_end h = answered (Ok tt) (rw (rows_past claim i h) at g.goes)

    module _ (h : i < length claim / 16) where
      -- the row, whether its field is added, and its scope
      abbrev p : Parts
      p = parts_at claim i

      abbrev a : Bool
      a = is_added_t c.added p.code (rows_at claim (i + 1))

      abbrev scope : ℕ
      scope = here_t (open_in scopes c.depth)

      twin : pick (alias_breaks_t a (take c.used table) scope p) (Err i & take c.used table) (try_aliases_t (length before) (i + 1) a (open_one_t 64 (open_in scopes c.depth) p i) (alias_names_t (length before) a (take c.used table) scope p) (rows_at claim (i + 1))) ≡ T
      unfolding try_aliases_t
      twin = rw (rows_there claim i h) at g.goes

      abbrev After : Option Cursor → List Slot → List (List ℕ) → Type 0
      After (Some n) table' scopes' = Goes claim before table' scopes' n (i + 1) T
      After None table' scopes' = (Err i & table') ≡ laid_by T before

      after_on : (t : Bool) → alias_breaks_t a (take c.used table) scope p ≡ t → t ≡ false → (r d : ℕ) (table' : List Slot) (scopes' : List (List ℕ)) → (r & table') ≡ alias_entered_t a table c.used scope p → (d & scopes') ≡ open_behind_t scopes c.depth p i
          → Goes claim before table' scopes' (record { depth = d; used = r; added = a }) (i + 1) T
      unfolding pick
      after_on t b z r d table' scopes' n o =
          let N = names_entered before table c.used scope p g.laid a table' r n in
          let long = g.long in
          let deep = g.deep in
          let O = open_behind scopes c.depth p i (omega arith) scopes' d o in
          let room = O.room in
          let are : open_in scopes' d ≡ open_one_t 64 (open_in scopes c.depth) p i = rw (← long) O.are in
          record { goes = rw (are, N.are) (rw (b, z) at twin); laid = N.laid; deep = omega arith; long = O.long ∙ long }

      after : (t : Bool) → alias_breaks_t a (take c.used table) scope p ≡ t → (E : Out ℕ (List Slot)) → E ≡ alias_entered_t a table c.used scope p → (B : Out ℕ (List (List ℕ))) → B ≡ open_behind_t scopes c.depth p i
          → (v : Option Cursor) (table' : List Slot) (scopes' : List (List ℕ)) → (v & table' & scopes') ≡ pick t (None & table & scopes) (turned_t (alias_went_t a E B)) → After v table' scopes'
      unfolding pick turned_t alias_went_t
      after true b E m B o v table' scopes' q =
          let v-is : v ≡ None = ap out_of q in
          let t-is : table' ≡ table = ap (λ (x : Turned). out_of (left_of x)) q in
          rw v-is (rw t-is (answered (Err i) (rw b at twin)))
      after false b (r & tb) m (d & sc) o v table' scopes' q =
          let v-is : v ≡ Some (record { depth = d; used = r; added = a }) = ap out_of q in
          let t-is : table' ≡ tb = ap (λ (x : Turned). out_of (left_of x)) q in
          let s-is : scopes' ≡ sc = ap (λ (x : Turned). left_of (left_of x)) q in
          rw v-is (rw (t-is, s-is) (after_on false b refl r d tb sc m o))

      module _ (v : Option Cursor) (table' : List Slot) (scopes' : List (List ℕ)) (q : (v & table' & scopes') ≡ alias_turn_t (rows_at claim i) i table scopes c) where
        turned : After v table' scopes'
        unfolding alias_turn_t over_t alias_on_t turned_t alias_at_t
        turned = after (alias_breaks_t a (take c.used table) scope p) refl _ refl _ refl v table' scopes' (rw (rows_there claim i h) at q)

        pub goes_breaks : v ≡ None → (Err i & table') ≡ laid_by T before
        goes_breaks z = rw z at turned

        pub goes_on_lem : (n : Cursor) → v ≡ Some n → Goes claim before table' scopes' n (i + 1) T
        goes_on_lem n z = rw z at turned

pub held_at : (p : Parts) (ps : List Parts) (c m : Cursor) (table : List Slot) (index : List ℕ) → m ≡ alias_at_t p ps c → Holds table index c.used → Holds table index m.used
unfolding alias_at_t
held_at p ps c m table index e h = rw e h

pub held_on : (v : Option Cursor) (n : Cursor) (table : List Slot) (index : List ℕ) → v ≡ Some n → HeldBy v table index → Holds table index n.used
held_on v n table index e h = rw e at h

pub ruleset turns = (goes_start, goes_end, goes_breaks, goes_on_lem, held_on, rules)
