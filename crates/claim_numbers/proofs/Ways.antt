-- Each way through the code finds what its twin finds.
use mathlib.Core.Path.{◌≡◌, refl, sym, ap, ◌∙◌}
use mathlib.Core.Bool.{Bool, true, false}
use mathlib.Core.List.{List, [], ◌∷◌}
use Prim.Native.Nat.{ℕ, zero, suc, ◌+◌, ◌-◌, ◌/◌, ◌%◌, ◌<◌, ◌≤◌}
use native.Mathlib.Omega.{arith}
use lib.Dec.{eqb, leb, ltb}
use lib.ListN.{length, get_or, set, take, replicate, length-replicate, length-set}
use lib.Seq.{get_or-set_same, get_or-set_other, length-take-le}
use borrow.Author.Rules.{rules}
use borrow.Author.Tests.{lt-ltb, le-ltb, le-leb, lt-leb, eq-eqb, ne_eqb, eqb-true, ltb-true}
use Rattle.kit.specs.Pick.{pick}
use Rattle.kit.specs.Out.{Out, ◌&◌}
use Rattle.parts.specs.PartsAt.{parts_at}
use Rattle.parts.specs.declared.Parts.{Parts}
use Rattle.names.specs.Table.{Slot, pushed, no_scope}
use Rattle.names.proofs.Laws.{any_default}
use Rattle.index.specs.Indexed.{Holds}
use Rattle.claim_rows.specs.Left.{rows_at}
use Rattle.claim_rows.specs.Added.{is_added_t}
use Rattle.claim_rows.proofs.Ways.{rows_there, rows_past}
use Rattle.claim_scopes.specs.Open.{open_scope_t, open_behind_t, open_in, here_t, open_one_t}
use Rattle.claim_scopes.specs.Entries.{slot_t}
use Rattle.claim_scopes.proofs.Held.{open_behind, Laid, laid_none, slot_enters, laid_is}
use Rattle.claim_numbers.specs.Count.{no_counts, counts_at, more_count_t, bump_count_t, count_before_t, counts_in, number_in, more_in, less_in, number_before_t, counts_t}
use Rattle.claim_numbers.specs.Enter.{decl_slot, enter_decl_t, enter_at_t, Went, enter_went_t, enter_counted_t, enter_on_t, enter_turn_t, decl_entry_t, entries_t, laid_by}
use Rattle.claim_numbers.specs.declared.enter.Cursor.{Cursor}

-- ---- bump, count

module _ (counts : List (List ℕ)) (level space : ℕ) where
  pub bump_past : length counts ≤ level → (0 & counts) ≡ bump_count_t counts level space
  unfolding bump_count_t pick
  bump_past h = rw (le-leb _ _ h)

  module _ (h : level < length counts) where
    pub bump_other : 13 ≤ space → (0 & counts) ≡ bump_count_t counts level space
    unfolding bump_count_t pick
    bump_other g = rw (lt-leb _ _ h, le-leb _ _ g)

    pub bump_done : (c : List ℕ) → c ≡ get_or counts level [] → space < 13 → (get_or c space 0 & set counts level (set c space (get_or c space 0 % 65536 + 1))) ≡ bump_count_t counts level space
    unfolding bump_count_t pick more_count_t
    bump_done c e g = let d : c ≡ counts_at counts level = e ∙ any_default counts level [] no_counts h in rw (lt-leb _ _ h, lt-leb _ _ g, d)

pub ruleset bumps = (bump_past, bump_other, bump_done, rules)

module _ (counts : List (List ℕ)) (depth : ℕ) (p : Parts) where
  pub count_open : p.code ≡ 7 → depth < length counts → (0 & set counts depth no_counts) ≡ count_before_t counts depth p
  unfolding count_before_t pick
  count_open h g = rw (eq-eqb _ _ h, lt-ltb _ _ g)

  pub count_full : p.code ≡ 7 → length counts ≤ depth → (0 & counts) ≡ count_before_t counts depth p
  unfolding count_before_t pick
  count_full h g = rw (eq-eqb _ _ h, le-ltb _ _ g)

  module _ (h : p.code ≡ 7 → ⊥) where
    pub count_other : (p.code ≡ 2 → ⊥) → (0 & counts) ≡ count_before_t counts depth p
    unfolding count_before_t pick
    count_other g = rw (ne_eqb _ _ h, ne_eqb _ _ g)

    pub count_none : p.code ≡ 2 → depth ≡ 0 → (0 & counts) ≡ count_before_t counts depth p
    unfolding count_before_t pick
    count_none g k = rw (ne_eqb _ _ h, eq-eqb _ _ g, eq-eqb _ _ k)

    pub count_decl : (n : ℕ) (counts' : List (List ℕ)) → p.code ≡ 2 → (depth ≡ 0 → ⊥) → (n & counts') ≡ bump_count_t counts (depth - 1) p.b → (n & counts') ≡ count_before_t counts depth p
    unfolding count_before_t pick
    count_decl n counts' g k e = rw (ne_eqb _ _ h, eq-eqb _ _ g, ne_eqb _ _ k) e

pub ruleset counting = (count_open, count_full, count_other, count_none, count_decl, rules)

-- ---- enter_decl

module _ (table : List Slot) (scope : ℕ) (p : Parts) (number i : ℕ) (c : Cursor) where
  pub enters_none : (p.code ≡ 2 → ⊥) → (c.used & table) ≡ enter_decl_t table scope p number i c
  unfolding enter_decl_t pick
  enters_none h = rw (ne_eqb _ _ h)

  module _ (h : p.code ≡ 2) (r : ℕ) (table' : List Slot) where
    pub enters_alias : c.added ≡ true → (r & table') ≡ pushed table c.used (slot_t (scope % 65536 + 1) p.b (number % 65536 + 1) (i % 65536)) → (r & table') ≡ enter_decl_t table scope p number i c
    unfolding enter_decl_t decl_slot pick
    enters_alias a q = rw (eq-eqb _ _ h, a) q

    pub enters_own : c.added ≡ false → (r & table') ≡ pushed table c.used (slot_t scope p.b p.x number) → (r & table') ≡ enter_decl_t table scope p number i c
    unfolding enter_decl_t decl_slot pick
    enters_own a q = rw (eq-eqb _ _ h, a) q

pub ruleset entering = (enters_none, enters_alias, enters_own, rules)

-- ---- go_on, at_row, go_over

pub on_is : (p : Parts) (i : ℕ) (table : List Slot) (scopes counts : List (List ℕ)) (c : Cursor) (number : ℕ) (counts' : List (List ℕ)) (scope r d : ℕ) (table' : List Slot) (scopes' : List (List ℕ))
    → (number & counts') ≡ count_before_t counts c.depth p → scope ≡ here_t (open_in scopes c.depth) → (r & table') ≡ enter_decl_t table scope p number i c → (d & scopes') ≡ open_behind_t scopes c.depth p i
    → (record { depth = d; used = r; added = c.added } & table' & scopes' & counts') ≡ enter_on_t p i table scopes counts c
unfolding enter_on_t enter_counted_t enter_went_t
on_is p i table scopes counts c number counts' scope r d table' scopes' n w q o = rw (← n, ← w, ← q, ← o)

pub at_is : (p : Parts) (ps : List Parts) (c : Cursor) (a : Bool) → a ≡ is_added_t c.added p.code ps → record { depth = c.depth; used = c.used; added = a } ≡ enter_at_t p ps c
unfolding enter_at_t
at_is p ps c a e = rw e

pub held_at : (p : Parts) (ps : List Parts) (c m : Cursor) (table : List Slot) (index : List ℕ) → m ≡ enter_at_t p ps c → Holds table index c.used → Holds table index m.used
unfolding enter_at_t
held_at p ps c m table index e h = rw e h

pub turn_is : (claim : List ℕ) (i : ℕ) (table : List Slot) (scopes counts : List (List ℕ)) (c m n : Cursor) (p : Parts) (table' : List Slot) (scopes' counts' : List (List ℕ)) → i < length claim / 16 → p ≡ parts_at claim i → m ≡ enter_at_t p (rows_at claim (i + 1)) c
    → (n & table' & scopes' & counts') ≡ enter_on_t p i table scopes counts m → (n & table' & scopes' & counts') ≡ enter_turn_t (rows_at claim i) i table scopes counts c
unfolding enter_turn_t
turn_is claim i table scopes counts c m n p table' scopes' counts' h e k q = rw (rows_there claim i h, ← e, ← k) q

-- ---- what the array of counts stands for

counts_length : (counts : List (List ℕ)) (d : ℕ) → length (counts_in counts d) ≡ d
unfolding counts_in
counts_length counts zero = refl
counts_length counts (suc k) = ap suc (counts_length counts k)

counts_below : (counts : List (List ℕ)) (d k : ℕ) (c : List ℕ) → k ≤ d → counts_in (set counts d c) k ≡ counts_in counts k
unfolding counts_in
counts_below counts d zero c h = refl
counts_below counts d (suc k) c h = rw (get_or-set_other counts d k c no_counts (omega arith), counts_below counts d k c (omega arith))

counts_set : (counts : List (List ℕ)) (d : ℕ) (c : List ℕ) → d < length counts → counts_in (set counts d c) (suc d) ≡ c ∷ counts_in counts d
unfolding counts_in
counts_set counts d c h = rw (get_or-set_same counts d c no_counts h, counts_below counts d d c (omega arith))

-- the number of a row, and the counts behind it
pub record Counted (counts counts' : List (List ℕ)) (d r number : ℕ) (p : Parts) : Type 0 where
  pub number_is : number ≡ number_before_t (counts_in counts d) p
  pub are : counts_in counts' r ≡ counts_t (length counts) (counts_in counts d) p
  pub long : length counts' ≡ length counts

abbrev out_of : {A B : Type 0} → Out A B → A
out_of (a & b) = a

abbrev left_of : {A B : Type 0} → Out A B → B
left_of (a & b) = b

module _ (scopes counts : List (List ℕ)) (d : ℕ) (p : Parts) (i : ℕ) (l : d ≤ length counts) (same : length scopes ≡ length counts) where
  -- where an OPEN, a CLOSE and any other row leave the depth
  opened : (t : Bool) → ltb d (length scopes) ≡ t → (o w : Out ℕ (List (List ℕ))) → o ≡ pick t (d + 1 & set scopes d (open_scope_t p.x i)) (d & scopes) → w ≡ pick (ltb d (length counts)) (0 & set counts d no_counts) (0 & counts)
      → (out_of w ≡ 0) × (counts_in (left_of w) (out_of o) ≡ pick (ltb (length (counts_in counts d)) (length counts)) (no_counts ∷ counts_in counts d) (counts_in counts d)) × (length (left_of w) ≡ length counts)
  unfolding pick
  opened true t o w e f =
      let h = ltb-true d (length scopes) t in
      let q : d + 1 ≡ suc d = omega arith in
      rw (e, f, counts_length counts d, ← same, t) (refl, rw q (counts_set counts d no_counts (omega arith)), length-set counts d no_counts ∙ sym same)
  opened false t o w e f = rw (e, f, counts_length counts d, ← same, t) (refl, refl, sym same)

  closed : (d₁ : ℕ) → counts_in counts (d₁ - 1) ≡ less_in (counts_in counts d₁)
  unfolding counts_in less_in
  closed zero = refl
  closed (suc k) = let q : suc k - 1 ≡ k = omega arith in rw q

  more_is : (k : ℕ) (t : Bool) → k < length counts → leb 13 p.b ≡ t → (w : Out ℕ (List (List ℕ))) → w ≡ bump_count_t counts k p.b → (out_of w ≡ number_in (counts_at counts k ∷ counts_in counts k) p.b) × (counts_in (left_of w) (suc k) ≡ more_in (counts_at counts k ∷ counts_in counts k) p.b) × (length (left_of w) ≡ length counts)
  unfolding bump_count_t number_in more_in pick counts_in
  more_is k true h t w e = let q : w ≡ (0 & counts) = rw (lt-leb _ _ h, t) at e in rw t (ap out_of q, ap (λ (x : Out ℕ (List (List ℕ))). counts_in (left_of x) (suc k)) q, ap (λ (x : Out ℕ (List (List ℕ))). length (left_of x)) q)
  more_is k false h t w e =
      let q : w ≡ (get_or (counts_at counts k) p.b 0 & set counts k (more_count_t (counts_at counts k) p.b)) = rw (lt-leb _ _ h, t) at e in
      rw t (
        ap out_of q,
        ap (λ (x : Out ℕ (List (List ℕ))). counts_in (left_of x) (suc k)) q ∙ counts_set counts k (more_count_t (counts_at counts k) p.b) h,
        ap (λ (x : Out ℕ (List (List ℕ))). length (left_of x)) q ∙ length-set counts k (more_count_t (counts_at counts k) p.b),
      )

  declared : (d₁ : ℕ) → d₁ ≡ d → (w : Out ℕ (List (List ℕ))) → w ≡ pick (eqb d₁ 0) (0 & counts) (bump_count_t counts (d₁ - 1) p.b) → (out_of w ≡ number_in (counts_in counts d₁) p.b) × (counts_in (left_of w) d₁ ≡ more_in (counts_in counts d₁) p.b) × (length (left_of w) ≡ length counts)
  unfolding pick counts_in number_in more_in
  declared zero e w f = rw f (refl, refl, refl)
  declared (suc k) e w f =
      let q : suc k - 1 ≡ k = omega arith in
      more_is k (leb 13 p.b) (omega arith) refl w (rw (ne_eqb (suc k) 0 (omega arith), q) at f)

  by_code_lem : (t u v : Bool) → eqb p.code 7 ≡ t → eqb p.code 8 ≡ u → eqb p.code 2 ≡ v → (number r : ℕ) (scopes' counts' : List (List ℕ)) → (number & counts') ≡ count_before_t counts d p → (r & scopes') ≡ open_behind_t scopes d p i → Counted counts counts' d r number p
  unfolding count_before_t open_behind_t number_before_t counts_t pick
  by_code_lem true u v t w x number r scopes' counts' f e =
      let n : eqb p.code 2 ≡ false = let c = eqb-true p.code 7 t in ne_eqb p.code 2 (omega arith) in
      let o = opened (ltb d (length scopes)) refl (r & scopes') (number & counts') (rw t at e) (rw t at f) in
      record { number_is = rw n o.0; are = rw t o.1; long = o.2 }
  by_code_lem false true v t w x number r scopes' counts' f e =
      let n : eqb p.code 2 ≡ false = let c = eqb-true p.code 8 w in ne_eqb p.code 2 (omega arith) in
      let q : (r & scopes') ≡ (d - 1 & scopes) = rw (t, w) at e in
      let m : (number & counts') ≡ (0 & counts) = rw (t, n) at f in
      let r-is : r ≡ d - 1 = ap out_of q in
      let c-is : counts' ≡ counts = ap left_of m in
      record { number_is = rw n (ap out_of m); are = rw (t, w, r-is, c-is) (closed d); long = ap length c-is }
  by_code_lem false false true t w x number r scopes' counts' f e =
      let q : (r & scopes') ≡ (d & scopes) = rw (t, w) at e in
      let r-is : r ≡ d = ap out_of q in
      let o = declared d refl (number & counts') (rw (t, x) at f) in
      record { number_is = rw x o.0; are = rw (t, w, x, r-is) o.1; long = o.2 }
  by_code_lem false false false t w x number r scopes' counts' f e =
      let q : (r & scopes') ≡ (d & scopes) = rw (t, w) at e in
      let m : (number & counts') ≡ (0 & counts) = rw (t, x) at f in
      let r-is : r ≡ d = ap out_of q in
      let c-is : counts' ≡ counts = ap left_of m in
      record { number_is = rw x (ap out_of m); are = rw (t, w, x, r-is, c-is); long = ap length c-is }

  pub counted_behind : (number r : ℕ) (scopes' counts' : List (List ℕ)) → (number & counts') ≡ count_before_t counts d p → (r & scopes') ≡ open_behind_t scopes d p i → Counted counts counts' d r number p
  counted_behind = by_code_lem (eqb p.code 7) (eqb p.code 8) (eqb p.code 2) refl refl refl

-- ---- enter_all

-- behind a row the slots are those of the twin
pub record Listed (before table table' : List Slot) (scope : ℕ) (p : Parts) (number i r : ℕ) (c : Cursor) : Type 0 where
  pub are : take r table' ≡ decl_entry_t (length before) c.added (take c.used table) scope p number i
  pub laid : Laid before table' r

module _ (before table : List Slot) (scope : ℕ) (p : Parts) (number i : ℕ) (c : Cursor) (h : Laid before table c.used) where
  by_want : (t : Bool) → eqb p.code 2 ≡ t → (table' : List Slot) (r : ℕ) → (r & table') ≡ enter_decl_t table scope p number i c → Listed before table table' scope p number i r c
  unfolding enter_decl_t decl_entry_t pick
  by_want true t table' r e =
      let n = slot_enters before table c.used (decl_slot c.added scope p number i) h table' r (rw t at e) in
      record { are = rw t n.are; laid = n.laid }
  by_want false t table' r e =
      let q : (r & table') ≡ (c.used & table) = rw t at e in
      let r-is : r ≡ c.used = ap out_of q in
      let t-is : table' ≡ table = ap left_of q in
      record { are = rw (t, r-is, t-is); laid = rw (r-is, t-is) h }

  pub entries_listed : (table' : List Slot) (r : ℕ) → (r & table') ≡ enter_decl_t table scope p number i c → Listed before table table' scope p number i r c
  entries_listed = by_want (eqb p.code 2) refl

-- what a turn of the loop keeps
pub record Goes (claim : List ℕ) (before table : List Slot) (scopes counts : List (List ℕ)) (c : Cursor) (i : ℕ) (T : List Slot) : Type 0 where
  pub goes : entries_t (length before) i c.added (open_in scopes c.depth) (counts_in counts c.depth) (take c.used table) (rows_at claim i) ≡ T
  pub laid : Laid before table c.used
  pub deep : c.depth ≤ 64
  pub long : length scopes ≡ 64
  pub counted : length counts ≡ 64

module _ (claim : List ℕ) (before : List Slot) where
  pub goes_start : Goes claim before before (replicate 64 no_scope) (replicate 64 no_counts) (record { depth = 0; used = 0; added = false }) 0 (entries_t (length before) 0 false [] [] [] (rows_at claim 0))
  unfolding open_in counts_in
  goes_start = record { goes = refl; laid = laid_none before; deep = omega arith; long = length-replicate 64 no_scope; counted = length-replicate 64 no_counts }

  module _ (table : List Slot) (scopes counts : List (List ℕ)) (c : Cursor) (i : ℕ) (T : List Slot) (g : Goes claim before table scopes counts c i T) where
    pub goes_end : length claim / 16 ≤ i → (c.used & table) ≡ laid_by T before
    unfolding entries_t laid_by
    goes_end h =
        let e : take c.used table ≡ T = rw (rows_past claim i h) at g.goes in
        rw (← e, length-take-le c.used table g.laid.room, ← laid_is before table c.used g.laid)

    module _ (h : i < length claim / 16) where
      abbrev p : Parts
      p = parts_at claim i

      abbrev a : Bool
      a = is_added_t c.added p.code (rows_at claim (i + 1))

      abbrev at : Cursor
      at = record { depth = c.depth; used = c.used; added = a }

      abbrev scope : ℕ
      scope = here_t (open_in scopes c.depth)

      twin : entries_t (length before) (i + 1) a (open_one_t 64 (open_in scopes c.depth) p i) (counts_t 64 (counts_in counts c.depth) p)
          (decl_entry_t (length before) a (take c.used table) scope p (number_before_t (counts_in counts c.depth) p) i) (rows_at claim (i + 1)) ≡ T
      unfolding entries_t
      twin = rw (rows_there claim i h) at g.goes

      after : (C : Out ℕ (List (List ℕ))) → C ≡ count_before_t counts c.depth p → (E : Out ℕ (List Slot)) → E ≡ enter_decl_t table scope p (out_of C) i at → (B : Out ℕ (List (List ℕ))) → B ≡ open_behind_t scopes c.depth p i
          → (n : Cursor) (table' : List Slot) (scopes' counts' : List (List ℕ)) → (n & table' & scopes' & counts') ≡ enter_went_t at E B (left_of C) → Goes claim before table' scopes' counts' n (i + 1) T
      unfolding enter_went_t
      after (number & ct) k (r & tb) m (d & sc) o n table' scopes' counts' q =
          let n-is : n ≡ record { depth = d; used = r; added = a } = ap out_of q in
          let t-is : table' ≡ tb = ap (λ (x : Went). out_of (left_of x)) q in
          let s-is : scopes' ≡ sc = ap (λ (x : Went). out_of (left_of (left_of x))) q in
          let c-is : counts' ≡ ct = ap (λ (x : Went). left_of (left_of (left_of x))) q in
          let long = g.long in
          let counted = g.counted in
          let deep = g.deep in
          let L = entries_listed before table scope p number i at g.laid tb r m in
          let O = open_behind scopes c.depth p i (omega arith) sc d o in
          let N = counted_behind scopes counts c.depth p i (omega arith) (long ∙ sym counted) number d sc ct k o in
          let room = O.room in
          let opens : open_in sc d ≡ open_one_t 64 (open_in scopes c.depth) p i = rw (← long) O.are in
          let counts-are : counts_in ct d ≡ counts_t 64 (counts_in counts c.depth) p = rw (← counted) N.are in
          rw (n-is, t-is, s-is, c-is) (record { goes = rw (opens, counts-are, L.are, N.number_is) twin; laid = L.laid; deep = omega arith; long = O.long ∙ long; counted = N.long ∙ counted })

      pub goes_on_lem : (n : Cursor) (table' : List Slot) (scopes' counts' : List (List ℕ)) → (n & table' & scopes' & counts') ≡ enter_turn_t (rows_at claim i) i table scopes counts c → Goes claim before table' scopes' counts' n (i + 1) T
      unfolding enter_turn_t enter_on_t enter_at_t
      goes_on_lem n table' scopes' counts' q = go (count_before_t counts c.depth p) refl (rw (rows_there claim i h) at q)
        where
          go : (C : Out ℕ (List (List ℕ))) → C ≡ count_before_t counts c.depth p → (n & table' & scopes' & counts') ≡ enter_counted_t C p i table scopes at → Goes claim before table' scopes' counts' n (i + 1) T
          go (number & ct) k e = after (number & ct) k _ refl _ refl n table' scopes' counts' (unfold enter_counted_t in e)

pub ruleset turns = (goes_start, goes_end, goes_on_lem, rules)
