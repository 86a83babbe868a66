-- What the arrays stand for: scopes that are open, and slots that were entered.
use mathlib.Core.Path.{◌≡◌, refl, sym, ap, ◌∙◌}
use mathlib.Core.Bool.{Bool, true, false}
use mathlib.Core.List.{List, [], ◌∷◌, ◌++◌, append_assoc}
use Prim.Native.Nat.{ℕ, zero, suc, ◌+◌, ◌-◌, ◌<◌, ◌≤◌}
use native.Mathlib.Omega.{arith}
use lib.Dec.{eqb, ltb}
use lib.ListN.{length, get_or, set, take, drop, length-set, length-append, take-append-drop}
use lib.Seq.{get_or-set_same, get_or-set_other, length-take-le, drop-set-lt, drop-drop}
use borrow.Author.Tests.{lt-ltb, le-ltb, eqb-true, ltb-true, ltb-false}
use Rattle.kit.specs.Pick.{pick}
use Rattle.kit.specs.Out.{Out, ◌&◌}
use Rattle.kit.proofs.Laws.{take_next_set}
use Rattle.parts.specs.declared.Parts.{Parts}
use Rattle.names.specs.Table.{Slot, pushed, no_scope, scope_at}
use Rattle.claim_scopes.specs.Open.{open_scope_t, open_behind_t, open_in, open_closed_t, open_one_t}
use Rattle.claim_scopes.specs.Entries.{enter_t, laid_t}

-- ---- scopes

pub open_length : (scopes : List (List ℕ)) (d : ℕ) → length (open_in scopes d) ≡ d
unfolding open_in
open_length scopes zero = refl
open_length scopes (suc k) = ap suc (open_length scopes k)

open_below : (scopes : List (List ℕ)) (d k : ℕ) (s : List ℕ) → k ≤ d → open_in (set scopes d s) k ≡ open_in scopes k
unfolding open_in
open_below scopes d zero s h = refl
open_below scopes d (suc k) s h = rw (get_or-set_other scopes d k s no_scope (omega arith), open_below scopes d k s (omega arith))

-- what is open behind a row
pub record Behind (scopes scopes' : List (List ℕ)) (d r : ℕ) (p : Parts) (i : ℕ) : Type 0 where
  pub are : open_in scopes' r ≡ open_one_t (length scopes) (open_in scopes d) p i
  pub room : r ≤ length scopes
  pub long : length scopes' ≡ length scopes

abbrev out_of : {A B : Type 0} → Out A B → A
out_of (a & b) = a

abbrev left_of : {A B : Type 0} → Out A B → B
left_of (a & b) = b

module _ (scopes : List (List ℕ)) (d : ℕ) (p : Parts) (i : ℕ) (h : d ≤ length scopes) where
  opened : (t : Bool) → ltb d (length scopes) ≡ t → (o : Out ℕ (List (List ℕ))) → o ≡ pick t (d + 1 & set scopes d (open_scope_t p.x i)) (d & scopes)
      → (open_in (left_of o) (out_of o) ≡ pick (ltb (length (open_in scopes d)) (length scopes)) (open_scope_t p.x i ∷ open_in scopes d) (open_in scopes d)) × (out_of o ≤ length scopes) × (length (left_of o) ≡ length scopes)
  unfolding pick open_in
  opened true t o e =
      let l = ltb-true _ _ t in
      let q : d + 1 ≡ suc d = omega arith in
      rw (e, q, open_length scopes d, t) (rw (get_or-set_same scopes d (open_scope_t p.x i) no_scope l, open_below scopes d d (open_scope_t p.x i) (omega arith)), omega arith, length-set scopes d (open_scope_t p.x i))
  opened false t o e = rw (e, open_length scopes d, t) (refl, h, refl)

  closed : (d₁ : ℕ) → d₁ ≡ d → (open_in scopes (d₁ - 1) ≡ open_closed_t (open_in scopes d₁))
  unfolding open_in open_closed_t
  closed zero e = refl
  closed (suc k) e = let q : suc k - 1 ≡ k = omega arith in rw q

  by_code_lem : (t u : Bool) → eqb p.code 7 ≡ t → eqb p.code 8 ≡ u → (scopes' : List (List ℕ)) (r : ℕ) → (r & scopes') ≡ open_behind_t scopes d p i → Behind scopes scopes' d r p i
  unfolding open_behind_t open_one_t pick
  by_code_lem true u t w scopes' r e =
      let o = opened (ltb d (length scopes)) refl (r & scopes') (rw t at e) in
      record { are = rw t o.0; room = o.1; long = o.2 }
  by_code_lem false true t w scopes' r e =
      let q : (r & scopes') ≡ (d - 1 & scopes) = rw (t, w) at e in
      let r-is : r ≡ d - 1 = ap out_of q in
      let s-is : scopes' ≡ scopes = ap left_of q in
      record { are = rw (t, w, r-is, s-is) (closed d refl); room = omega arith; long = ap length s-is }
  by_code_lem false false t w scopes' r e =
      let q : (r & scopes') ≡ (d & scopes) = rw (t, w) at e in
      let r-is : r ≡ d = ap out_of q in
      let s-is : scopes' ≡ scopes = ap left_of q in
      record { are = rw (t, w, r-is, s-is); room = omega arith; long = ap length s-is }

  pub open_behind : (scopes' : List (List ℕ)) (r : ℕ) → (r & scopes') ≡ open_behind_t scopes d p i → Behind scopes scopes' d r p i
  open_behind = by_code_lem (eqb p.code 7) (eqb p.code 8) refl refl

-- ---- slots

-- the first `used` slots of a table that was `before` were entered
pub record Laid (before table : List Slot) (used : ℕ) : Type 0 where
  pub kept : drop used table ≡ drop used before
  pub long : length table ≡ length before
  pub room : used ≤ length table

pub laid_none : (table : List Slot) → Laid table table 0
laid_none table = record { kept = refl; long = refl; room = omega arith }

-- one slot more
pub record Entered (before table table' : List Slot) (used r : ℕ) (s : Slot) : Type 0 where
  pub are : take r table' ≡ enter_t (length before) (take used table) s
  pub laid : Laid before table' r

module _ (before table : List Slot) (used : ℕ) (s : Slot) (h : Laid before table used) where
  by_room : (t : Bool) → ltb used (length table) ≡ t → (table' : List Slot) (r : ℕ) → (r & table') ≡ pick t (used + 1 & set table used s) (used & table) → Entered before table table' used r s
  unfolding pick enter_t
  by_room true t table' r e =
      let l = ltb-true _ _ t in
      let r-is : r ≡ used + 1 = ap out_of e in
      let t-is : table' ≡ set table used s = ap left_of e in
      let n : length (take used table) ≡ used = length-take-le used table h.room in
      record {
        are = rw (r-is, t-is, take_next_set table used s l, n, ← h.long, t);
        laid = record {
          kept = rw (r-is, t-is, drop-set-lt (used + 1) table used s (omega arith)) (sym (drop-drop 1 used table) ∙ ap (drop 1) h.kept ∙ drop-drop 1 used before);
          long = rw (t-is, length-set table used s) h.long;
          room = rw (r-is, t-is, length-set table used s) (omega arith);
        };
      }
  by_room false t table' r e =
      let r-is : r ≡ used = ap out_of e in
      let t-is : table' ≡ table = ap left_of e in
      let n : length (take used table) ≡ used = length-take-le used table h.room in
      record { are = rw (r-is, t-is, n, ← h.long, t); laid = rw (r-is, t-is) h }

  pub slot_enters : (table' : List Slot) (r : ℕ) → (r & table') ≡ pushed table used s → Entered before table table' used r s
  unfolding pushed
  slot_enters = by_room (ltb used (length table)) refl

-- what the table is in the end
pub laid_is : (before table : List Slot) (used : ℕ) → Laid before table used → table ≡ laid_t (take used table) before
unfolding laid_t
laid_is before table used h = rw (length-take-le used table h.room, ← h.kept) (sym (take-append-drop used table))
