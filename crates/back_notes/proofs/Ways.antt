-- Each way through the code finds what its twin finds.
use Rattle.std.specs.Prelude.{Option, ℕ, unwrap_or}
use mathlib.Core.Path.{◌≡◌, refl, sym, ap, ◌∙◌}
use mathlib.Core.Bool.{Bool, true, false}
use mathlib.Core.List.{List, [], ◌∷◌, ◌++◌}
use Prim.Native.Nat.{ℕ, zero, suc, ◌+◌, ◌-◌, ◌/◌, ◌%◌, ◌<◌, ◌≤◌}
use native.Mathlib.Omega.{arith}
use native.Mathlib.Numerals.{add-one}
use lib.Dec.{eqb}
use lib.ListN.{length, get_or, set, take, drop, replicate, length-replicate}
use lib.Seq.{sets, set_out, length-take-le, take-append_seam}
use borrow.Author.Rules.{rules}
use borrow.Author.Tests.{lt-ltb, le-ltb, eq-eqb, ne_eqb}
use Rattle.kit.specs.Pick.{pick}
use Rattle.kit.specs.Out.{Out, ◌&◌}
use Rattle.kit.proofs.Laws.{left_suc}
use Rattle.parts.specs.PartsAt.{parts_at}
use Rattle.parts.specs.declared.Parts.{Parts}
use Rattle.names.specs.Table.{Slot, pushed, no_scope, scope_at}
use Rattle.claim_rows.specs.Left.{rows_at}
use Rattle.claim_rows.proofs.Ways.{rows_there, rows_past}
use Rattle.claim_scopes.specs.Open.{open_behind_t, open_in, here_t, open_one_t}
use Rattle.claim_scopes.specs.Entries.{slot_t, look_t, laid_t}
use Rattle.claim_scopes.proofs.Held.{open_behind, Laid, laid_none, slot_enters, laid_is}
use Rattle.claim_numbers.specs.Count.{no_counts, count_before_t, counts_in, number_before_t, counts_t}
use Rattle.claim_numbers.specs.Enter.{laid_by}
use Rattle.claim_numbers.proofs.Ways.{counted_behind}
use Rattle.back_notes.specs.Note.{Note, note, no_note, row_at, noted_from, noted_at}
use Rattle.back_notes.specs.Number.{out_t, note_t, Went, went_t, on_t, number_row_t, notes_t}
use Rattle.back_notes.specs.Names.{slot_of, entered_t, note_entry_t, slots_t, key_t, name_of_t, named_t, name_row_t, naming_t, named_from, names_t}

-- ---- notes

pub put_past : (noted : List Note) (i : ℕ) (n : Note) → length noted ≤ i → noted ≡ set noted i n
put_past noted i n h = sym (set_out noted i n h)

-- ---- scope_out, note_of

out_at : (scopes : List (List ℕ)) (depth far : ℕ) → far < depth → get_or (scope_at scopes (depth - 1 - far)) 1 0 % 65536 ≡ out_t (open_in scopes depth) far
unfolding open_in out_t
out_at scopes zero far h = absurd (omega arith)
out_at scopes (suc d) zero h = let e : suc d - 1 - 0 ≡ d = omega arith in rw e
out_at scopes (suc d) (suc far) h = let e : suc d - 1 - suc far ≡ d - 1 - far = omega arith in rw e (out_at scopes d far (omega arith))

out_past : (scopes : List (List ℕ)) (depth far : ℕ) → depth ≤ far → 65535 ≡ out_t (open_in scopes depth) far
unfolding open_in out_t
out_past scopes zero far h = refl
out_past scopes (suc d) zero h = absurd (omega arith)
out_past scopes (suc d) (suc far) h = out_past scopes d far (omega arith)

module _ (scopes : List (List ℕ)) (depth out far : ℕ) (e : far ≡ out) where
  pub out_none : depth ≤ far → 65535 ≡ out_t (open_in scopes depth) out
  out_none h = out_past scopes depth out (omega arith)

  pub out_some : (s : List ℕ) (r : ℕ) → far < depth → s ≡ scope_at scopes (depth - 1 - far) → r ≡ get_or s 1 0 % 65536 → r ≡ out_t (open_in scopes depth) out
  out_some s r h f g = rw (g, f, e) (out_at scopes depth out (omega arith))

pub ruleset outs = (out_none, out_some, rules)

module _ (st : List (List ℕ)) (number : ℕ) (p : Parts) where
  pub note_decl : p.code ≡ 2 → (h l : ℕ) → h ≡ here_t st → l ≡ h % 65536 → note number l ≡ note_t st number p
  unfolding note_t pick
  note_decl c h l e f = rw (eq-eqb _ _ c, f, e)

  module _ (d : p.code ≡ 2 → ⊥) where
    pub note_outer : p.code ≡ 5 → (o : ℕ) → o ≡ out_t st p.x → note 0 o ≡ note_t st number p
    unfolding note_t pick
    note_outer c o e = rw (ne_eqb _ _ d, eq-eqb _ _ c, e)

    pub note_other : (p.code ≡ 5 → ⊥) → no_note ≡ note_t st number p
    unfolding note_t pick
    note_other c = rw (ne_eqb _ _ d, ne_eqb _ _ c)

pub ruleset noting = (note_decl, note_outer, note_other, rules)

-- ---- number_row, number_rows

pub row_is : (p : Parts) (i : ℕ) (scopes counts : List (List ℕ)) (noted : List Note) (depth number : ℕ) (counts' : List (List ℕ)) (n : Note) (noted' : List Note) (d : ℕ) (scopes' : List (List ℕ))
    → (number & counts') ≡ count_before_t counts depth p → n ≡ note_t (open_in scopes depth) number p → noted' ≡ set noted i n → (d & scopes') ≡ open_behind_t scopes depth p i
    → (d & scopes' & counts' & noted') ≡ number_row_t p i scopes counts noted depth
unfolding number_row_t on_t went_t
row_is p i scopes counts noted depth number counts' n noted' d scopes' c e s b = rw (← c, s, e, ← b)

abbrev out_of : {A B : Type 0} → Out A B → A
out_of (a & b) = a

abbrev left_of : {A B : Type 0} → Out A B → B
left_of (a & b) = b

-- what a turn of the loop keeps
pub record Goes (rows : List ℕ) (scopes counts : List (List ℕ)) (noted : List Note) (depth i : ℕ) (T : List Note) : Type 0 where
  pub goes : sets noted i (notes_t i (open_in scopes depth) (counts_in counts depth) (rows_at rows i)) ≡ T
  pub deep : depth ≤ 64
  pub long : length scopes ≡ 64
  pub counted : length counts ≡ 64

module _ (rows : List ℕ) (noted : List Note) where
  pub goes_start : Goes rows (replicate 64 no_scope) (replicate 64 no_counts) noted 0 0 (sets noted 0 (notes_t 0 [] [] (rows_at rows 0)))
  unfolding open_in counts_in
  goes_start = record { goes = refl; deep = omega arith; long = length-replicate 64 no_scope; counted = length-replicate 64 no_counts }

  module _ (scopes counts : List (List ℕ)) (depth i : ℕ) (T : List Note) (g : Goes rows scopes counts noted depth i T) where
    pub goes_end : length rows / 16 ≤ i → noted ≡ T
    unfolding notes_t
    goes_end h = rw (rows_past rows i h) at g.goes

    module _ (h : i < length rows / 16) (p : Parts) (e : p ≡ parts_at rows i) where
      next : sets (set noted i (note_t (open_in scopes depth) (number_before_t (counts_in counts depth) p) p)) (i + 1) (notes_t (i + 1) (open_one_t 64 (open_in scopes depth) p i) (counts_t 64 (counts_in counts depth) p) (rows_at rows (i + 1))) ≡ T
      unfolding notes_t
      next = rw (e, add-one i) (rw (rows_there rows i h, add-one i) at g.goes)

      after : (C : Out ℕ (List (List ℕ))) → C ≡ count_before_t counts depth p → (B : Out ℕ (List (List ℕ))) → B ≡ open_behind_t scopes depth p i
          → (d : ℕ) (scopes' counts' : List (List ℕ)) (noted' : List Note) → (d & scopes' & counts' & noted') ≡ went_t B (left_of C) (set noted i (note_t (open_in scopes depth) (out_of C) p)) → Goes rows scopes' counts' noted' d (i + 1) T
      unfolding went_t
      after (number & ct) k (b & sc) o d scopes' counts' noted' q =
          let d-is : d ≡ b = ap out_of q in
          let s-is : scopes' ≡ sc = ap (λ (x : Went). out_of (left_of x)) q in
          let c-is : counts' ≡ ct = ap (λ (x : Went). out_of (left_of (left_of x))) q in
          let n-is : noted' ≡ set noted i (note_t (open_in scopes depth) number p) = ap (λ (x : Went). left_of (left_of (left_of x))) q in
          let long = g.long in
          let counted = g.counted in
          let deep = g.deep in
          let O = open_behind scopes depth p i (omega arith) sc b o in
          let N = counted_behind scopes counts depth p i (omega arith) (long ∙ sym counted) number b sc ct k o in
          let room = O.room in
          let opens : open_in sc b ≡ open_one_t 64 (open_in scopes depth) p i = rw (← long) O.are in
          let counts-are : counts_in ct b ≡ counts_t 64 (counts_in counts depth) p = rw (← counted) N.are in
          rw (d-is, s-is, c-is, n-is) (record { goes = rw (opens, counts-are, N.number_is) next; deep = omega arith; long = O.long ∙ long; counted = N.long ∙ counted })

      goes_on_lem : (d : ℕ) (scopes' counts' : List (List ℕ)) (noted' : List Note) → (d & scopes' & counts' & noted') ≡ number_row_t p i scopes counts noted depth → Goes rows scopes' counts' noted' d (i + 1) T
      unfolding number_row_t
      goes_on_lem d scopes' counts' noted' q = go (count_before_t counts depth p) refl q
        where
          go : (C : Out ℕ (List (List ℕ))) → C ≡ count_before_t counts depth p → (d & scopes' & counts' & noted') ≡ on_t C p i scopes noted depth → Goes rows scopes' counts' noted' d (i + 1) T
          go (number & ct) k e = after (number & ct) k _ refl d scopes' counts' noted' (unfold on_t in e)

pub turn_goes : (rows : List ℕ) (scopes counts : List (List ℕ)) (noted : List Note) (depth i : ℕ) (p : Parts) (d : ℕ) (scopes' counts' : List (List ℕ)) (noted' T : List Note)
    → (d & scopes' & counts' & noted') ≡ number_row_t p i scopes counts noted depth → p ≡ parts_at rows i → Goes rows scopes counts noted depth i T → i < length rows / 16 → Goes rows scopes' counts' noted' d (i + 1) T
turn_goes rows scopes counts noted depth i p d scopes' counts' noted' T q e g h = goes_on_lem rows noted scopes counts depth i T g h p e d scopes' counts' noted' q

pub ruleset turns = (goes_start, goes_end, turn_goes, rules)

-- ---- the rows that are left, with their notes

pub noted_there : (rows : List ℕ) (noted : List Note) (i : ℕ) → i < length rows / 16 → noted_at rows noted i ≡ row_at rows noted i ∷ noted_at rows noted (i + 1)
unfolding noted_at noted_from
noted_there rows noted i h = rw (left_suc i (length rows / 16) h)

pub noted_past : (rows : List ℕ) (noted : List Note) (i : ℕ) → length rows / 16 ≤ i → noted_at rows noted i ≡ []
unfolding noted_at noted_from
noted_past rows noted i h = let e : length rows / 16 - i ≡ 0 = omega arith in rw e

-- ---- enter_row, enter_names

module _ (p : Parts) (n : Note) (table : List Slot) (used : ℕ) where
  pub enters_none : (p.code ≡ 2 → ⊥) → (used & table) ≡ entered_t p n table used
  unfolding entered_t pick
  enters_none h = rw (ne_eqb _ _ h)

  pub enters_decl : p.code ≡ 2 → (number scope : ℕ) → number ≡ get_or n 0 0 → scope ≡ get_or n 1 0 → (r : ℕ) (table' : List Slot)
      → (r & table') ≡ pushed table used (slot_t scope p.b (number % 65536 + 1) p.x) → (r & table') ≡ entered_t p n table used
  unfolding entered_t slot_of pick
  enters_decl h number scope f g r table' e = rw (eq-eqb _ _ h, ← f, ← g) e

pub ruleset entering = (enters_none, enters_decl, rules)

-- behind a row the slots are those of the twin
record Listed (before table table' : List Slot) (p : Parts) (n : Note) (used r : ℕ) : Type 0 where
  are : take r table' ≡ note_entry_t (length before) (take used table) p n
  laid : Laid before table' r

module _ (before table : List Slot) (p : Parts) (n : Note) (used : ℕ) (h : Laid before table used) where
  by_code_lem : (t : Bool) → eqb p.code 2 ≡ t → (table' : List Slot) (r : ℕ) → (r & table') ≡ entered_t p n table used → Listed before table table' p n used r
  unfolding entered_t note_entry_t pick
  by_code_lem true t table' r e =
      let s = slot_enters before table used (slot_of p n) h table' r (rw t at e) in
      record { are = rw t s.are; laid = s.laid }
  by_code_lem false t table' r e =
      let q : (r & table') ≡ (used & table) = rw t at e in
      let r-is : r ≡ used = ap out_of q in
      let t-is : table' ≡ table = ap left_of q in
      record { are = rw (t, r-is, t-is); laid = rw (r-is, t-is) h }

-- what a turn of the loop keeps
pub record Enters (rows : List ℕ) (noted : List Note) (before table : List Slot) (used i : ℕ) (T : List Slot) : Type 0 where
  pub goes : slots_t (length before) (take used table) (noted_at rows noted i) ≡ T
  pub laid : Laid before table used

module _ (rows : List ℕ) (noted : List Note) (before : List Slot) where
  pub enters_start : Enters rows noted before before 0 0 (slots_t (length before) [] (noted_at rows noted 0))
  enters_start = record { goes = refl; laid = laid_none before }

  module _ (table : List Slot) (used i : ℕ) (T : List Slot) (g : Enters rows noted before table used i T) where
    pub enters_end : length rows / 16 ≤ i → (used & table) ≡ laid_by T before
    unfolding slots_t laid_by
    enters_end h =
        let e : take used table ≡ T = rw (noted_past rows noted i h) at g.goes in
        rw (← e, length-take-le used table g.laid.room, ← laid_is before table used g.laid)

    pub enters_on : i < length rows / 16 → (p : Parts) → p ≡ parts_at rows i → (n : Note) → n ≡ get_or noted i no_note → (r : ℕ) (table' : List Slot) → (r & table') ≡ entered_t p n table used
        → Enters rows noted before table' r (i + 1) T
    unfolding slots_t row_at
    enters_on h p e n f r table' q =
        let L = by_code_lem before table p n used g.laid (eqb p.code 2) refl table' r q in
        let twin : slots_t (length before) (note_entry_t (length before) (take used table) p n) (noted_at rows noted (i + 1)) ≡ T = rw (e, f) (rw (noted_there rows noted i h) at g.goes) in
        record { goes = rw L.are twin; laid = L.laid }

pub ruleset enterings = (enters_start, enters_end, enters_on, rules)

-- ---- key, name_of, name_row

pub key_some : (number : ℕ) → number < 65535 → number + 1 ≡ key_t number
unfolding key_t pick
key_some number h = rw (lt-ltb _ _ h)

pub key_none : (number : ℕ) → 65535 ≤ number → 0 ≡ key_t number
unfolding key_t pick
key_none number h = rw (le-ltb _ _ h)

module _ (ss : List Slot) (p : Parts) (n : Note) (scope key : ℕ) (s : scope ≡ get_or n 1 0) (k : key ≡ key_t p.y) (e : Option ℕ) (l : e ≡ look_t ss scope p.b key) where
  pub name_is : unwrap_or e 0 ≡ name_of_t ss p n
  unfolding name_of_t
  name_is = rw (← s, ← k, ← l)

pub ruleset naming = (key_some, key_none, name_is, rules)

module _ (ss : List Slot) (p : Parts) (i : ℕ) (noted : List Note) where
  pub row_none : (p.code ≡ 5 → ⊥) → noted ≡ name_row_t ss p i noted
  unfolding name_row_t pick
  row_none h = rw (ne_eqb _ _ h)

  pub row_named : p.code ≡ 5 → (n : Note) → n ≡ get_or noted i no_note → (name : ℕ) → name ≡ name_of_t ss p n → (noted' : List Note) → noted' ≡ set noted i (note name (get_or n 1 0)) → noted' ≡ name_row_t ss p i noted
  unfolding name_row_t named_t pick
  row_named h n e name f noted' g = rw (eq-eqb _ _ h, ← e, ← f) g

pub ruleset rowing = (row_none, row_named, rules)

-- ---- note_names, name_rows

pub names_end : (ss : List Slot) (rows : List ℕ) (noted T : List Note) (i : ℕ) → naming_t ss rows noted i (length rows / 16 - i) ≡ T → length rows / 16 ≤ i → noted ≡ T
unfolding naming_t
names_end ss rows noted T i g h = let e : length rows / 16 - i ≡ 0 = omega arith in rw e at g

pub names_on : (ss : List Slot) (rows : List ℕ) (noted T : List Note) (i : ℕ) → naming_t ss rows noted i (length rows / 16 - i) ≡ T → i < length rows / 16
    → (p : Parts) → p ≡ parts_at rows i → (noted' : List Note) → noted' ≡ name_row_t ss p i noted → naming_t ss rows noted' (i + 1) (length rows / 16 - (i + 1)) ≡ T
unfolding naming_t
names_on ss rows noted T i g h p e noted' q = rw (q, e) (rw (left_suc i (length rows / 16) h) at g)

pub names_start : (ss : List Slot) (rows : List ℕ) (noted : List Note) → naming_t ss rows noted 0 (length rows / 16 - 0) ≡ named_from ss rows noted
unfolding named_from
names_start ss rows noted = let e : length rows / 16 - 0 ≡ length rows / 16 = omega arith in rw e

pub ruleset namings = (names_start, names_end, names_on, rules)

-- the slots that were entered are those that are used
laid_taken : (ss before : List Slot) (used : ℕ) (table : List Slot) → (used & table) ≡ laid_by ss before → take used table ≡ ss
unfolding laid_by laid_t
laid_taken ss before used table e =
    let u : used ≡ length ss = ap out_of e in
    let t : table ≡ ss ++ drop (length ss) before = ap left_of e in
    rw (u, t) (take-append_seam ss (drop (length ss) before))

pub names_all : (rows : List ℕ) (noted : List Note) (before : List Slot) (used : ℕ) (table : List Slot) → (used & table) ≡ laid_by (slots_t (length before) [] (noted_at rows noted 0)) before → (noted' : List Note)
    → noted' ≡ named_from (take used table) rows noted → noted' ≡ names_t (length before) rows noted
unfolding names_t
names_all rows noted before used table e noted' q = rw (← laid_taken _ before used table e) q
