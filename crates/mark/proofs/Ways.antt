-- The ways through the code: each law is one unfolding of a twin, with the facts in the form in which the code gives them.
use Rattle.std.specs.Prelude.{Option, Some, None, is_some}
use Rattle.std.proofs.Common.{◌≡◌, ℕ, suc, ◌+◌, ◌-◌, ◌/◌, ◌%◌, ◌<◌, ◌≤◌, Bool, true, false, not, List, [], ◌∷◌, length, get_or, sym, refl, ap, ◌∙◌, arith, rules, ne_eqb}
use Rattle.kit.specs.Pick.{pick}
use Rattle.kit.proofs.Laws.{yes!, no!, tests, left_suc, past}
use Rattle.kit.specs.Out.{Out, ◌&◌}
use Rattle.rules.specs.Shapes.{here_only}
use Rattle.parts.specs.declared.Parts.{Parts}
use Rattle.parts.specs.PartsAt.{parts_at}
use Rattle.rows.specs.declared.row.Index.TheVariants.{Name}
use Rattle.rows.specs.declared.row.Row.TheVariants.{Ref}
use Rattle.put.specs.Put.{put_row, copy_row}
use Rattle.names.specs.Table.{Slot, between, pushed, find_in}
use Rattle.index.specs.Indexed.{Holds, Covers}
use Rattle.mark.specs.declared.Place.{Place}
use Rattle.mark.specs.declared.Marking.{Marking}
use Rattle.mark.specs.Visits.{place, place_at, visits_behind_t, visit_step_t, visits_t}
use Rattle.mark.specs.MarkedRows.{Serves, left_by, slot_of, enter_row_t, enter_then, enter_all, Step, marking, insert_with, insert_marked_t, serve_t, beside, mark_outer_t, mark_name_t, mark_ref_t, mark_row_t, mark_then, mark_all, Steps, next_of, mark_scope_t, mark_open_t, scopes_then, scopes_t, copies_t, mark_rows_t}

-- ---- behind, step

module _ (count row : ℕ) where
  pub behind_on : row < count → row + 1 ≡ visits_behind_t count row
  unfolding visits_behind_t
  behind_on h = yes! _ (omega tests) refl

  pub behind_past : count ≤ row → row ≡ visits_behind_t count row
  unfolding visits_behind_t
  behind_past h = no! _ (omega tests) refl

module _ (ends : List ℕ) (count : ℕ) (p : Parts) (at : Place) where
  pub step_field : (r e : ℕ) (w : Bool) → p.code ≡ 1 → r ≡ visits_behind_t count at.row → e ≡ get_or ends at.row 0 → w ≡ here_only p.b → place r e (not w) ≡ visit_step_t ends count p at
  unfolding visit_step_t
  step_field r e w h f g k = yes! _ (omega tests) (rw (f, g, k))

  pub step_open : (p.code ≡ 1 → ⊥) → p.code ≡ 7 → place at.end at.end at.walked ≡ visit_step_t ends count p at
  unfolding visit_step_t
  step_open h g = no! _ (omega tests) (yes! _ (omega tests) refl)

  pub step_other : (r : ℕ) → (p.code ≡ 1 → ⊥) → (p.code ≡ 7 → ⊥) → r ≡ visits_behind_t count at.row → place r at.end at.walked ≡ visit_step_t ends count p at
  unfolding visit_step_t
  step_other r h g f = no! _ (omega tests) (no! _ (omega tests) (rw f))

pub ruleset step_ways = (behind_on, behind_past, step_field, step_open, step_other, past, rules)

-- ---- enter_row, enter_scope

module _ (p : Parts) (table : List Slot) (used : ℕ) where
  pub enter_decl : {r : Out ℕ (List Slot)} → p.code ≡ 2 → r ≡ pushed table used (slot_of p 0) → r ≡ enter_row_t p table used
  unfolding enter_row_t
  enter_decl h e = yes! _ (omega tests) e

  pub enter_other : (p.code ≡ 2 → ⊥) → (used & table) ≡ enter_row_t p table used
  unfolding enter_row_t
  enter_other h = no! _ (omega tests) refl

module _ (rows ends : List ℕ) (at : Place) (table : List Slot) (used i n : ℕ) (T : Out ℕ (List Slot)) (inv : enter_all (visits_t rows ends (n - i) at) table used ≡ T) where
  pub enter_end : n ≤ i → (used & table) ≡ T
  unfolding visits_t enter_all
  enter_end h = let e : n - i ≡ 0 = omega arith in rw e at inv

  module _ (h : i < n) (p : Parts) (got : p ≡ parts_at rows at.row) where
    pub enter_close : p.code ≡ 8 → (used & table) ≡ T
    unfolding visits_t enter_all pick
    enter_close e = (rw (← got, e) at (rw (left_suc i n h) at inv))

    pub enter_turn : (p.code ≡ 8 → ⊥) → (u : ℕ) (t : List Slot) (at' : Place) → (u & t) ≡ enter_row_t p table used → at' ≡ visit_step_t ends (length rows / 16) p at → enter_all (visits_t rows ends (n - (i + 1)) at') t u ≡ T
    unfolding visits_t enter_all enter_then pick
    enter_turn e u t at' w s = rw s (rw (← got, ne_eqb _ _ e, ← w) at (rw (left_suc i n h) at inv))

pub enter_start : (rows ends : List ℕ) (at : Place) (table : List Slot) (n : ℕ) → enter_all (visits_t rows ends (n - 0) at) table 0 ≡ enter_all (visits_t rows ends n at) table 0
enter_start rows ends at table n = let z : n - 0 ≡ n = omega arith in rw z

pub ruleset enter_ways = (enter_decl, enter_other, enter_end, enter_close, enter_turn, enter_start, rules)

-- ---- is_own, insert, rename

pub own_found : (table : List Slot) (space name : ℕ) (f : Option ℕ) (b : Bool) → f ≡ find_in table space name → b ≡ is_some f → b ≡ is_some (find_in table space name)
own_found table space name f b got e = e ∙ ap is_some got

-- the first slots of those that the index serves
pub own_covered : (m : Marking) (table : List Slot) (index : List ℕ) → Serves m table index → Covers table index m.own
own_covered m table index s = record { used = m.used; below = s.within; holds = s.holds }

pub all_covered : (table : List Slot) (index : List ℕ) (used : ℕ) → Holds table index used → Covers table index used
all_covered table index used s = record { used = used; below = omega arith; holds = s }

pub insert_way : (p : Parts) (m : Marking) (table : List Slot) (u : ℕ) (t : List Slot) (f : ℕ) → (u & t) ≡ pushed table m.used (slot_of p m.fresh) → f ≡ (m.fresh + 1) % 4294967296 → (marking m.own u f & t) ≡ insert_marked_t p m table
unfolding insert_marked_t insert_with
insert_way p m table u t f e g = rw (← e, g)

pub serves_more : (m : Marking) (u f : ℕ) (table t : List Slot) (index i : List ℕ) → Serves m table index → Holds t i u → m.used ≤ u → Serves (marking m.own u f) t i
serves_more m u f table t index i s h g = record { holds = h; within = omega (arith, s.within) }

pub rename_way : (p : Parts) (row alias : ℕ) (marked : List ℕ) (r : ℕ) (l : List ℕ) → (r & l) ≡ put_row marked row (Ref p.b (Name alias) 0 p.z) → l ≡ serve_t p row alias marked
unfolding serve_t left_by
rename_way p row alias marked r l e = rw (← e)

pub ruleset insert_ways = (own_found, own_covered, all_covered, insert_way, serves_more, rename_way, rules)

-- ---- mark_name, mark_ref, mark_row

module _ (p : Parts) (row : ℕ) (m : Marking) (table : List Slot) (marked : List ℕ) where
  module _ (f F : Option ℕ) (got : f ≡ F) where
    pub outer_served : (alias : ℕ) → f ≡ Some alias → (l : List ℕ) → l ≡ serve_t p row alias marked → (m & table & l) ≡ mark_outer_t F p row m table marked
    unfolding mark_outer_t
    outer_served alias g l w = rw (← got, g, w)

    pub outer_new : f ≡ None → (m' : Marking) (t : List Slot) → (m' & t) ≡ insert_marked_t p m table → (m' & t & marked) ≡ mark_outer_t F p row m table marked
    unfolding mark_outer_t beside
    outer_new g m' t w = rw (← got, g, ← w)

  module _ (b : Bool) (own : b ≡ is_some (find_in (between 0 m.own table) p.b p.x)) where
    pub name_own : b ≡ true → (m & table & marked) ≡ mark_name_t p row m table marked
    unfolding mark_name_t
    name_own e = yes! _ (sym own ∙ e) refl

    pub name_outer : {R : Step} → b ≡ false → R ≡ mark_outer_t (find_in (between m.own m.used table) p.b p.x) p row m table marked → R ≡ mark_name_t p row m table marked
    unfolding mark_name_t
    name_outer e r = no! _ (sym own ∙ e) r

  pub ref_paths : (f : ℕ) → 0 < p.y → f ≡ (m.fresh + p.y) % 4294967296 → (marking m.own m.used f & table & marked) ≡ mark_ref_t p row m table marked
  unfolding mark_ref_t
  ref_paths f h g = yes! _ (omega tests) (rw g)

  pub ref_number_lem : p.y ≤ 0 → p.e ≡ 0 → (m & table & marked) ≡ mark_ref_t p row m table marked
  unfolding mark_ref_t
  ref_number_lem h g = no! _ (omega tests) (yes! _ (omega tests) refl)

  pub ref_name : {R : Step} → p.y ≤ 0 → (p.e ≡ 0 → ⊥) → R ≡ mark_name_t p row m table marked → R ≡ mark_ref_t p row m table marked
  unfolding mark_ref_t
  ref_name h g e = no! _ (omega tests) (no! _ (omega tests) e)

  module _ (walked : Bool) where
    pub row_ref : {R : Step} → walked ≡ true → p.code ≡ 3 → R ≡ mark_ref_t p row m table marked → R ≡ mark_row_t p row walked m table marked
    unfolding mark_row_t
    row_ref w h e = yes! _ w (yes! _ (omega tests) e)

    pub row_other : walked ≡ true → (p.code ≡ 3 → ⊥) → (m & table & marked) ≡ mark_row_t p row walked m table marked
    unfolding mark_row_t
    row_other w h = yes! _ w (no! _ (omega tests) refl)

    pub row_passed : walked ≡ false → (m & table & marked) ≡ mark_row_t p row walked m table marked
    unfolding mark_row_t
    row_passed w = no! _ w refl

pub ruleset mark_ways = (outer_served, outer_new, name_own, name_outer, ref_paths, ref_number_lem, ref_name, row_ref, row_other, row_passed, own_covered, all_covered, rules)

-- ---- mark_scope_rows, mark_scope

module _ (rows ends : List ℕ) (at : Place) (m : Marking) (table : List Slot) (marked : List ℕ) (i n : ℕ) (T : Step) (inv : mark_all (visits_t rows ends (n - i) at) m table marked ≡ T) where
  pub mark_end : n ≤ i → (m & table & marked) ≡ T
  unfolding visits_t mark_all
  mark_end h = let e : n - i ≡ 0 = omega arith in rw e at inv

  module _ (h : i < n) (p : Parts) (got : p ≡ parts_at rows at.row) where
    pub mark_close : p.code ≡ 8 → (m & table & marked) ≡ T
    unfolding visits_t mark_all pick
    mark_close e = (rw (← got, e) at (rw (left_suc i n h) at inv))

    pub mark_turn : (p.code ≡ 8 → ⊥) → (m' : Marking) (t : List Slot) (l : List ℕ) (at' : Place) → (m' & t & l) ≡ mark_row_t p at.row at.walked m table marked → at' ≡ visit_step_t ends (length rows / 16) p at → mark_all (visits_t rows ends (n - (i + 1)) at') m' t l ≡ T
    unfolding visits_t mark_all mark_then pick
    mark_turn e m' t l at' w s = rw s (rw (← got, ne_eqb _ _ e, ← w) at (rw (left_suc i n h) at inv))

pub mark_start : (rows ends : List ℕ) (at : Place) (m : Marking) (table : List Slot) (marked : List ℕ) (n : ℕ) → mark_all (visits_t rows ends (n - 0) at) m table marked ≡ mark_all (visits_t rows ends n at) m table marked
mark_start rows ends at m table marked n = let z : n - 0 ≡ n = omega arith in rw z

pub scope_way : (rows ends : List ℕ) (first fresh : ℕ) (table : List Slot) (marked : List ℕ) (own : ℕ) (t : List Slot) (m : Marking) (t' : List Slot) (l : List ℕ) → (own & t) ≡ enter_all (visits_t rows ends (length rows / 16) (place_at first)) table 0 → (m & t' & l) ≡ mark_all (visits_t rows ends (length rows / 16) (place_at first)) (marking own own fresh) t marked → (m.fresh & t' & l) ≡ mark_scope_t rows ends first fresh table marked
unfolding mark_scope_t enter_then next_of
scope_way rows ends first fresh table marked own t m t' l e f = rw (← e, ← f)

-- nothing refers to an alias yet
pub serves_first : (own fresh : ℕ) (table : List Slot) (index : List ℕ) → Holds table index own → Serves (marking own own fresh) table index
serves_first own fresh table index h = record { holds = h; within = omega arith }

pub ruleset scope_ways = (mark_end, mark_close, mark_turn, mark_start, scope_way, serves_first, rules)

-- ---- mark_at, mark_scopes

module _ (rows ends : List ℕ) (i fresh : ℕ) (table : List Slot) (marked : List ℕ) (p : Parts) (got : p ≡ parts_at rows i) where
  pub open_scope : {R : Steps} → p.code ≡ 7 → R ≡ mark_scope_t rows ends (i + 1) fresh table marked → R ≡ mark_open_t rows ends i fresh table marked
  unfolding mark_open_t
  open_scope h e = yes! _ (rw (← got) (omega tests)) e

  pub open_other : (p.code ≡ 7 → ⊥) → (fresh & table & marked) ≡ mark_open_t rows ends i fresh table marked
  unfolding mark_open_t
  open_other h = no! _ (rw (← got) (omega tests)) refl

module _ (rows ends : List ℕ) (i n fresh : ℕ) (table : List Slot) (marked : List ℕ) (T : Out (List Slot) (List ℕ)) (inv : scopes_t rows ends i (n - i) fresh table marked ≡ T) where
  pub scopes_end : n ≤ i → (table & marked) ≡ T
  unfolding scopes_t
  scopes_end h = let e : n - i ≡ 0 = omega arith in rw e at inv

  pub scopes_turn : i < n → (f : ℕ) (t : List Slot) (l : List ℕ) → (f & t & l) ≡ mark_open_t rows ends i fresh table marked → scopes_t rows ends (i + 1) (n - (i + 1)) f t l ≡ T
  unfolding scopes_t scopes_then
  scopes_turn h f t l w = (rw (← w) at (rw (left_suc i n h) at inv))

pub scopes_start : (rows ends : List ℕ) (n fresh : ℕ) (table : List Slot) (marked : List ℕ) → scopes_t rows ends 0 (n - 0) fresh table marked ≡ scopes_t rows ends 0 n fresh table marked
scopes_start rows ends n fresh table marked = let z : n - 0 ≡ n = omega arith in rw z

pub ruleset scopes_ways = (open_scope, open_other, scopes_end, scopes_turn, scopes_start, rules)

-- ---- copy_rows, mark_rows

pub left_is : (r : ℕ) (l : List ℕ) (W : Out ℕ (List ℕ)) → (r & l) ≡ W → l ≡ left_by W
unfolding left_by
left_is r l W w = rw (← w)

module _ (rows : List ℕ) (i n : ℕ) (marked T : List ℕ) (inv : copies_t rows i (n - i) marked ≡ T) where
  pub copies_end : n ≤ i → marked ≡ T
  unfolding copies_t
  copies_end h = let e : n - i ≡ 0 = omega arith in rw e at inv

  pub copies_turn : i < n → (l : List ℕ) → l ≡ left_by (copy_row rows i marked i) → copies_t rows (i + 1) (n - (i + 1)) l ≡ T
  unfolding copies_t
  copies_turn h l w = rw w (rw (left_suc i n h) at inv)

pub copies_start : (rows marked : List ℕ) (n : ℕ) → copies_t rows 0 (n - 0) marked ≡ copies_t rows 0 n marked
copies_start rows marked n = let z : n - 0 ≡ n = omega arith in rw z

pub ruleset copies_ways = (left_is, copies_end, copies_turn, copies_start, rules)

pub marked_way : (rows ends : List ℕ) (table : List Slot) (marked l : List ℕ) {R : Out (List Slot) (List ℕ)} → l ≡ copies_t rows 0 (length rows / 16) marked → R ≡ scopes_t rows ends 0 (length rows / 16) 2147483648 table l → R ≡ mark_rows_t rows ends table marked
unfolding mark_rows_t
marked_way rows ends table marked l e f = f ∙ rw e

pub ruleset rows_ways = (marked_way, rules)
