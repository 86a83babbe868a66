-- Step B's ways through the code: each law is one unfolding of a twin, with the facts in the form in which the code gives them.
use Rattle.std.specs.Prelude.{is_some, Option, Some, None, Result, Ok, Err}
use Rattle.std.proofs.Common.{◌≡◌, ℕ, suc, ◌+◌, ◌-◌, ◌/◌, ◌%◌, ◌<◌, ◌≤◌, Bool, true, false, not, List, [], ◌∷◌, length, get_or, set, replicate, sym, refl, ap, ◌∙◌, arith, rules}
use borrow.Author.Tests.{not-true, not-false}
use Rattle.kit.proofs.Laws.{yes!, no!, tests, left_suc, down}
use Rattle.kit.specs.Out.{Out, ◌&◌}
use Rattle.rules.specs.Tools.{is_in}
use Rattle.rules.specs.Shapes.{FOUR, here_only}
use Rattle.rows.specs.RowAt.{row_at, code_at, alone}
use Rattle.rows.specs.declared.row.Index.{Index}
use Rattle.rows.specs.declared.row.Index.TheVariants.{Number, Name}
use Rattle.rows.specs.declared.row.Row.{Row}
use Rattle.rows.specs.declared.row.Row.TheVariants.{Field, Decl, Ref, Open}
use Rattle.form.specs.Part.{field_rows}
use Rattle.refusal.specs.Refusals.{refusal_at, untold, of_space}
use Rattle.names.specs.Table.{Slot, space_of, decl_slot, alias_slot, numbered_slot, first_of, scope_at, between, find_in, met_from, pushed}
use Rattle.late.specs.Late.{late_in, before_around}
use Rattle.plan.specs.Views.{if_decl, if_ref, field_code}
use Rattle.plan.specs.Enter.{row_number}
use Rattle.plan.specs.Insertions.{Tables, Step, after32, bump_t, with_counts_t, declare_with, declare_t, insert_with, insert_alias_t, insert_then, plan_paths_t, plan_done_t, late_here_t, late_out_t, plan_outer_t, met_t, plan_name_t, plan_index_t, plan_ref_t, step_then, stops, plan_operands_t, declare_then, plan_decls_t, field_code_t, plan_insertions_t, plan_field_t, moved_t, plan_next_t, plan_fields_t, plan_seen_t, plan_scope_t}
use Rattle.plan.specs.declared.insertions.PlanState.{PlanState}
use Rattle.plan.specs.declared.insertions.Reference.{Reference}
use Rattle.plan.proofs.Rows.{Tagged, not_field, not_decl, other_field, other_decl, other_operand, field_alone, decl_alone, ref_alone}
use Rattle.names.specs.declared.Met.{Met}
use Rattle.refusal.specs.declared.Refused.{Refused}

-- ---- bump, declare, insert

module _ (counts : List ℕ) (space : ℕ) where
  pub bump_past : length counts ≤ space → (0 & counts) ≡ bump_t counts space
  unfolding bump_t
  bump_past h = yes! _ (omega tests) refl

  pub bump_room : space < length counts → (n : ℕ) → n ≡ after32 (get_or counts space 0) → (get_or counts space 0 & set counts space n) ≡ bump_t counts space
  unfolding bump_t
  bump_room h n q = no! _ (omega tests) (rw q)

module _ (names : List Slot) (counts : List ℕ) where
  pub declares : (used : ℕ) (slot : Slot) (number n : ℕ) (ns : List Slot) (cs : List ℕ) → (number & cs) ≡ bump_t counts (space_of slot) → (done : Slot) → (n & ns) ≡ pushed names used done → done ≡ numbered_slot slot number → (n & ns & cs) ≡ declare_t names counts used slot
  unfolding declare_t declare_with with_counts_t
  declares used slot number n ns cs b done w d = rw (← b, ← d, ← w)

  pub inserts : (p : PlanState) (space row out index n fresh : ℕ) (ns : List Slot) (cs : List ℕ) → (slot : Slot) → (n & ns & cs) ≡ declare_t names counts p.used slot → slot ≡ alias_slot space p.fresh row out index → fresh ≡ after32 p.fresh → (record { at = p.at; entered = p.entered; depth = p.depth; used = n; fresh = fresh; first = p.first; before = p.before; early = p.early } & ns & cs) ≡ insert_alias_t names counts p space row out index
  unfolding insert_alias_t insert_with
  inserts p space row out index n fresh ns cs slot w d q = rw (← d, ← w, q)

-- ---- plan_paths

module _ (names : List Slot) (counts : List ℕ) (p : PlanState) (space row left : ℕ) (T : Out PlanState Tables) (inv : plan_paths_t names counts p space row (left - 1) ≡ T) (q : PlanState) (ns : List Slot) (cs : List ℕ) where
  pub paths_turn : 1 < left → (q & ns & cs) ≡ insert_alias_t names counts p 10 row 0 0 → plan_paths_t ns cs q space row (left - 1 - 1) ≡ T
  unfolding plan_paths_t insert_then
  paths_turn h w = let e : left - 1 ≡ suc (left - 1 - 1) = omega arith in rw (← w) at (rw e at inv)

  pub paths_end : left ≤ 1 → (q & ns & cs) ≡ insert_alias_t names counts p space row 0 0 → (q & ns & cs) ≡ T
  unfolding plan_paths_t
  paths_end h w = let e : left - 1 ≡ 0 = omega arith in w ∙ (rw e at inv)

-- ---- is_late_here, is_late_out

module _ (names : List Slot) (p : PlanState) (space name : ℕ) where
  pub here_untested : not p.early ≡ true → false ≡ late_here_t names p space name
  unfolding late_here_t
  here_untested e = no! _ (not-true p.early e) refl

  pub here_tested : not p.early ≡ false → (l : Bool) → l ≡ late_in names p.first p.used p.used space name → l ≡ late_here_t names p space name
  unfolding late_here_t
  here_tested e l q = yes! _ (not-false p.early e) q

  module _ (scopes : List (List ℕ)) (out : ℕ) where
    pub out_untested : not p.early ≡ true → false ≡ late_out_t names scopes p out space name
    unfolding late_out_t
    out_untested e = no! _ (not-true p.early e) refl

    pub out_tested : not p.early ≡ false → (s : List ℕ) → s ≡ scope_at scopes (p.depth - out) → (before : ℕ) → before ≡ before_around scopes p.depth p.before out → (l : Bool) → l ≡ late_in names (first_of s) before p.used space name → l ≡ late_out_t names scopes p out space name
    unfolding late_out_t
    out_tested e s q before v l w = yes! _ (not-false p.early e) (rw (q, v) at w)

-- ---- plan_outer, plan_name, plan_ref

module _ (names : List Slot) (scopes : List (List ℕ)) (counts : List ℕ) (p : PlanState) (r : Reference) (name out number : ℕ) (l : Bool) (u : l ≡ late_out_t names scopes p out r.space name) where
  pub outer_late : l ≡ true → (Err (record { refusal = refusal_at 13 r.z; told = untold }) & names & counts) ≡ met_t (Some (record { out = out; number = number })) names scopes counts p r name
  unfolding met_t
  outer_late f = yes! _ (sym u ∙ f) refl

  module _ (f : l ≡ false) (b : Bool) (t : b ≡ is_in (r.space % 256) FOUR) where
    pub outer_not : not b ≡ true → (Err (record { refusal = refusal_at 8 r.z; told = of_space r.space }) & names & counts) ≡ met_t (Some (record { out = out; number = number })) names scopes counts p r name
    unfolding met_t plan_outer_t
    outer_not e = no! _ (sym u ∙ f) (no! _ (sym t ∙ not-true b e) refl)

    pub outer_done : not b ≡ false → (q : PlanState) (ns : List Slot) (cs : List ℕ) → (q & ns & cs) ≡ insert_alias_t names counts p r.space r.row (out % 4294967296) number → (Ok q & ns & cs) ≡ met_t (Some (record { out = out; number = number })) names scopes counts p r name
    unfolding met_t plan_outer_t plan_done_t
    outer_done e q ns cs w = no! _ (sym u ∙ f) (yes! _ (sym t ∙ not-false b e) (rw (← w)))

module _ (entered names : List Slot) (scopes : List (List ℕ)) (counts : List ℕ) (p : PlanState) (r : Reference) where
  module _ (name : ℕ) (b : Bool) (t : b ≡ is_some (find_in (between 0 p.entered entered) r.space name)) where
    module _ (e : b ≡ true) (l : Bool) (u : l ≡ late_here_t names p r.space name) where
      pub name_here : l ≡ false → (Ok p & names & counts) ≡ plan_name_t entered names scopes counts p r name
      unfolding plan_name_t
      name_here f = yes! _ (sym t ∙ e) (no! _ (sym u ∙ f) refl)

      pub name_late : l ≡ true → (Err (record { refusal = refusal_at 13 r.z; told = untold }) & names & counts) ≡ plan_name_t entered names scopes counts p r name
      unfolding plan_name_t
      name_late f = yes! _ (sym t ∙ e) (yes! _ (sym u ∙ f) refl)

    module _ (e : b ≡ false) (m : Option Met) (w : m ≡ met_from names scopes p.depth p.depth r.space name) where
      pub name_nowhere : m ≡ None → (Ok p & names & counts) ≡ plan_name_t entered names scopes counts p r name
      unfolding plan_name_t met_t
      name_nowhere q = no! _ (sym t ∙ e) (rw (← w, q))

      pub name_outer : (out number : ℕ) → m ≡ Some (record { out = out; number = number }) → (X : Step) → X ≡ met_t (Some (record { out = out; number = number })) names scopes counts p r name → X ≡ plan_name_t entered names scopes counts p r name
      unfolding plan_name_t
      name_outer out number q X x = no! _ (sym t ∙ e) (x ∙ rw (← w, q))

  module _ (h : 0 < r.paths) where
    pub ref_four : r.space ≡ 4 → (Err (record { refusal = refusal_at 7 r.z; told = untold }) & names & counts) ≡ plan_ref_t entered names scopes counts p r
    unfolding plan_ref_t
    ref_four e = yes! _ (omega tests) (yes! _ (omega tests) refl)

    module _ (f : r.space ≡ 4 → ⊥) where
      pub ref_six : r.space ≡ 6 → (Err (record { refusal = refusal_at 7 r.z; told = untold }) & names & counts) ≡ plan_ref_t entered names scopes counts p r
      unfolding plan_ref_t
      ref_six e = yes! _ (omega tests) (no! _ (omega tests) (yes! _ (omega tests) refl))

      pub ref_paths : (r.space ≡ 6 → ⊥) → (q : PlanState) (ns : List Slot) (cs : List ℕ) → (q & ns & cs) ≡ plan_paths_t names counts p r.space r.row (r.paths - 1) → (Ok q & ns & cs) ≡ plan_ref_t entered names scopes counts p r
      unfolding plan_ref_t plan_done_t
      ref_paths e q ns cs w = yes! _ (omega tests) (no! _ (omega tests) (no! _ (omega tests) (rw (← w))))

  module _ (h : r.paths ≤ 0) where
    pub ref_number_lem : (n : ℕ) → r.at ≡ Number n → (Ok p & names & counts) ≡ plan_ref_t entered names scopes counts p r
    unfolding plan_ref_t plan_index_t
    ref_number_lem n e = no! _ (omega tests) (rw e)

    pub ref_name : (n : ℕ) → r.at ≡ Name n → (X : Step) → X ≡ plan_name_t entered names scopes counts p r n → X ≡ plan_ref_t entered names scopes counts p r
    unfolding plan_ref_t plan_index_t
    ref_name n e X x = no! _ (omega tests) (x ∙ ap (λ i. plan_index_t i entered names scopes counts p r) (sym e))

-- ---- on from an answer

module _ {a : Result PlanState Refused} {ns : List Slot} {cs : List ℕ} {W : Step} (w : (a & ns & cs) ≡ W) (f : List Slot → List ℕ → PlanState → Step) where
  then_done : {q : PlanState} {X : Step} → a ≡ Ok q → X ≡ f ns cs q → X ≡ step_then W f stops
  unfolding step_then
  then_done m e = rw (← w, m) e

  then_stop : {why : Refused} → a ≡ Err why → (Err why & ns & cs) ≡ step_then W f stops
  unfolding step_then
  then_stop m = rw (← w, m)

-- ---- referring, plan_operands

pub refers : (space : ℕ) (at : Index) (paths z from i n : ℕ) → n ≡ row_number from i → ◌≡◌ {A = Reference} (record { space = space; at = at; paths = paths; z = z; row = n }) (record { space = space; at = at; paths = paths; z = z; row = row_number from i })
refers space at paths z from i n q = rw q

module _ (field : List ℕ) (entered names : List Slot) (scopes : List (List ℕ)) (counts : List ℕ) (p : PlanState) (row i n : ℕ) (T : Step) (inv : plan_operands_t field entered names scopes counts p row i (n - i) ≡ T) where
  pub operands_end : n ≤ i → (Ok p & names & counts) ≡ T
  unfolding plan_operands_t
  operands_end h = let e : n - i ≡ 0 = omega arith in rw e at inv

  module _ (h : i < n) (r : Row) (got : r ≡ alone (3 ∷ 7 ∷ []) (row_at field i)) where
    turn : if_ref r (λ space at paths z. step_then (plan_ref_t entered names scopes counts p (record { space = space; at = at; paths = paths; z = z; row = row_number row i })) (λ ns cs q. plan_operands_t field entered ns scopes cs q row (i + 1) (n - (i + 1))) stops) (Ok p & names & counts) (plan_operands_t field entered names scopes counts p row (i + 1) (n - (i + 1))) ≡ T
    unfolding plan_operands_t
    turn = rw got (ref_alone _ _ _ _ ∙ (rw (left_suc i n h) at inv))

    pub operands_other : ((s : ℕ) (at : Index) (q z : ℕ) → r ≡ Ref s at q z → ⊥) → ((k x : ℕ) → r ≡ Open k x → ⊥) → plan_operands_t field entered names scopes counts p row (i + 1) (n - (i + 1)) ≡ T
    operands_other k o = other_operand r _ _ _ k o ∙ turn

    pub operands_open : (k x : ℕ) → r ≡ Open k x → (Ok p & names & counts) ≡ T
    unfolding if_ref
    operands_open k x e = rw e at turn

    module _ (space : ℕ) (at : Index) (paths z : ℕ) (is : r ≡ Ref space at paths z) (ref : Reference) (made : ref ≡ record { space = space; at = at; paths = paths; z = z; row = row_number row i }) (a : Result PlanState Refused) (ns : List Slot) (cs : List ℕ) (w : (a & ns & cs) ≡ plan_ref_t entered names scopes counts p ref) where
      pub operands_turn : (next : PlanState) → a ≡ Ok next → plan_operands_t field entered ns scopes cs next row (i + 1) (n - (i + 1)) ≡ T
      unfolding if_ref
      operands_turn next m = then_done (rw made at w) _ m refl ∙ (rw is at turn)

      pub operands_stop : (why : Refused) → a ≡ Err why → (a & ns & cs) ≡ T
      unfolding if_ref
      operands_stop why m = rw m (then_stop (rw made at w) _ m ∙ (rw is at turn))

-- ---- plan_decls

module _ (field : List ℕ) (names : List Slot) (counts : List ℕ) (row used i n : ℕ) (T : Out ℕ Tables) (inv : plan_decls_t field names counts row used i (n - i) ≡ T) where
  pub decls_end : n ≤ i → (used & names & counts) ≡ T
  unfolding plan_decls_t
  decls_end h = let e : n - i ≡ 0 = omega arith in rw e at inv

  module _ (h : i < n) (r : Row) (got : r ≡ alone (2 ∷ []) (row_at field i)) where
    decl_turn : if_decl r (λ space name z. declare_then (declare_t names counts used (decl_slot space name (row_number row i))) λ ns cs u. plan_decls_t field ns cs row u (i + 1) (n - (i + 1))) (used & names & counts) ≡ T
    unfolding plan_decls_t
    decl_turn = rw got (decl_alone _ _ _ ∙ (rw (left_suc i n h) at inv))

    pub decls_other : Tagged not_decl r → (used & names & counts) ≡ T
    decls_other k = other_decl r _ _ k ∙ decl_turn

    pub decls_turn : (space name z : ℕ) → r ≡ Decl space name z → (u : ℕ) (ns : List Slot) (cs : List ℕ) (slot : Slot) → (u & ns & cs) ≡ declare_t names counts used slot → slot ≡ decl_slot space name (row_number row i) → plan_decls_t field ns cs row u (i + 1) (n - (i + 1)) ≡ T
    unfolding if_decl declare_then
    decls_turn space name z is u ns cs slot w d = rw (← (rw d at w)) at (rw is at decl_turn)

-- ---- field_code, plan_insertions, plan_field

module _ (field : List ℕ) (r : Row) (got : r ≡ alone (1 ∷ []) (row_at field 0)) where
  by_alone : field_code r ≡ field_code_t field
  unfolding field_code_t
  by_alone = rw got (field_alone _)

  pub code_none : Tagged not_field r → 0 ≡ field_code_t field
  code_none k = other_field r k ∙ by_alone

  pub code_some : (code b z : ℕ) → r ≡ Field code b z → code ≡ field_code_t field
  unfolding field_code
  code_some code b z e = rw e at by_alone

module _ (field : List ℕ) (entered names : List Slot) (scopes : List (List ℕ)) (counts : List ℕ) (p : PlanState) where
  module _ (code : ℕ) (got : code ≡ field_code_t field) (b : Bool) (t : b ≡ here_only code) where
    pub insertions_none : b ≡ true → (Ok p & names & counts) ≡ plan_insertions_t field entered names scopes counts p
    unfolding plan_insertions_t
    insertions_none e = yes! _ (sym (rw got at t) ∙ e) refl

    pub insertions_all : b ≡ false → (X : Step) → X ≡ plan_operands_t field entered names scopes counts p p.at 1 (length field / 16 - 1) → X ≡ plan_insertions_t field entered names scopes counts p
    unfolding plan_insertions_t
    insertions_all e X x = no! _ (sym (rw got at t) ∙ e) x

  module _ (a : Result PlanState Refused) (ns : List Slot) (cs : List ℕ) (w : (a & ns & cs) ≡ plan_insertions_t field entered names scopes counts p) where
    pub field_stop : (why : Refused) → a ≡ Err why → (a & ns & cs) ≡ plan_field_t field entered names scopes counts p
    unfolding plan_field_t
    field_stop why m = rw m (then_stop w _ m)

    pub field_done : (q : PlanState) → a ≡ Ok q → (used : ℕ) (ns₂ : List Slot) (cs₂ : List ℕ) → (used & ns₂ & cs₂) ≡ plan_decls_t field ns cs q.at q.used 1 (length field / 16 - 1) → (Ok (record { at = q.at; entered = q.entered; depth = q.depth; used = used; fresh = q.fresh; first = q.first; before = q.before; early = q.early }) & ns₂ & cs₂) ≡ plan_field_t field entered names scopes counts p
    unfolding plan_field_t declare_then
    field_done q m used ns₂ cs₂ d = then_done w _ m (rw (← d))

-- ---- plan_next

module _ (rows ends : List ℕ) (entered names : List Slot) (scopes : List (List ℕ)) (counts : List ℕ) (p : PlanState) (field : List ℕ) (is : field ≡ field_rows rows ends p.at) (a : Result PlanState Refused) (ns : List Slot) (cs : List ℕ) (w : (a & ns & cs) ≡ plan_field_t field entered names scopes counts p) where
  pub next_done : (q : PlanState) → a ≡ Ok q → (next : ℕ) → next ≡ row_number p.at (length field / 16) → (q₂ : PlanState) → q₂ ≡ moved_t q next → (Ok q₂ & ns & cs) ≡ plan_next_t rows ends entered names scopes counts p
  unfolding plan_next_t
  next_done q m next v q₂ u = rw (u, v, is) (then_done (rw is at w) _ m refl)

  pub next_stop : (why : Refused) → a ≡ Err why → (a & ns & cs) ≡ plan_next_t rows ends entered names scopes counts p
  unfolding plan_next_t
  next_stop why m = rw m (then_stop (rw is at w) _ m)

-- ---- plan_fields, plan_scope

-- two steps, one after the other
two_steps : (W : Step) (f : PlanState → PlanState) (g : List Slot → List ℕ → PlanState → Step) → step_then (step_then W (λ ns cs q. Ok (f q) & ns & cs) stops) g stops ≡ step_then W (λ ns cs q. g ns cs (f q)) stops
unfolding step_then
two_steps (Ok q & ns & cs) f g = refl
two_steps (Err refused & ns & cs) f g = refl

module _ (rows ends : List ℕ) (entered names : List Slot) (scopes : List (List ℕ)) (counts : List ℕ) (p : PlanState) (turns : ℕ) (T : Step) (inv : plan_fields_t rows ends entered names scopes counts p turns ≡ T) where
  pub fields_end : turns ≤ 0 → (Ok p & names & counts) ≡ T
  unfolding plan_fields_t
  fields_end h = let e : turns ≡ 0 = omega arith in rw e at inv

  module _ (h : 0 < turns) (code : ℕ) (got : code ≡ code_at rows p.at) where
    pub fields_other : (code ≡ 1 → ⊥) → (Ok p & names & counts) ≡ T
    unfolding plan_fields_t
    fields_other e = no! _ (omega tests) refl ∙ (rw (← got) at (rw (down turns h) at inv))

    module _ (e : code ≡ 1) (a : Result PlanState Refused) (ns : List Slot) (cs : List ℕ) (w : (a & ns & cs) ≡ plan_next_t rows ends entered names scopes counts p) where
      step : step_then (plan_next_t rows ends entered names scopes counts p) (λ ns₂ cs₂ q. plan_fields_t rows ends entered ns₂ scopes cs₂ q (turns - 1)) stops ≡ T
      unfolding plan_fields_t plan_next_t
      step = two_steps _ _ _ ∙ yes! _ (omega tests) refl ∙ (rw (← got) at (rw (down turns h) at inv))

      pub fields_turn : (q : PlanState) → a ≡ Ok q → plan_fields_t rows ends entered ns scopes cs q (turns - 1) ≡ T
      fields_turn q m = then_done w _ m refl ∙ step

      pub fields_stop : (why : Refused) → a ≡ Err why → (a & ns & cs) ≡ T
      fields_stop why m = rw m (then_stop w _ m ∙ step)

pub scope_whole : (rows ends : List ℕ) (entered names : List Slot) (scopes : List (List ℕ)) (p : PlanState) (a : Result PlanState Refused) (ns : List Slot) (cs : List ℕ) → (a & ns & cs) ≡ plan_fields_t rows ends entered names scopes (replicate 13 0) p (length rows / 16) → (a & ns) ≡ plan_scope_t rows ends entered names scopes p
unfolding plan_scope_t plan_seen_t
scope_whole rows ends entered names scopes p a ns cs w = rw (← w)

-- every way through the code
pub ruleset ways = (
  bump_past,
  bump_room,
  declares,
  inserts,
  paths_turn,
  paths_end,
  here_untested,
  here_tested,
  out_untested,
  out_tested,
  outer_late,
  outer_not,
  outer_done,
  name_here,
  name_late,
  name_nowhere,
  name_outer,
  ref_four,
  ref_six,
  ref_paths,
  ref_number_lem,
  ref_name,
  refers,
  operands_end,
  operands_other,
  operands_open,
  operands_turn,
  operands_stop,
  decls_end,
  decls_other,
  decls_turn,
  code_none,
  code_some,
  insertions_none,
  insertions_all,
  field_stop,
  field_done,
  next_done,
  next_stop,
  fields_end,
  fields_other,
  fields_turn,
  fields_stop,
  scope_whole,
  rules,
)
