-- Ways through the code that reads rows.
use Rattle.std.specs.Prelude.{Option as CodeOption, Some, None, is_some as holds_some}
use mathlib.Core.Path.{◌≡◌, refl, sym, ap, ◌∙◌}
use mathlib.Core.Bool.{Bool, true, false, ◌&&◌, not, or-false, and-true, and-false}
use mathlib.Core.Option.{Option, none, some}
use mathlib.Core.Logic.{⊎_elim}
use mathlib.Core.List.{List}
use native.Mathlib.Omega.{arith}
use Prim.Native.Nat.{ℕ, ◌+◌, ◌-◌, ◌≤◌, ◌<◌}
use lib.Dec.{eqb, leb}
use lib.ListN.{length, get_or, set}
use borrow.Author.Rules.{rules}
use borrow.Author.Tests.{eq-eqb, ne_eqb, not-true, not-false}
use Rattle.kit.specs.Pick.{pick}
use Rattle.kit.specs.Out.{◌&◌}
use Rattle.kit.proofs.Laws.{yes!, no!, tests, lt_or_le}
use Rattle.rules.specs.Tools.{only, ◌then◌}
use Rattle.rules.specs.Versions.{RuleSet}
use Rattle.rules.specs.Shapes.{Want, Part, Declares, nothing, single, several, declares, opens, allowed, builtin_ok, exports, fits_ref, fits_outer, is_case, next, complete, may_declare}
use Rattle.rules.specs.Reader.{is_complete, is_none, same_kind}
use Rattle.rules.specs.Laws.ToolLaws.{false_not}
use Rattle.rows.specs.FromParts.{is_sound, row_of}
use Rattle.rows.proofs.Laws.{unsound, no_such_row, sound_field, sound_decl, sound_ref, sound_path, sound_outer, sound_case, sound_open, sound_close, sound_export}
use Rattle.codes.specs.Values.{as_option, in_rows, Allows}
use Rattle.kit.proofs.Tables.{same_at}
use Rattle.codes.proofs.Laws.{declares_past}
use Rattle.wants.specs.States.{left_of, entry, ref_entry, outer_entry, Right}
use Rattle.shapes.specs.Starts.{parts_by, known, bare_parts}
use Rattle.wants.proofs.Laws.{left_before, left_at, is_some, stands}
use Rattle.after_row.proofs.Laws.{lows, low_not_in, right_ref, right_outer, right_case, right_end}
use Rattle.shapes.proofs.Laws.{known_same}
use Rattle.parts.specs.declared.Parts.{Parts}
use Rattle.read_row.specs.Machine.{declaring, wanting, pathing, exported, between_fields, within, Position, position, Outcome, on, whole, wrong, deep, standing_of, current_in, position_of, outcome_of, new_field, declared_t, declared_left, wanted_t, is_exported, settled_t, may_end_t, on_field_t, on_decl_t, pathed_t, stays, on_operand_t, on_ref_t, on_outer_t, on_case_t, on_path_t, may_export_t, on_export_t, may_open_t, between_t, on_open_t, on_close_t, read_step_t, in_root}
use Rattle.read_row.specs.declared.Field.{Field}
use Rattle.read_row.specs.declared.ReadState.{ReadState}

-- ---- how far the rows are read

-- what a state is made of
module _ (d k n m : ℕ) (f : Field) where
  abbrev made : (stage : ℕ) → ReadState
  made stage = record { depth = d; kind = k; stage = stage; left = n; paths = m; field = f }

  made_declaring : outcome_of (made 0) ≡ on (position d k (within f (declaring (left_of n))))
  unfolding outcome_of position_of current_in standing_of pick
  made_declaring = refl

  made_wanting : outcome_of (made 1) ≡ on (position d k (within f (wanting (left_of n))))
  unfolding outcome_of position_of current_in standing_of pick
  made_wanting = refl

  made_pathing : outcome_of (made 2) ≡ on (position d k (within f (pathing m (left_of n))))
  unfolding outcome_of position_of current_in standing_of pick
  made_pathing = refl

  made_exported : outcome_of (made 3) ≡ on (position d k (within f exported))
  unfolding outcome_of position_of current_in standing_of pick
  made_exported = refl

  pub made_between : outcome_of (made 4) ≡ between_t d k
  unfolding outcome_of position_of current_in between_t pick
  made_between = refl

  pub made_whole : outcome_of (made 5) ≡ whole
  unfolding outcome_of pick
  made_whole = refl

  pub made_wrong : outcome_of (made 6) ≡ wrong
  unfolding outcome_of pick
  made_wrong = refl

  pub made_deep : outcome_of (made 7) ≡ deep
  unfolding outcome_of pick
  made_deep = refl

pub root_placed : (f : Field) (n m : ℕ) → outcome_of (made 1 0 n m f 4) ≡ on in_root
unfolding outcome_of position_of current_in pick
root_placed f n m = refl

module _ (stage paths : ℕ) (o : Option (List Part)) where
  is_declaring : stage ≡ 0 → standing_of stage paths o ≡ declaring o
  unfolding standing_of
  is_declaring h = sym (yes! _ (omega tests) refl)

  is_wanting : stage ≡ 1 → standing_of stage paths o ≡ wanting o
  unfolding standing_of
  is_wanting h = sym (no! _ (omega tests) (yes! _ (omega tests) refl))

  is_pathing : stage ≡ 2 → standing_of stage paths o ≡ pathing paths o
  unfolding standing_of
  is_pathing h = sym (no! _ (omega tests) (no! _ (omega tests) (yes! _ (omega tests) refl)))

  is_exported_lem : 3 ≤ stage → standing_of stage paths o ≡ exported
  unfolding standing_of
  is_exported_lem h = sym (no! _ (omega tests) (no! _ (omega tests) (no! _ (omega tests) refl)))

  wants_low : (f : Field) → stage ≤ 1 → wanted_t (within f (standing_of stage paths o)) ≡ o
  unfolding wanted_t
  wants_low f h = ⊎_elim (λ g. rw (is_declaring (omega arith))) (λ g. rw (is_wanting (omega arith))) (lt_or_le stage 1)

  wants_none : (f : Field) → 1 < stage → wanted_t (within f (standing_of stage paths o)) ≡ none
  unfolding wanted_t
  wants_none f h = ⊎_elim (λ g. rw (is_pathing (omega arith))) (λ g. rw (is_exported_lem g)) (lt_or_le stage 3)

  not_exported : stage < 3 → is_exported (standing_of stage paths o) ≡ false
  unfolding is_exported
  not_exported h = ⊎_elim (λ g. ⊎_elim (λ e. rw (is_declaring (omega arith))) (λ e. rw (is_wanting (omega arith))) (lt_or_le stage 1)) (λ g. rw (is_pathing (omega arith))) (lt_or_le stage 2)

module _ (s : ReadState) where
  inside : s.stage ≤ 3 → current_in s ≡ within s.field (standing_of s.stage s.paths (left_of s.left))
  unfolding current_in
  inside h = sym (yes! _ (omega tests) refl)

  outside : 3 < s.stage → current_in s ≡ between_fields
  unfolding current_in
  outside h = sym (no! _ (omega tests) refl)

  wanted_here : s.stage ≤ 1 → wanted_t (current_in s) ≡ left_of s.left
  wanted_here h = ap wanted_t (inside (omega arith)) ∙ wants_low s.stage s.paths (left_of s.left) s.field h

  wanted_none : 1 < s.stage → wanted_t (current_in s) ≡ none
  wanted_none h =
      ⊎_elim (λ g. ap wanted_t (inside (omega arith)) ∙ wants_none s.stage s.paths (left_of s.left) s.field h)
      (λ g. ap wanted_t (outside g) ∙ (unfold wanted_t in refl)) (lt_or_le s.stage 4)

-- ---- a field

complete_some : (o : Option (List Part)) → is_some (o then λ ps. only (complete ps) ps) ≡ is_complete o
unfolding is_complete ◌then◌
complete_some none = refl
complete_some (some ps) = here (complete ps)
  where
    here : (t : Bool) → is_some (only t ps) ≡ t
    here true = unfold only in refl
    here false = unfold only in refl

module _ (s : ReadState) where
  pub operands_none : 1 < s.stage → false ≡ is_complete (wanted_t (current_in s))
  operands_none h = sym (ap is_complete (wanted_none s h) ∙ (unfold is_complete in refl))

  pub operands_here : s.stage ≤ 1 → (table : List (List ℕ)) → Right table → (n : ℕ) → n ≡ entry table s.left 40 → leb 48 n ≡ is_complete (wanted_t (current_in s))
  operands_here h table right n e =
      stands n _ (ap left_of e ∙ right_end table right s.left) ∙ complete_some (left_of s.left) ∙ ap is_complete (sym (wanted_here s h))

  settled_as : (s.stage ≡ 3 → ⊥) → settled_t (current_in s) ≡ is_complete (wanted_t (current_in s)) && not (exports s.field.code)
  settled_as h = ⊎_elim (λ g. low g) (λ g. high g) (lt_or_le s.stage 4)
    where
      low : s.stage < 4 → settled_t (current_in s) ≡ is_complete (wanted_t (current_in s)) && not (exports s.field.code)
      low g = rw (inside s (omega arith)) (unfold settled_t in rw (not_exported s.stage s.paths (left_of s.left) (omega arith)) (or-false _))

      high : 3 < s.stage → settled_t (current_in s) ≡ is_complete (wanted_t (current_in s)) && not (exports s.field.code)
      high g = rw (outside s g) (unfold settled_t wanted_t is_complete in refl)

  pub settled_exported : s.stage ≡ 3 → true ≡ settled_t (current_in s)
  settled_exported h = rw (inside s (omega arith), is_exported_lem s.stage s.paths (left_of s.left) (omega arith)) (unfold settled_t wanted_t is_complete is_exported in refl)

  module _ (h : s.stage ≡ 3 → ⊥) (e : Bool) (x : e ≡ exports s.field.code) where
    pub settled_not : e ≡ true → false ≡ settled_t (current_in s)
    settled_not g = sym (settled_as h ∙ rw (← x, g) (and-false (is_complete (wanted_t (current_in s)))))

    pub settled_here : e ≡ false → (t : Bool) → t ≡ is_complete (wanted_t (current_in s)) → t ≡ settled_t (current_in s)
    settled_here g t q = q ∙ sym (settled_as h ∙ rw (← x, g) (and-true _))

  pub end_between : 3 < s.stage → true ≡ may_end_t (current_in s)
  end_between h = sym (ap may_end_t (outside s h) ∙ (unfold may_end_t in refl))

  end_as : s.stage ≤ 3 → may_end_t (current_in s) ≡ settled_t (current_in s) && is_none (opens s.field.code)
  end_as h = rw (inside s h) (unfold may_end_t in refl)

  module _ (h : s.stage ≤ 3) (b : Bool) (x : b ≡ is_none (opens s.field.code)) where
    pub end_settled : b ≡ true → (t : Bool) → t ≡ settled_t (current_in s) → t ≡ may_end_t (current_in s)
    end_settled g t q = q ∙ sym (end_as h ∙ rw (← x, g) (and-true _))

    pub end_opens : b ≡ false → false ≡ may_end_t (current_in s)
    end_opens g = sym (end_as h ∙ rw (← x, g) (and-false (settled_t (current_in s))))

  module _ (kind name : ℕ) where
    open_as : may_open_t (current_in s) kind name ≡ settled_t (current_in s) && same_kind (opens s.field.code) kind && eqb name s.field.name
    open_as = ⊎_elim (λ g. rw (inside s (omega arith)) (unfold may_open_t in refl)) (λ g. rw (outside s g) (unfold may_open_t settled_t in refl)) (lt_or_le s.stage 4)

    pub open_name_lem : (name ≡ s.field.name → ⊥) → false ≡ may_open_t (current_in s) kind name
    open_name_lem h = sym (open_as ∙ rw (ne_eqb name s.field.name h) (simp and-false))

    module _ (h : name ≡ s.field.name) (b : Bool) (x : b ≡ same_kind (opens s.field.code) kind) where
      pub open_settled : b ≡ true → (t : Bool) → t ≡ settled_t (current_in s) → t ≡ may_open_t (current_in s) kind name
      open_settled g t q = q ∙ sym (open_as ∙ rw (← x, g, eq-eqb name s.field.name h) (simp and-true))

      pub open_kind : b ≡ false → false ≡ may_open_t (current_in s) kind name
      open_kind g = sym (open_as ∙ rw (← x, g) (simp and-false))

none_is : (i : CodeOption ℕ) (r : Bool) → holds_some i ≡ not r → r ≡ is_none (as_option i)
unfolding as_option is_none
none_is None true e = refl
none_is None false e = e
none_is (Some k) true e = e
none_is (Some k) false e = refl

module _ (code : ℕ) (i : CodeOption ℕ) (o : as_option i ≡ opens code) where
  pub opens_nothing : (r : Bool) → holds_some i ≡ not r → r ≡ is_none (opens code)
  opens_nothing r e = rw (← o) (none_is i r e)

  pub other_kind : (kind : ℕ) → i ≡ None → false ≡ same_kind (opens code) kind
  unfolding as_option same_kind
  other_kind kind e = rw (← o, e)

  pub that_kind : (kind : ℕ) (k : ℕ) → i ≡ Some k → eqb k kind ≡ same_kind (opens code) kind
  unfolding as_option same_kind
  that_kind kind k e = rw (← o, e)

-- ---- what a row leads to

module _ (s : ReadState) (code builtin : ℕ) (m a b : Bool) (p : m ≡ may_end_t (current_in s)) (rows : List (List ℕ)) (allows : Allows rows) (q : a ≡ in_rows rows s.kind code) (e : b ≡ builtin_ok code builtin) where
  field_as : on_field_t (position_of s) code builtin ≡ pick (m && (a && b)) (on (position s.depth s.kind (within (new_field code builtin) (declaring (bare_parts code))))) wrong
  unfolding position_of on_field_t
  field_as = let g : a ≡ allowed s.kind code = q ∙ (unfold Allows in allows s.kind code) in rw (← p, ← g, ← e)

  pub field_begins : (m && (a && b)) ≡ true → (n : ℕ) → left_of n ≡ bare_parts code → (paths : ℕ) → outcome_of (made s.depth s.kind n paths (record { code = code; builtin = builtin; decls = 0; name = 0 }) 0) ≡ on_field_t (position_of s) code builtin
  field_begins h n l paths = made_declaring _ _ n paths _ ∙ sym (field_as ∙ rw (h, ← l) (unfold pick new_field in refl))

  pub field_not : (m && (a && b)) ≡ false → (r : ReadState) → outcome_of r ≡ wrong → outcome_of r ≡ on_field_t (position_of s) code builtin
  field_not h r w = w ∙ sym (field_as ∙ rw h (unfold pick in refl))

-- the spaces that a field may declare are 0 to 12
low_declares : Declares → Bool
low_declares nothing = true
low_declares (single spaces) = lows spaces
low_declares (several spaces) = lows spaces

low_declares_lem : (code : ℕ) → low_declares (declares code) ≡ true
low_declares_lem code = ⊎_elim (λ h. same_at (λ k. low_declares (declares k)) (λ k. true) 0 26 code (unfold declares low_declares in refl) (omega arith) h) (λ h. rw (← declares_past code (omega arith)) (unfold low_declares in refl)) (lt_or_le code 26)

may_low : (d : Declares) (n space : ℕ) → low_declares d ≡ true → 12 < space → may_declare d n space ≡ false
unfolding low_declares may_declare
may_low nothing n space l h = refl
may_low (single spaces) n space l h = rw (low_not_in space h spaces l) (and-false (eqb n 0))
may_low (several spaces) n space l h = low_not_in space h spaces l

declared_known : (code n space : ℕ) → may_declare (declares code) n space ≡ true → known space ≡ space
declared_known code n space h = ⊎_elim (λ g. false_not (sym (may_low (declares code) n space (low_declares_lem code) g) ∙ h)) (λ g. known_same space (omega tests)) (lt_or_le 12 space)

pub first_wanted_lem : (rules : RuleSet) (f : Field) (o : Option (List Part)) (space n : ℕ) → f.decls ≡ 0 → left_of n ≡ some (parts_by rules f.code f.builtin (known space) true) → left_of n ≡ declared_left rules f o (known space)
unfolding declared_left
first_wanted_lem rules f o space n h e = yes! _ (omega tests) e

pub still_wanted : (rules : RuleSet) (f : Field) (o : Option (List Part)) (space : ℕ) → (f.decls ≡ 0 → ⊥) → o ≡ declared_left rules f o (known space)
unfolding declared_left
still_wanted rules f o space h = no! _ (omega tests) refl

module _ (rules : RuleSet) (s : ReadState) (space name : ℕ) where
  pub decl_else : (s.stage ≡ 0 → ⊥) → (r : ReadState) → outcome_of r ≡ wrong → outcome_of r ≡ on_decl_t rules (position_of s) space name
  unfolding position_of
  decl_else h r w = w ∙ sym (⊎_elim low (λ g. rw (outside s g) (unfold on_decl_t in refl)) (lt_or_le s.stage 4))
    where
      low : s.stage < 4 → on_decl_t rules (position s.depth s.kind (current_in s)) space name ≡ wrong
      low g =
          ⊎_elim
          (λ e. ⊎_elim (λ f. rw (inside s (omega arith), is_wanting s.stage s.paths (left_of s.left) (omega arith)) (unfold on_decl_t in refl))
          (λ f. rw (inside s (omega arith), is_pathing s.stage s.paths (left_of s.left) (omega arith)) (unfold on_decl_t in refl)) (lt_or_le s.stage 2))
          (λ e. rw (inside s (omega arith), is_exported_lem s.stage s.paths (left_of s.left) e) (unfold on_decl_t in refl))
          (lt_or_le s.stage 3)

  module _ (h : s.stage ≡ 0) (m : Bool) (p : m ≡ may_declare (declares s.field.code) s.field.decls space) where
    decl_as : on_decl_t rules (position_of s) space name ≡ pick m (on (position s.depth s.kind (within (declared_t s.field name) (declaring (declared_left rules s.field (left_of s.left) space))))) wrong
    unfolding position_of
    decl_as = rw (inside s (omega arith), is_declaring s.stage s.paths (left_of s.left) h) (unfold on_decl_t in rw (← p))

    pub decl_not : not m ≡ true → (r : ReadState) → outcome_of r ≡ wrong → outcome_of r ≡ on_decl_t rules (position_of s) space name
    decl_not g r w = w ∙ sym (decl_as ∙ rw (not-true m g) (unfold pick in refl))

    pub decl_more : not m ≡ false → (wide : ℕ) → wide ≡ space → (n : ℕ) → left_of n ≡ declared_left rules s.field (left_of s.left) (known wide) → (f : Field) → f ≡ declared_t s.field name → (paths : ℕ) → outcome_of (made s.depth s.kind n paths f 0) ≡ on_decl_t rules (position_of s) space name
    decl_more g wide v n l f e paths =
        let t = not-false m g in
        let k = declared_known s.field.code s.field.decls space (sym p ∙ t) in
        made_declaring _ _ n paths f ∙ rw (l, v, k, e) (sym (decl_as ∙ rw t (unfold pick in refl)))

-- an operand
module _ (d k paths left : ℕ) (f : Field) where
  pub want_not : left < 48 → (r : ReadState) → outcome_of r ≡ wrong → outcome_of r ≡ stays (left_of left) (pathed_t d k f paths)
  want_not h r w = w ∙ rw (left_before left h) (unfold stays in refl)

  pub want_done : 48 ≤ left → paths ≡ 0 → outcome_of (made d k left paths f 1) ≡ stays (left_of left) (pathed_t d k f paths)
  want_done h e = made_wanting d k left paths f ∙ rw (left_at left h) (unfold stays pathed_t in yes! _ (omega tests) refl)

  pub want_paths : 48 ≤ left → (paths ≡ 0 → ⊥) → outcome_of (made d k left paths f 2) ≡ stays (left_of left) (pathed_t d k f paths)
  want_paths h e = made_pathing d k left paths f ∙ rw (left_at left h) (unfold stays pathed_t in no! _ (omega tests) refl)

module _ (s : ReadState) (fits : Want → Bool) (go : Field → List Part → Outcome) where
  operand_none : 1 < s.stage → wrong ≡ on_operand_t (current_in s) fits go
  operand_none h = ⊎_elim (λ g. rw (inside s (omega arith)) (unfold on_operand_t in rw (wants_none s.stage s.paths (left_of s.left) s.field h) (unfold stays ◌then◌ in refl))) (λ g. rw (outside s g) (unfold on_operand_t in refl)) (lt_or_le s.stage 4)

  operand_on : s.stage ≤ 1 → (n : ℕ) → left_of n ≡ (left_of s.left then λ ps. next fits ps) → stays (left_of n) (go s.field) ≡ on_operand_t (current_in s) fits go
  operand_on h n e = rw (inside s (omega arith)) (unfold on_operand_t in rw (wants_low s.stage s.paths (left_of s.left) s.field h, e))

module _ (s : ReadState) (r : ReadState) where
  module _ (h : 1 < s.stage) (w : outcome_of r ≡ wrong) where
    pub ref_not : (space paths : ℕ) → outcome_of r ≡ on_ref_t (position_of s) space paths
    unfolding position_of on_ref_t
    ref_not space paths = w ∙ operand_none s _ _ h

    pub outer_not : (space : ℕ) → outcome_of r ≡ on_outer_t (position_of s) space
    unfolding position_of on_outer_t
    outer_not space = w ∙ operand_none s _ _ h

    pub case_not : outcome_of r ≡ on_case_t (position_of s)
    unfolding position_of on_case_t
    case_not = w ∙ operand_none s _ _ h

  module _ (h : s.stage ≤ 1) (table : List (List ℕ)) (right : Right table) (n : ℕ) where
    pub ref_on : (space paths : ℕ) → n ≡ ref_entry table s.left space paths → outcome_of r ≡ stays (left_of n) (pathed_t s.depth s.kind s.field paths) → outcome_of r ≡ on_ref_t (position_of s) space paths
    unfolding position_of on_ref_t
    ref_on space paths e w = w ∙ operand_on s (λ v. fits_ref v space paths) (λ f. pathed_t s.depth s.kind f paths) h n (ap left_of e ∙ right_ref table right s.left space paths)

    pub outer_on : (space : ℕ) → n ≡ outer_entry table s.left space → outcome_of r ≡ stays (left_of n) (pathed_t s.depth s.kind s.field 0) → outcome_of r ≡ on_outer_t (position_of s) space
    unfolding position_of on_outer_t
    outer_on space e w = w ∙ operand_on s (λ v. fits_outer v space) (λ f. pathed_t s.depth s.kind f 0) h n (ap left_of e ∙ right_outer table right s.left space)

    pub case_on : n ≡ entry table s.left 26 → outcome_of r ≡ stays (left_of n) (pathed_t s.depth s.kind s.field 0) → outcome_of r ≡ on_case_t (position_of s)
    unfolding position_of on_case_t
    case_on e w = w ∙ operand_on s is_case (λ f. pathed_t s.depth s.kind f 0) h n (ap left_of e ∙ right_case table right s.left)

  pub path_else : (s.stage ≡ 2 → ⊥) → outcome_of r ≡ wrong → outcome_of r ≡ on_path_t (position_of s)
  unfolding position_of
  path_else h w = w ∙ sym (⊎_elim low (λ g. rw (outside s g) (unfold on_path_t in refl)) (lt_or_le s.stage 4))
    where
      low : s.stage < 4 → on_path_t (position s.depth s.kind (current_in s)) ≡ wrong
      low g =
          ⊎_elim
          (λ e. ⊎_elim (λ f. rw (inside s (omega arith), is_declaring s.stage s.paths (left_of s.left) (omega arith)) (unfold on_path_t in refl))
          (λ f. rw (inside s (omega arith), is_wanting s.stage s.paths (left_of s.left) (omega arith)) (unfold on_path_t in refl)) (lt_or_le s.stage 1))
          (λ e. rw (inside s (omega arith), is_exported_lem s.stage s.paths (left_of s.left) (omega arith)) (unfold on_path_t in refl))
          (lt_or_le s.stage 2)

  module _ (h : s.stage ≡ 2) where
    path_as : on_path_t (position_of s) ≡ pick (eqb s.paths 0) wrong (stays (left_of s.left) (pathed_t s.depth s.kind s.field (s.paths - 1)))
    unfolding position_of
    path_as = rw (inside s (omega arith), is_pathing s.stage s.paths (left_of s.left) h) (unfold on_path_t in refl)

    pub path_none : s.paths ≡ 0 → outcome_of r ≡ wrong → outcome_of r ≡ on_path_t (position_of s)
    path_none g w = w ∙ yes! _ (omega tests) refl ∙ sym path_as

    pub path_on : (s.paths ≡ 0 → ⊥) → outcome_of r ≡ stays (left_of s.left) (pathed_t s.depth s.kind s.field (s.paths - 1)) → outcome_of r ≡ on_path_t (position_of s)
    path_on g w = w ∙ no! _ (omega tests) refl ∙ sym path_as

module _ (s : ReadState) (m e : Bool) (p : m ≡ is_complete (wanted_t (current_in s))) (x : e ≡ exports s.field.code) where
  export_as : on_export_t (position_of s) ≡ pick (m && e) (on (position s.depth s.kind (within s.field exported))) wrong
  unfolding position_of
  export_as = rw (p, x) (⊎_elim (λ g. rw (inside s (omega arith)) (unfold on_export_t may_export_t in refl)) (λ g. rw (outside s g) (unfold on_export_t wanted_t is_complete pick in refl)) (lt_or_le s.stage 4))

  pub export_done : (m && e) ≡ true → (n paths : ℕ) → outcome_of (made s.depth s.kind n paths s.field 3) ≡ on_export_t (position_of s)
  export_done h n paths = made_exported _ _ n paths _ ∙ sym (export_as ∙ rw h (unfold pick in refl))

  pub export_not : (m && e) ≡ false → (r : ReadState) → outcome_of r ≡ wrong → outcome_of r ≡ on_export_t (position_of s)
  export_not h r w = w ∙ sym (export_as ∙ rw h (unfold pick in refl))

module _ (s : ReadState) (kinds : List ℕ) (kind name : ℕ) (m : Bool) (p : m ≡ may_open_t (current_in s) kind name) (r : ReadState) where
  pub open_not : not m ≡ true → outcome_of r ≡ wrong → (outcome_of r & kinds) ≡ on_open_t (position_of s) kinds kind name
  unfolding position_of on_open_t pick
  open_not h w = rw (← p, not-true m h, w)

  module _ (h : not m ≡ false) where
    pub open_deep : length kinds ≤ s.depth → outcome_of r ≡ deep → (outcome_of r & kinds) ≡ on_open_t (position_of s) kinds kind name
    unfolding position_of on_open_t pick
    open_deep g w = let t : leb (length kinds) s.depth ≡ true = omega tests in rw (← p, not-false m h, t, w)

    pub open_on : s.depth < length kinds → outcome_of r ≡ between_t (s.depth + 1) kind → (outcome_of r & set kinds s.depth s.kind) ≡ on_open_t (position_of s) kinds kind name
    unfolding position_of on_open_t pick
    open_on g e = let t : leb (length kinds) s.depth ≡ false = omega tests in rw (← p, not-false m h, t, e)

module _ (s : ReadState) (kinds : List ℕ) (m : Bool) (p : m ≡ may_end_t (current_in s)) (r : ReadState) where
  pub close_not : not m ≡ true → outcome_of r ≡ wrong → outcome_of r ≡ on_close_t (position_of s) kinds
  unfolding position_of on_close_t pick
  close_not h w = rw (← p, not-true m h, w)

  module _ (h : not m ≡ false) where
    pub close_whole : s.depth ≤ 1 → outcome_of r ≡ whole → outcome_of r ≡ on_close_t (position_of s) kinds
    unfolding position_of on_close_t pick
    close_whole g w = let t : leb s.depth 1 ≡ true = omega tests in rw (← p, not-false m h, t, w)

    pub close_on : 1 < s.depth → (k : ℕ) → k ≡ get_or kinds (s.depth - 1) 0 → outcome_of r ≡ between_t (s.depth - 1) k → outcome_of r ≡ on_close_t (position_of s) kinds
    unfolding position_of on_close_t pick
    close_on g k q e = let t : leb s.depth 1 ≡ false = omega tests in rw (← p, not-false m h, t, ← q) e

-- ---- any row

module _ (rules : RuleSet) (P : Position) (kinds : List ℕ) (r : ReadState) (top : ℕ) (p : Parts) (m : Bool) (q : m ≡ is_sound top p) where
  pub step_unsound : not m ≡ true → outcome_of r ≡ wrong → (outcome_of r & kinds) ≡ read_step_t rules P kinds (row_of top p)
  unfolding read_step_t
  step_unsound h w = rw (unsound top p (sym q ∙ not-true m h), w)

  module _ (h : not m ≡ false) where
    sound : is_sound top p ≡ true
    sound = sym q ∙ not-false m h

    pub step_field : p.code ≡ 1 → (code builtin : ℕ) → code ≡ p.b → builtin ≡ p.e → outcome_of r ≡ on_field_t P code builtin → (outcome_of r & kinds) ≡ read_step_t rules P kinds (row_of top p)
    unfolding read_step_t
    step_field e code builtin c b w = rw (sound_field top p sound e, w, c, b)

    pub step_decl : p.code ≡ 2 → (name : ℕ) → name ≡ p.x → outcome_of r ≡ on_decl_t rules P p.b name → (outcome_of r & kinds) ≡ read_step_t rules P kinds (row_of top p)
    unfolding read_step_t
    step_decl e name n w = rw (sound_decl top p sound e, w, n)

    pub step_ref : p.code ≡ 3 → (space paths : ℕ) → space ≡ p.b → paths ≡ p.y → outcome_of r ≡ on_ref_t P space paths → (outcome_of r & kinds) ≡ read_step_t rules P kinds (row_of top p)
    unfolding read_step_t
    step_ref e space paths s n w = rw (sound_ref top p sound e, w, s, n)

    pub step_path : p.code ≡ 4 → outcome_of r ≡ on_path_t P → (outcome_of r & kinds) ≡ read_step_t rules P kinds (row_of top p)
    unfolding read_step_t
    step_path e w = rw (sound_path top p sound e, w)

    pub step_outer : p.code ≡ 5 → (space : ℕ) → space ≡ p.b → outcome_of r ≡ on_outer_t P space → (outcome_of r & kinds) ≡ read_step_t rules P kinds (row_of top p)
    unfolding read_step_t
    step_outer e space s w = rw (sound_outer top p sound e, w, s)

    pub step_case : p.code ≡ 6 → outcome_of r ≡ on_case_t P → (outcome_of r & kinds) ≡ read_step_t rules P kinds (row_of top p)
    unfolding read_step_t
    step_case e w = rw (sound_case top p sound e, w)

    pub step_open : p.code ≡ 7 → (kind name : ℕ) → kind ≡ p.b → name ≡ p.x → (kinds' : List ℕ) → (outcome_of r & kinds') ≡ on_open_t P kinds kind name → (outcome_of r & kinds') ≡ read_step_t rules P kinds (row_of top p)
    unfolding read_step_t
    step_open e kind name k n kinds' w = w ∙ rw (sound_open top p sound e, k, n)

    pub step_close : p.code ≡ 8 → outcome_of r ≡ on_close_t P kinds → (outcome_of r & kinds) ≡ read_step_t rules P kinds (row_of top p)
    unfolding read_step_t
    step_close e w = rw (sound_close top p sound e, w)

    pub step_export : p.code ≡ 9 → outcome_of r ≡ on_export_t P → (outcome_of r & kinds) ≡ read_step_t rules P kinds (row_of top p)
    unfolding read_step_t
    step_export e w = rw (sound_export top p sound e, w)

pub step_none : (rules : RuleSet) (P : Position) (kinds : List ℕ) (r : ReadState) (top : ℕ) (p : Parts) → (p.code ≡ 1 → ⊥) → (p.code ≡ 2 → ⊥) → (p.code ≡ 3 → ⊥) → (p.code ≡ 4 → ⊥) → (p.code ≡ 5 → ⊥) → (p.code ≡ 6 → ⊥) → (p.code ≡ 7 → ⊥) → (p.code ≡ 8 → ⊥) → (p.code ≡ 9 → ⊥) → outcome_of r ≡ wrong → (outcome_of r & kinds) ≡ read_step_t rules P kinds (row_of top p)
unfolding read_step_t
step_none rules P kinds r top p a b c d e f g h i w = rw (no_such_row top p a b c d e f g h i, w)

pub ruleset step_ways = (step_unsound, step_field, step_decl, step_ref, step_path, step_outer, step_case, step_open, step_close, step_export, step_none, rules)
