-- Ways through the walk over scopes and fields, one law each.
use Rattle.std.specs.Prelude.{Result, Ok, Err, ℕ}
use mathlib.Core.Path.{◌≡◌, refl, sym, ap, ◌∙◌}
use mathlib.Core.Bool.{Bool, true, false}
use mathlib.Core.List.{List, [], ◌∷◌}
use native.Mathlib.Omega.{arith}
use Prim.Native.Nat.{ℕ, suc, ◌+◌, ◌-◌, ◌/◌, ◌≤◌, ◌<◌}
use lib.ListN.{length, set}
use types.Run.{OneOf}
use denote.Enum.Declared.{tag_of}
use borrow.Author.Rules.{rules}
use Rattle.kit.specs.Out.{◌&◌}
use Rattle.kit.proofs.Laws.{yes!, no!, tests, down}
use Rattle.rules.specs.Shapes.{here_only}
use Rattle.rows.specs.contracts.row.Row as row
use Rattle.rows.specs.RowAt.{row_at, code_at, alone}
use Rattle.put.specs.Put.{copy_row}
use Rattle.rows.specs.declared.row.Row.{Row}
use Rattle.rows.specs.declared.row.Row.TheVariants.{Open}
use Rattle.form.specs.Part.{field_rows}
use Rattle.names.specs.Table.{Slot, name_of, scope_of, innermost_t}
use Rattle.plan.specs.Enter.{row_number, enter_fields_t}
use Rattle.plan.specs.Insertions.{field_code_t}
use Rattle.plan.specs.Insertions as plan
use Rattle.plan.specs.declared.insertions.PlanState.{PlanState}
use Rattle.write.specs.declared.alias.WriteState.{WriteState}
use Rattle.write.specs.WriteState.{begun_t, at_depth_t, after_scope_t, unseen_t, Wrote}
use Rattle.write.specs.Alias.{slot_at, write_aliases_t}
use Rattle.write.specs.Own.{Wrote₂, own_t}
use Rattle.walk.specs.Scopes.{Wrote₃, write_inserted_t, write_fresh_t, write_head_t, with_tables_t, plan_in, planned_t, begin_scope_t, open_name, wrote_then₃, field_walk_t, close_scope_t, closed_t, ended_t, fields_walk_t, scoped_t, scope_walk_t}
use Rattle.walk.proofs.Else.{not_open_lem, open_alone}
use Rattle.write.proofs.LawsAlias.{put_then_lem, wrote_done, wrote_stop}
use Rattle.write.proofs.LawsOwn.{wrote₂_done, wrote₂_stop}
use Rattle.refusal.specs.declared.Refused.{Refused}

-- ---- on from an answer

module _ {A : Type 0} {a : Result WriteState Refused} {e n : List Slot} {o : List ℕ} {W : Wrote₃} (w : a & e & n & o ≡ W) (k : WriteState → List Slot → List Slot → List ℕ → A) (g : Refused → List Slot → List Slot → List ℕ → A) where
  wrote₃_done : {s : WriteState} {X : A} → a ≡ Ok s → X ≡ k s e n o → X ≡ wrote_then₃ W k g
  unfolding wrote_then₃
  wrote₃_done m q = rw (← w, m) q

  wrote₃_stop : {why : Refused} {X : A} → a ≡ Err why → X ≡ g why e n o → X ≡ wrote_then₃ W k g
  unfolding wrote_then₃
  wrote₃_stop m q = rw (← w, m) q

-- ---- a field up to the scope that it may open

module _ (field : List ℕ) (names : List Slot) (here out : List ℕ) (s : WriteState) (c : ℕ) (q : c ≡ field_code_t field) (b : Bool) (t : b ≡ here_only c) where
  pub inserted_none : b ≡ true → Ok s & out ≡ write_inserted_t field names here out s
  unfolding write_inserted_t
  inserted_none e = yes! _ (sym (rw q at t) ∙ e) refl

  pub inserted_some : b ≡ false → (X : Wrote) → X ≡ write_aliases_t field names here out s s.at 1 (length field / 16 - 1) → X ≡ write_inserted_t field names here out s
  unfolding write_inserted_t
  inserted_some e X w = no! _ (sym (rw q at t) ∙ e) w

module _ (field : List ℕ) (names : List Slot) (here out : List ℕ) (s : WriteState) (slot : Slot) (q : slot ≡ slot_at names s.next) where
  pub fresh_none : name_of slot < 2147483648 → Ok s & out ≡ write_fresh_t field names here out s
  unfolding write_fresh_t
  fresh_none h = rw (← q) (yes! _ (omega tests) refl)

  pub fresh_some : 2147483648 ≤ name_of slot → (X : Wrote) → X ≡ write_inserted_t field names here out s → X ≡ write_fresh_t field names here out s
  unfolding write_fresh_t
  fresh_some h X w = rw (← q) (no! _ (omega tests) w)

module _ (field : List ℕ) (entered names : List Slot) (scopes : List (List ℕ)) (out : List ℕ) (s : WriteState) (here : List ℕ) (h : here ≡ innermost_t scopes s.depth) (a : Result WriteState Refused) (o : List ℕ) (w : a & o ≡ write_fresh_t field names here out s) where
  pub head_stop : (why : Refused) → a ≡ Err why → Err why & entered & o ≡ write_head_t field entered names scopes out s
  unfolding write_head_t
  head_stop why m = wrote_stop (rw h at w) _ _ m refl

  pub head_on : (t : WriteState) → a ≡ Ok t → (X : Wrote₂) → X ≡ own_t field entered names scopes o (unseen_t t) t.at 0 (length field / 16) → X ≡ write_head_t field entered names scopes out s
  unfolding write_head_t
  head_on t m X e = wrote_done (rw h at w) _ _ m e

-- ---- steps A and B

module _ (rows ends : List ℕ) (entered names : List Slot) (scopes : List (List ℕ)) (s : WriteState) (first : ℕ) (q : first ≡ row_number s.at 1) (a : Result ℕ Refused) (e : List Slot) (w : a & e ≡ enter_fields_t rows ends entered first 0 (length rows / 16)) where
  pub begin_twice : (why : Refused) → a ≡ Err why → Err why & e & names ≡ begin_scope_t rows ends entered names scopes s
  unfolding begin_scope_t planned_t
  begin_twice why m = rw (← q, ← w, m)

  pub begin_on : (k : ℕ) → a ≡ Ok k → (p : Result PlanState Refused) (n : List Slot) → p & n ≡ plan.plan_scope_t rows ends e names scopes (plan_in s first k) → p & e & n ≡ begin_scope_t rows ends entered names scopes s
  unfolding begin_scope_t planned_t with_tables_t
  begin_on k m p n v = rw (← q, ← w, m, ← q, ← v)

  module _ (k : ℕ) (m : a ≡ Ok k) (p : Result PlanState Refused) (n : List Slot) (v : p & n ≡ plan.plan_scope_t rows ends e names scopes (plan_in s first k)) where
    pub begin_stop : (why : Refused) → p ≡ Err why → Err why & e & n ≡ begin_scope_t rows ends entered names scopes s
    begin_stop why l = rw (← l) (begin_on k m p n v)

    pub begin_done : (d : PlanState) → p ≡ Ok d → Ok d & e & n ≡ begin_scope_t rows ends entered names scopes s
    begin_done d l = rw (← l) (begin_on k m p n v)

module _ (rows : List ℕ) (i : ℕ) (r : Row) (got : r ≡ alone (3 ∷ 7 ∷ []) (row_at rows i)) where
  its_name : open_name r ≡ open_name (row_at rows i)
  its_name = ap open_name got ∙ open_alone (row_at rows i)

  pub name_open : (k n : ℕ) → r ≡ Open k n → n ≡ open_name (row_at rows i)
  unfolding open_name
  name_open k n m = let e = its_name in rw m at e

  pub name_none : OneOf (0 ∷ 1 ∷ 2 ∷ 3 ∷ 4 ∷ 5 ∷ 7 ∷ 8 ∷ 9 ∷ []) (tag_of row.the_type r) → 0 ≡ open_name (row_at rows i)
  name_none t = not_open_lem r t ∙ its_name

-- ---- step C

-- a scope has ended before row `at`, with `to` rows written
abbrev pub ended_at : WriteState → (at to : ℕ) → WriteState
ended_at s at to =
    record { at = at; to = to; used = s.used; fresh = s.fresh; depth = s.depth; next = s.next; alias = s.alias; seen = s.seen; before = s.before; early = s.early }

pub closing : (rows out : List ℕ) (s : WriteState) (k : ℕ) → k ≡ row_number s.at 1 → (to : ℕ) (o : List ℕ) → to & o ≡ copy_row rows s.at out s.to → ended_at s k to & o ≡ close_scope_t rows out s
closing rows out s k q to o w = put_then_lem _ w (rw q)

module _ (rows ends : List ℕ) where
  module _ (entered names : List Slot) (scopes : List (List ℕ)) (out : List ℕ) (s : WriteState) (depth turns most : ℕ) (T : Wrote₃) (inv : fields_walk_t rows ends (scope_walk_t rows ends (most - depth)) entered names scopes out s depth turns ≡ T) where
    pub fields_end : turns ≤ 0 → Ok s & entered & names & out ≡ T
    unfolding fields_walk_t
    fields_end h = let e : turns ≡ 0 = omega arith in rw e at inv

    module _ (h : 0 < turns) (c : ℕ) (g : c ≡ code_at rows s.at) where
      pub fields_close : (c ≡ 1 → ⊥) → (t : WriteState) (o : List ℕ) → t & o ≡ close_scope_t rows out s → Ok t & entered & names & o ≡ T
      unfolding fields_walk_t closed_t ended_t
      fields_close f t o w = no! _ (omega tests) (rw (← w)) ∙ (rw (down turns h) at inv)

      module _ (f : c ≡ 1) (u : WriteState) (q : u ≡ begun_t s depth) (a : Result WriteState Refused) (e n : List Slot) (o : List ℕ) (most' : ℕ) (same : most' ≡ most) (w : a & e & n & o ≡ field_walk_t rows ends (scope_walk_t rows ends (most' - u.depth)) entered names scopes out u) where
        pub fields_turn : (t : WriteState) → a ≡ Ok t → (scopes' : List (List ℕ)) → scopes' ≡ scopes → fields_walk_t rows ends (scope_walk_t rows ends (most - depth)) e n scopes' o t depth (turns - 1) ≡ T
        unfolding fields_walk_t
        fields_turn t m scopes' k = rw k (yes! _ (omega tests) (wrote₃_done (rw (q, same) at w) _ _ m refl) ∙ (rw (down turns h) at inv))

        pub fields_fail : (why : Refused) → a ≡ Err why → a & e & n & o ≡ T
        unfolding fields_walk_t
        fields_fail why m = ap (λ b. b & e & n & o) m ∙ yes! _ (omega tests) (wrote₃_stop (rw (q, same) at w) _ _ m refl) ∙ (rw (down turns h) at inv)

  module _ (most : ℕ) (entered names : List Slot) (scopes : List (List ℕ)) (out : List ℕ) (s : WriteState) (field : List ℕ) (p : field ≡ field_rows rows ends s.at) (a : Result WriteState Refused) (e : List Slot) (o : List ℕ) (w : a & e & o ≡ write_head_t field entered names scopes out s) where
    pub field_stop : (why : Refused) → a ≡ Err why → a & e & names & o ≡ field_walk_t rows ends (scope_walk_t rows ends (most - s.depth)) entered names scopes out s
    unfolding field_walk_t
    field_stop why m = ap (λ b. b & e & names & o) m ∙ wrote₂_stop (rw p at w) _ _ m refl

    module _ (t : WriteState) (m : a ≡ Ok t) (c : ℕ) (g : c ≡ code_at rows t.at) where
      pub field_flat : (c ≡ 7 → ⊥) → Ok t & e & names & o ≡ field_walk_t rows ends (scope_walk_t rows ends (most - s.depth)) entered names scopes out s
      unfolding field_walk_t
      field_flat f = wrote₂_done (rw p at w) _ _ m (no! _ (omega tests) refl)

      module _ (f : c ≡ 7) (u : WriteState) (q : u ≡ at_depth_t t s.depth) (b : Result WriteState Refused) (e' n : List Slot) (o' : List ℕ) (v : b & e' & n & o' ≡ scope_walk_t rows ends (most - u.depth) e names scopes o u) where
        pub field_fail : (why : Refused) → b ≡ Err why → b & e' & n & o' ≡ field_walk_t rows ends (scope_walk_t rows ends (most - s.depth)) entered names scopes out s
        unfolding field_walk_t
        field_fail why l = ap (λ z. z & e' & n & o') l ∙ wrote₂_done (rw p at w) _ _ m (yes! _ (omega tests) (wrote₃_stop (rw q at v) _ _ l refl))

        pub field_deep : (x : WriteState) → b ≡ Ok x → (z : WriteState) → z ≡ after_scope_t t x → Ok z & e' & n & o' ≡ field_walk_t rows ends (scope_walk_t rows ends (most - s.depth)) entered names scopes out s
        unfolding field_walk_t
        field_deep x l z k = wrote₂_done (rw p at w) _ _ m (yes! _ (omega tests) (wrote₃_done (rw q at v) _ _ l (rw k)))

  module _ (most : ℕ) (entered names : List Slot) (scopes : List (List ℕ)) (out : List ℕ) (s : WriteState) where
    scope_zero : (allowed : ℕ) → allowed ≡ 0 → Ok s & entered & names & out ≡ scope_walk_t rows ends allowed entered names scopes out s
    unfolding scope_walk_t
    scope_zero allowed e = rw e

    scope_suc : (allowed k : ℕ) → allowed ≡ suc k → scoped_t rows ends (scope_walk_t rows ends k) (begin_scope_t rows ends entered names scopes s) scopes out s ≡ scope_walk_t rows ends allowed entered names scopes out s
    unfolding scope_walk_t
    scope_suc allowed k e = rw e

    pub scope_none : most ≤ s.depth → Ok s & entered & names & out ≡ scope_walk_t rows ends (most - s.depth) entered names scopes out s
    scope_none h = scope_zero (most - s.depth) (omega arith)

    module _ (h : s.depth < most) (p : Result PlanState Refused) (e n : List Slot) (w : p & e & n ≡ begin_scope_t rows ends entered names scopes s) where
      step : scoped_t rows ends (scope_walk_t rows ends (most - (s.depth + 1))) (p & e & n) scopes out s ≡ scope_walk_t rows ends (most - s.depth) entered names scopes out s
      step = rw w (scope_suc (most - s.depth) (most - (s.depth + 1)) (omega arith))

      pub scope_refused : (why : Refused) → p ≡ Err why → Err why & e & n & out ≡ scope_walk_t rows ends (most - s.depth) entered names scopes out s
      unfolding scoped_t
      scope_refused why m = rw m at step

      pub scope_on : (d : PlanState) → p ≡ Ok d → (name : ℕ) → name ≡ open_name (row_at rows s.at) → (x : List ℕ) → x ≡ scope_of name s.used d.used s.before → (to : ℕ) (o : List ℕ) → to & o ≡ copy_row rows s.at out s.to → (k : ℕ) → k ≡ row_number s.at 1 → (most' : ℕ) → most' ≡ most → (X : Wrote₃) → X ≡ fields_walk_t rows ends (scope_walk_t rows ends (most' - (s.depth + 1))) e n (set scopes s.depth x) o (record { at = k; to = to; used = d.used; fresh = d.fresh; depth = s.depth + 1; next = s.used; alias = s.used; seen = 0; before = s.used; early = s.early }) (s.depth + 1) (length rows / 16) → X ≡ scope_walk_t rows ends (most - s.depth) entered names scopes out s
      unfolding scoped_t
      scope_on d m name f x r to o v k g most' same X i = put_then_lem _ v (rw (r, f, g, same) at i) ∙ (rw m at step)

pub ruleset begins = (begin_twice, begin_stop, begin_done, rules)

-- every way through the code
pub ruleset ways = (
  inserted_none,
  inserted_some,
  fresh_none,
  fresh_some,
  head_stop,
  head_on,
  begin_twice,
  begin_on,
  begin_stop,
  begin_done,
  name_open,
  name_none,
  closing,
  fields_end,
  fields_close,
  fields_turn,
  fields_fail,
  field_stop,
  field_flat,
  field_fail,
  field_deep,
  scope_none,
  scope_refused,
  scope_on,
  rules,
)
