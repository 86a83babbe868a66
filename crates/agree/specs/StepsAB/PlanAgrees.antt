-- Step B: on the rows of fields, `plan_scope_t` does what the rules' `expand_fields` says.
use Rattle.std.specs.Prelude.{◌≡◌, Bool, get_or, take, replicate, Result as CodeResult, Ok, Err, is_some}
use Rattle.std.proofs.Math.Path.{refl, sym, ap}
use Rattle.std.proofs.Common.{◌∙◌, add-zero, arith}
use Rattle.std.proofs.Math.Bool.{true}
use mathlib.Core.List.{List, [], ◌∷◌, ◌++◌, append_assoc, append-nil}
use Prim.Native.Nat.{ℕ, zero, suc, ◌+◌, ◌-◌, ◌/◌, ◌≤◌}
use Rattle.std.proofs.Math.Dec.{eqb}
use Rattle.std.proofs.Math.ListN.{length, length-append, get_or-replicate}
use Rattle.kit.specs.Out.{Out, ◌&◌}
use Rattle.kit.proofs.Laws.{yes!, no! }
use Rattle.rules.specs.Tools.{is_just}
use Rattle.rules.specs.Rows.{Close}
use Rattle.rules.specs.Tree.{Declaration, Head, Fields, end, ◌▸◌, Item, head_of, decl_rows, flatten, fields_rows, item_rows, head_rows}
use Rattle.rules.specs.Rules.{Entry, decls_in, Outside, onward, Result, refused, ok, find, heads_decls, Expanded, expand_head, expand_fields}
use Rattle.rules.specs.Laws.Results.{holds_of}
use Rattle.rules.specs.Laws.Meaning.Names.{LowHead, LowFields}
use Rattle.rules.specs.Laws.Entries.{field_decls}
use Rattle.rules.proofs.Laws.Output.FourTimes.{fields_size, item_size}
use Rattle.rules.proofs.Laws.Output.Counts.{own, HeadCounts, head_counts}
use Rattle.rows.specs.RowAt.{code_at}
use Rattle.form.specs.Part.{field_rows}
use Rattle.refusal.specs.declared.Refusal.{Refusal as Said}
use Rattle.refusal.specs.declared.Told.{Told}
use Rattle.names.specs.Table.{Slot, between, find_in}
use Rattle.names.specs.Stands.{count, Stands, Envs, Below}
use Rattle.plan.specs.Insertions.{Step, step_then, stops, plan_field_t, moved_t, plan_fields_t, plan_seen_t, plan_scope_t}
use Rattle.plan.specs.declared.insertions.PlanState.{PlanState}
use Rattle.agree.specs.Refusals.Carried.{said_of, told_of}
use Rattle.agree.specs.Tables.Sizes.{most}
use Rattle.agree.specs.Rows.At.{Is, At}
use Rattle.form.specs.Ends.{Ends}
use Rattle.agree.specs.Rows.AtLaws.{at_left, at_right, at_head, at_fits, part_at, part_size, code_is, row_number_lem}
use Rattle.agree.specs.Tables.Slots.{if_ok, decl_slots, head_slots, fields_slots}
use Rattle.agree.specs.Rows.ItemRows.{rest_rows, field_row, item_rows_lem, some_rows}
use Rattle.agree.specs.Fit.Spaces.{Spaces, SpacesHead}
use Rattle.agree.specs.StepsAB.PlanTables.{Tab, plan_of, StepIs, step_then_lem, step_map}
use Rattle.agree.specs.Tables.SlotLaws.{head_fresh}
use Rattle.agree.specs.Tables.Earlier.{Knows, knows_append, knows_none, knows_fresh, knows_decls, Timed}
use Rattle.agree.specs.StepsAB.PlanField.{field_is}
use Rattle.refusal.specs.declared.Refused.{Refused}

-- ---- the outcome

pub record PlanStopped (room first : ℕ) (names₀ : List Slot) (n : Said) (z : Told) (o : Out (CodeResult PlanState Refused) (List Slot)) : Type 0 where
  pub names : List Slot
  pub answer : o ≡ (Err (record { refusal = n; told = z }) & names)
  pub size : length names ≡ room
  pub kept : take first names ≡ take first names₀

pub record PlanDone (room first : ℕ) (names₀ slots : List Slot) (ds : List Declaration) (k : ℕ) (o : Out (CodeResult PlanState Refused) (List Slot)) : Type 0 where
  pub plan : PlanState
  pub names : List Slot
  pub answer : o ≡ (Ok plan & names)
  pub used : plan.used ≡ first + length slots
  pub fresh : plan.fresh ≡ 2147483648 + k
  pub size : length names ≡ room
  pub kept : take first names ≡ take first names₀
  pub holds : between first plan.used names ≡ slots
  pub stands : Stands [] slots ds

-- what step B comes to, where the rules say this: from `first` on the table holds `slots`
abbrev pub PlanIs : (room first : ℕ) (names₀ slots : List Slot) → Result (List Entry × ℕ) → Out (CodeResult PlanState Refused) (List Slot) → Type 0
PlanIs room first names₀ slots (refused n z) o = PlanStopped room first names₀ (said_of n z) (told_of n) o
PlanIs room first names₀ slots (ok r) o = PlanDone room first names₀ slots (decls_in r.0) r.1 o

-- ---- all fields

module _ (room first : ℕ) (names₀ : List Slot) (n depth far : ℕ) (early : Bool) (fits : room ≤ most) (here : List Declaration) (entered : List Slot) (scopes : List (List ℕ)) (known : (space name : ℕ) → is_some (find_in (between 0 n entered) space name) ≡ is_just (find here space name)) (below : Below first scopes depth) (shallow : depth ≤ most) (rows ends : List ℕ) (short : length rows / 16 ≤ most) where
  -- what is carried along, at a field's row
  abbrev P : (at used k : ℕ) → PlanState
  P at used k = plan_of room first names₀ n depth far early at used k

  -- what the fields come to, where the rules say this
  abbrev FieldsIs : (outside : Outside) (fs : Fields) (p k : ℕ) (before : List Declaration) (slots : List Slot) → Result (List Entry × ℕ) → Step → Type 0
  FieldsIs outside fs p k before slots m o = StepIs room first names₀ n depth far early (λ r. before ++ decls_in r.0) (λ r. slots ++ fields_slots here outside before k p fs) (λ r. r.1) (p + length (fields_rows fs)) m o

  -- at the CLOSE step B is done
  fields_end : (p used k : ℕ) (names : List Slot) (counts : List ℕ) (turns : ℕ) → Is rows p Close → plan_fields_t rows ends entered names scopes counts (P p used k) turns ≡ (Ok (P p used k) & names & counts)
  unfolding plan_fields_t
  fields_end p used k names counts zero i = refl
  fields_end p used k names counts (suc turns) i = sym (no! _ (rw (code_is rows p Close i) refl) refl)

  -- one turn of the loop over fields, with the places worked out
  fields_turn : (i : Item) (p used k : ℕ) (names : List Slot) (counts : List ℕ) (turns : ℕ) → At rows p (item_rows i) → get_or ends p 0 ≡ p + length (item_rows i) → plan_fields_t rows ends entered names scopes counts (P p used k) (suc turns) ≡ step_then (plan_field_t (field_rows rows ends p) entered names scopes counts (P p used k)) (λ ns cs q. plan_fields_t rows ends entered ns scopes cs (moved_t q (p + length (item_rows i))) turns) stops
  unfolding plan_fields_t
  fields_turn i p used k names counts turns a en =
      let b : At rows p (field_row (head_of i) ∷ (decl_rows (head_of i).decls ++ rest_rows i)) = rw (item_rows_lem i) at a in
      let h = at_head rows p _ _ b in
      let f = at_fits rows p (item_rows i) (omega (arith, h.there)) a in
      let c : eqb (code_at rows p) 1 ≡ true = rw (code_is rows p _ h) refl in
      sym (yes! _ c (rw (part_size rows ends p (item_rows i) (some_rows i) en a, row_number_lem p (length (item_rows i)) (omega arith))))

  -- the slots of a field and of the others
  slots_more : (outside : Outside) (i : Item) (fs : Fields) (before : List Declaration) (k p : ℕ) (e : Expanded Head) → expand_head here outside k (head_of i) ≡ ok e → fields_slots here outside before k p (i ▸ fs) ≡ head_slots here outside before k p (head_of i) ++ (decl_slots (before ++ heads_decls e.inserted) (p + 1) (head_of i).decls ++ fields_slots here (onward i outside) ((before ++ heads_decls e.inserted) ++ (head_of i).decls) e.k (p + length (item_rows i)) fs)
  unfolding fields_slots if_ok
  slots_more outside i fs before k p e q = rw q

  -- no field
  fields_none : (outside : Outside) (p k : ℕ) (before : List Declaration) (slots : List Slot) (used : ℕ) (names : List Slot) (counts : List ℕ) (turns : ℕ) → Tab room first names₀ before slots used names counts → Is rows p Close → FieldsIs outside end p k before slots (expand_fields here outside k end) (plan_fields_t rows ends entered names scopes counts (P p used k) turns)
  unfolding expand_fields fields_slots flatten
  fields_none outside p k before slots used names counts turns tab i =
      rw (add-zero p) (record { used = used; names = names; counts = counts; answer = fields_end p used k names counts turns i; tab = rw (append-nil before, append-nil slots) tab })

  -- past a field
  knows_next : (outside : Outside) (i : Item) (k p : ℕ) (before : List Declaration) (slots : List Slot) (ds : List Declaration) → Knows slots outside.before.decls
      → Knows ((slots ++ head_slots here outside before k p (head_of i)) ++ decl_slots ds (p + 1) (head_of i).decls) (outside.before.decls ++ (head_of i).decls)
  knows_next outside i k p before slots ds knows =
      let hs = head_slots here outside before k p (head_of i) in
      knows_append (slots ++ hs) (decl_slots ds (p + 1) (head_of i).decls) outside.before.decls (head_of i).decls
      (rw append-nil at (knows_append slots hs outside.before.decls [] knows (knows_fresh hs (head_fresh here outside before k p (head_of i))))) (knows_decls ds (p + 1) (head_of i).decls)

  -- one field, and then the others as given
  fields_more : (outside : Outside) → Timed outside.early early names₀ scopes far depth outside.scopes → Envs names₀ scopes depth outside.scopes → (i : Item) (fs : Fields) (p k : ℕ) (before : List Declaration) (slots : List Slot) (used : ℕ) (names : List Slot) (counts : List ℕ) (turns : ℕ) → Tab room first names₀ before slots used names counts → (early ≡ true → Knows slots outside.before.decls) → (early ≡ true → LowHead (head_of i)) → SpacesHead (head_of i) → At rows p (item_rows i) → get_or ends p 0 ≡ p + length (item_rows i) → first + length before + length (head_rows (head_of i)) ≤ room → k + length (head_rows (head_of i)) ≤ most → ((e : Expanded Head) → HeadCounts here outside k (head_of i) e → (slots' : List Slot) (used' : ℕ) (names' : List Slot) (counts' : List ℕ) → Tab room first names₀ ((before ++ heads_decls e.inserted) ++ (head_of i).decls) slots' used' names' counts' → (early ≡ true → Knows slots' (onward i outside).before.decls) → FieldsIs (onward i outside) fs (p + length (item_rows i)) e.k ((before ++ heads_decls e.inserted) ++ (head_of i).decls) slots' (expand_fields here (onward i outside) e.k fs) (plan_fields_t rows ends entered names' scopes counts' (P (p + length (item_rows i)) used' e.k) turns)) → FieldsIs outside (i ▸ fs) p k before slots (expand_fields here outside k (i ▸ fs)) (plan_fields_t rows ends entered names scopes counts (P p used k) (suc turns))
  unfolding expand_fields moved_t
  fields_more outside timed envs i fs p k before slots used names counts turns tab knows low l a en b h f =
      let g = some_rows i in
      let ds = (head_of i).decls in
      let q : At (field_rows rows ends p) 0 (field_row (head_of i) ∷ (decl_rows ds ++ rest_rows i)) = rw (item_rows_lem i) at (part_at rows ends p (item_rows i) g en a) in
      let s : length (field_rows rows ends p) / 16 ≡ suc (length (decl_rows ds ++ rest_rows i)) = part_size rows ends p (item_rows i) g en a ∙ ap length (item_rows_lem i) in
      let b' : At rows p (field_row (head_of i) ∷ (decl_rows ds ++ rest_rows i)) = rw (item_rows_lem i) at a in
      let w = at_fits rows p (item_rows i) (omega (arith, (at_head rows p _ _ b').there)) a in
      let z = item_size i in
      let t : p + length (fields_rows (i ▸ fs)) ≡ p + length (item_rows i) + length (fields_rows fs) = omega (arith, fields_size i fs) in
      rw (fields_turn i p used k names counts turns a en, t)
      (step_then_lem room first names₀ n depth far early _ _ _ p _ _ _ (p + length (item_rows i) + length (fields_rows fs)) (expand_head here outside k (head_of i)) _ _ _
      (field_is room first names₀ n depth far early fits here outside entered scopes known timed envs below shallow (field_rows rows ends p) p i k before slots used names counts tab knows low l (omega arith) b h q s)
      (λ e o used' names' counts' tab'.
      let ins = heads_decls e.inserted in
      let hs = head_slots here outside before k p (head_of i) in
      let dd = decl_slots (before ++ ins) (p + 1) ds in
      let c : HeadCounts here outside k (head_of i) e = holds_of (HeadCounts here outside k (head_of i)) (expand_head here outside k (head_of i)) e (head_counts here outside k (head_of i)) o in
      step_map room first names₀ n depth far early _ _ _ _ _ _ (p + length (item_rows i) + length (fields_rows fs)) (expand_fields here (onward i outside) e.k fs) _ _
      (λ r. rw (field_decls (outside.before.row + suc (length ds)) (suc outside.before.row) e.inserted e.rows ds r.0) (simp append_assoc))
      (λ r. rw (slots_more outside i fs before k p e o) (simp append_assoc))
      (λ r. refl)
      (f e c ((slots ++ hs) ++ dd) used' names' counts' tab' (λ t. knows_next outside i k p before slots (before ++ ins) (knows t)))))

  -- all fields
  fields_are : (outside : Outside) → Timed outside.early early names₀ scopes far depth outside.scopes → Envs names₀ scopes depth outside.scopes → (fs : Fields) (p k : ℕ) (before : List Declaration) (slots : List Slot) (used : ℕ) (names : List Slot) (counts : List ℕ) (turns : ℕ) → Tab room first names₀ before slots used names counts → (early ≡ true → Knows slots outside.before.decls) → (early ≡ true → LowFields fs) → Spaces fs → At rows p (fields_rows fs ++ (Close ∷ [])) → Ends fs ends p → length (fields_rows fs) ≤ turns → first + length before + own fs ≤ room → k + own fs ≤ most → FieldsIs outside fs p k before slots (expand_fields here outside k fs) (plan_fields_t rows ends entered names scopes counts (P p used k) turns)
  unfolding flatten Ends own
  fields_are outside timed envs end p k before slots used names counts turns tab knows low l a en t b h = fields_none outside p k before slots used names counts turns tab (at_head rows p Close [] a)
  fields_are outside timed envs (i ▸ fs) p k before slots used names counts zero tab knows low l a en t b h = let s = fields_size i fs in let g = some_rows i in absurd (omega arith)
  fields_are outside timed envs (i ▸ fs) p k before slots used names counts (suc turns) tab knows low l a en t b h =
      let s = length-append (item_rows i) (fields_rows fs) in
      let g = some_rows i in
      let a' : At rows p (item_rows i ++ (fields_rows fs ++ (Close ∷ []))) = rw append_assoc at a in
      fields_more outside timed envs i fs p k before slots used names counts turns tab knows (λ t. (low t).0) l.0 (at_left rows p (item_rows i) _ a') en.0 (omega arith) (omega arith)
      (λ e c slots' used' names' counts' tab' knows'.
      let x = length-append before (heads_decls e.inserted) in
      let y = length-append (before ++ heads_decls e.inserted) (head_of i).decls in
      fields_are (onward i outside) timed envs fs (p + length (item_rows i)) e.k ((before ++ heads_decls e.inserted) ++ (head_of i).decls) slots' used' names' counts' turns tab' knows' (λ t. (low t).2) l.1 (at_right rows p (item_rows i) _ a') en.2 (omega arith) (omega (arith, c.decls)) (omega (arith, c.numbers)))

-- ---- a scope

-- what is left of a step where the counts are dropped
seen_is : (room first : ℕ) (names₀ slots : List Slot) (n depth far : ℕ) (early : Bool) (at : ℕ) (m : Result (List Entry × ℕ)) (o : Step) → StepIs room first names₀ n depth far early (λ r. [] ++ decls_in r.0) (λ r. [] ++ slots) (λ r. r.1) at m o → PlanIs room first names₀ slots m (plan_seen_t o)
unfolding plan_seen_t
seen_is room first names₀ slots n depth far early at (refused i z) o s = record { names = s.names; answer = rw s.answer; size = s.size; kept = s.kept }
seen_is room first names₀ slots n depth far early at (ok r) o s =
    record {
      plan = plan_of room first names₀ n depth far early at s.used r.1;
      names = s.names;
      answer = rw s.answer;
      used = s.tab.next;
      fresh = refl;
      size = s.tab.size;
      kept = s.tab.kept;
      holds = s.tab.holds;
      stands = s.tab.stands;
    }

-- from a place up to itself there are no slots
no_slots_lem : (first : ℕ) (names : List Slot) → between first first names ≡ []
unfolding between
no_slots_lem first names = let e : first - first ≡ 0 = omega arith in rw e

-- STEP B: what `plan_scope_t` comes to on the rows of a scope's fields, with the scopes `outside` open and `used` slots in use
pub plan_agrees : (room : ℕ) (rows ends : List ℕ) (fs : Fields) (p k used n depth far : ℕ) (early : Bool) (here : List Declaration) (outside : Outside) (entered names : List Slot) (scopes : List (List ℕ)) → length rows / 16 ≤ most → room ≤ most → At rows p (fields_rows fs ++ (Close ∷ [])) → Ends fs ends p → Spaces fs → ((space name : ℕ) → is_some (find_in (between 0 n entered) space name) ≡ is_just (find here space name)) → Timed outside.early early names scopes far depth outside.scopes → outside.before.decls ≡ [] → (early ≡ true → LowFields fs) → Envs names scopes depth outside.scopes → Below used scopes depth → depth ≤ most → length names ≡ room → used + own fs ≤ room → k + own fs ≤ most → PlanIs room used names (fields_slots here outside [] k p fs) (expand_fields here outside k fs) (plan_scope_t rows ends entered names scopes (record { at = p; entered = n; depth = depth; used = used; fresh = 2147483648 + k; first = used; before = far; early = early }))
unfolding plan_scope_t
plan_agrees room rows ends fs p k used n depth far early here outside entered names scopes short fits a en sp known timed starts low envs below shallow size b h =
    let w = at_head rows _ Close [] (at_right rows p (fields_rows fs) (Close ∷ []) a) in
    let tab : Tab room used names [] [] used names (replicate 13 0) =
    record { size = size; kept = refl; next = omega arith; holds = no_slots_lem used names; stands = unfold Stands in tt; width = refl; counted = λ s l. unfold count in get_or-replicate 13 s 0 0 l } in
    seen_is room used names (fields_slots here outside [] k p fs) n depth far early (p + length (fields_rows fs)) (expand_fields here outside k fs) (plan_fields_t rows ends entered names scopes (replicate 13 0) (plan_of room used names n depth far early p used k) (length rows / 16))
    (fields_are room used names n depth far early fits here entered scopes known below shallow rows ends short outside timed envs fs p k [] [] used names (replicate 13 0) (length rows / 16) tab (λ t. rw starts knows_none) low sp a en (omega (arith, w.there)) (omega arith) h)
