-- Step B at one field: what `plan_field_t` comes to is what the rules' `expand_head` says, and then its DECLs.
use Rattle.std.specs.Prelude.{◌≡◌, Bool, Ok, Err, is_some}
use Rattle.std.proofs.Math.Path.{refl, ap}
use Rattle.std.proofs.Common.{sym, ◌∙◌}
use Rattle.std.proofs.Math.Bool.{true, false}
use Rattle.std.proofs.Math.Option.{Option, none, some}
use mathlib.Core.List.{List, [], ◌∷◌, ◌++◌, append_assoc, append-nil}
use Rattle.std.proofs.Math.Nat.{add-zero}
use native.Mathlib.Omega.{arith}
use Prim.Native.Nat.{ℕ, zero, suc, ◌+◌, ◌-◌, ◌/◌, ◌≤◌, ◌<◌}
use Rattle.std.proofs.Math.ListN.{length, length-append}
use Rattle.kit.specs.Pick.{pick}
use Rattle.kit.specs.Out.{Out, ◌&◌}
use Rattle.rules.specs.Tools.{when◌then◌else◌, is_just}
use Rattle.rules.specs.Rows.{Row, Field, Decl, Ref, Path, Outer, Case, Open, Close, Export}
use Rattle.rules.specs.Tree.{Declaration, Operand, ref, outer, case, Head, scope, Item, plain, holds, head_of, with_operands, decl_rows, path_rows, operand_row, operand_rows, export_rows, flatten, head_rows}
use Rattle.rules.specs.Shapes.{here_only}
use Rattle.rules.specs.Rules.{Outside, Result, ok, ◌>>=◌, find, heads_decls, Expanded, as_it_is, expand_operand, expand_operands, expand_head}
use Rattle.rules.specs.Laws.ToolLaws.{false_not, snoc_append, length_snoc}
use Rattle.rules.specs.Laws.Results.{holds_of}
use Rattle.rules.specs.Laws.Meaning.Names.{LowOperand, LowOperands, LowHead}
use Rattle.rules.proofs.Laws.Meaning.Runs.{Grown, operand_grown}
use Rattle.rules.proofs.Laws.Output.FourTimes.{paths_length, head_length}
use Rattle.rules.proofs.Laws.Output.Counts.{Counts, operand_counts, HeadCounts, head_counts}
use Rattle.rows.specs.RowAt.{taken, as_index}
use Rattle.names.specs.Table.{Slot, slot_of, between, find_in}
use Rattle.names.specs.Stands.{count, Envs, Below}
use Rattle.names.proofs.Storey.{stands_length}
use Rattle.plan.specs.Views.{if_decl, if_ref, field_code}
use Rattle.plan.specs.Insertions.{Tables, Step, plan_ref_t, step_then, stops, plan_operands_t, declare_then, plan_decls_t, field_code_t, plan_insertions_t, with_used, plan_field_t}
use Rattle.plan.specs.declared.insertions.PlanState.{PlanState}
use Rattle.agree.specs.Tables.Sizes.{most}
use Rattle.agree.specs.Rows.At.{Is, At}
use Rattle.agree.specs.Rows.AtLaws.{at_left, at_right, at_head, at_tail, row_number_lem}
use Rattle.agree.specs.Tables.Slots.{inserted_slots, decl_slots, if_ok, operands_slots, head_slots}
use Rattle.agree.specs.Rows.ItemRows.{inside_rows, rest_rows, field_row, NoDecl, no_decl_rest, not_decl_lem}
use Rattle.agree.specs.Fit.Spaces.{SpacesDecls, SpaceOperand, SpacesOperands, SpacesHead}
use Rattle.agree.specs.Tables.SlotLaws.{inserted_fresh, decl_rows_length}
use Rattle.agree.specs.Tables.Earlier.{Knows, knows_append, knows_fresh, Timed}
use Rattle.agree.specs.StepsAB.PlanTables.{Tab, Declared, declare_is, plan_of, Went, StepIs, step_then_lem, step_on, step_map}
use Rattle.agree.specs.StepsAB.PlanOperands.{ref_is}

-- ---- rows that are passed over

-- is it neither a REF nor an OPEN?
abbrev is_other : Row → Bool
is_other (Field code builtin z) = true
is_other (Decl space name z) = true
is_other (Ref space at paths z) = false
is_other (Path name) = true
is_other (Outer space up at z) = true
is_other (Case name z) = true
is_other (Open kind name) = false
is_other Close = true
is_other (Export name) = true

-- are all of them such?
abbrev Others : List Row → Type 0
Others [] = Unit {0}
Others (r ∷ rs) = (is_other r ≡ true) × Others rs

-- such a row is passed over
other : {A : Type 0} (r : Row) (f : ℕ → Rattle.rows.specs.declared.row.Index.Index → ℕ → ℕ → A) (o a : A) → is_other r ≡ true → if_ref (taken (some r)) f o a ≡ a
unfolding taken if_ref
other (Field code builtin z) f o a e = refl
other (Decl space name z) f o a e = refl
other (Ref space at paths z) f o a e = false_not e
other (Path name) f o a e = refl
other (Outer space up at z) f o a e = refl
other (Case name z) f o a e = refl
other (Open kind name) f o a e = false_not e
other Close f o a e = refl
other (Export name) f o a e = refl

-- DECLs are such rows
others_decls : (ds : List Declaration) → Others (decl_rows ds)
unfolding decl_rows
others_decls [] = tt
others_decls (d ∷ ds) = (refl, others_decls ds)

-- and PATHs
others_paths : (ps : List ℕ) → Others (path_rows ps)
unfolding path_rows
others_paths [] = tt
others_paths (p ∷ ps) = (refl, others_paths ps)

-- and an EXPORT
others_export : (o : Option ℕ) → Others (export_rows o)
unfolding export_rows
others_export none = tt
others_export (some n) = (refl, tt)

-- two ways on that agree
then_same : (s : Step) (f g : List Slot → List ℕ → PlanState → Step) → ((ns : List Slot) (cs : List ℕ) (q : PlanState) → f ns cs q ≡ g ns cs q) → step_then s f stops ≡ step_then s g stops
unfolding step_then
then_same (Ok q & names & counts) f g h = h names counts q
then_same (Err why & names & counts) f g h = refl

module _ (field : List ℕ) (entered : List Slot) (scopes : List (List ℕ)) (at : ℕ) where
  -- such rows are passed over one by one
  pass : (rs : List Row) (i left left' : ℕ) (names : List Slot) (counts : List ℕ) (q : PlanState) → Others rs → At field i rs → left' ≡ length rs + left → plan_operands_t field entered names scopes counts q at i left' ≡ plan_operands_t field entered names scopes counts q at (i + length rs) left
  unfolding At plan_operands_t
  pass [] i left left' names counts q o a e = let k : left' ≡ left = omega arith in rw (k, add-zero i)
  pass (r ∷ rs) i left left' names counts q o a e =
      let k : left' ≡ suc (length rs + left) = omega arith in
      let m : i + suc (length rs) ≡ i + 1 + length rs = omega arith in
      rw (k, m) (rw a.0.reads (other r _ _ _ o.0 ∙ pass rs (i + 1) left (length rs + left) names counts q o.1 a.1 refl))

  -- what an operand does to the tables
  step_of : Operand → (row : ℕ) → List Slot → List ℕ → PlanState → Step
  step_of (ref space ix ps z) row names counts q = plan_ref_t entered names scopes counts q (record { space = space; at = as_index ix; paths = length ps; z = z; row = row })
  step_of (outer space up ix z) row names counts q = Ok q & names & counts
  step_of (case name z) row names counts q = Ok q & names & counts

  -- one operand, and then on behind its rows
  turn : (o : Operand) (i left left' : ℕ) (names : List Slot) (counts : List ℕ) (q : PlanState) → At field i (operand_row o) → left' ≡ length (operand_row o) + left → at + i < 4294967296 → plan_operands_t field entered names scopes counts q at i left' ≡ step_then (step_of o (at + i) names counts q) (λ ns cs q'. plan_operands_t field entered ns scopes cs q' at (i + length (operand_row o)) left) stops
  unfolding At operand_row step_of step_then plan_operands_t if_ref taken
  turn (ref space ix ps z) i left left' names counts q a e b =
      let rs = path_rows ps in
      let k : left' ≡ suc (length rs + left) = omega arith in
      let m : i + suc (length rs) ≡ i + 1 + length rs = omega arith in
      rw (k, m)
      (rw (a.0.reads, row_number_lem at i b)
      (then_same (plan_ref_t entered names scopes counts q (record { space = space; at = as_index ix; paths = length ps; z = z; row = at + i })) _ _ (λ ns cs q'. pass rs (i + 1) left (length rs + left) ns cs q' (others_paths ps) a.1 refl)))
  turn (outer space up ix z) i left left' names counts q a e b =
      let k : left' ≡ suc left = omega arith in
      rw k (rw a.0.reads refl)
  turn (case name z) i left left' names counts q a e b =
      let k : left' ≡ suc left = omega arith in
      rw k (rw a.0.reads refl)

  -- at an OPEN, or at the end, the operands are done
  at_open : (it : Item) (i left : ℕ) (names : List Slot) (counts : List ℕ) (q : PlanState) → At field i (inside_rows it) → left ≡ length (inside_rows it) → plan_operands_t field entered names scopes counts q at i left ≡ (Ok q & names & counts)
  unfolding At inside_rows flatten
  at_open (plain h) i left names counts q a e = unfold plan_operands_t in rw e
  at_open (holds h (scope kind name fs)) i zero names counts q a e = absurd (omega arith)
  at_open (holds h (scope kind name fs)) i (suc left) names counts q a e = unfold plan_operands_t if_ref taken in rw a.0.reads refl

  -- behind the operands nothing more is done
  operands_end : (it : Item) (x : Option ℕ) (i left : ℕ) (names : List Slot) (counts : List ℕ) (q : PlanState) → At field i (export_rows x ++ inside_rows it) → left ≡ length (export_rows x ++ inside_rows it) → plan_operands_t field entered names scopes counts q at i left ≡ (Ok q & names & counts)
  operands_end it x i left names counts q a e =
      let l = length-append (export_rows x) (inside_rows it) in
      pass (export_rows x) i (length (inside_rows it)) left names counts q (others_export x) (at_left field i (export_rows x) (inside_rows it) a) (omega arith)
      ∙ at_open it (i + length (export_rows x)) (length (inside_rows it)) names counts q (at_right field i (export_rows x) (inside_rows it) a) refl

-- the declarations of two lists of fields
heads_append : (xs ys : List Head) → heads_decls (xs ++ ys) ≡ heads_decls xs ++ heads_decls ys
unfolding heads_decls
heads_append [] ys = refl
heads_append (x ∷ xs) ys = rw (heads_append xs ys, append_assoc)

-- ---- the operands of a field

module _ (room first : ℕ) (names₀ : List Slot) (n depth far : ℕ) (early : Bool) (fits : room ≤ most) (here : List Declaration) (outside : Outside) (entered : List Slot) (scopes : List (List ℕ)) (known : (space name : ℕ) → is_some (find_in (between 0 n entered) space name) ≡ is_just (find here space name)) (timed : Timed outside.early early names₀ scopes far depth outside.scopes) (envs : Envs names₀ scopes depth outside.scopes) (below : Below first scopes depth) (shallow : depth ≤ most) (field : List ℕ) (at : ℕ) where
  abbrev P : (used k : ℕ) → PlanState
  P used k = plan_of room first names₀ n depth far early at used k

  -- one operand
  step_is : (o : Operand) (row k : ℕ) (before : List Declaration) (slots : List Slot) (used : ℕ) (names : List Slot) (counts : List ℕ) → Tab room first names₀ before slots used names counts → (early ≡ true → Knows slots outside.before.decls) → (early ≡ true → LowOperand o) → SpaceOperand o → used + length (operand_row o) ≤ room → k + length (operand_row o) ≤ most → StepIs room first names₀ n depth far early (λ e. before ++ heads_decls e.inserted) (λ e. slots ++ inserted_slots before row e.inserted) (λ e. e.k) at (expand_operand here outside k o) (step_of field entered scopes at o row names counts (P used k))
  unfolding step_of operand_row
  step_is (ref space ix ps z) row k before slots used names counts tab knows low l u h =
      let q = paths_length ps in
      ref_is room first names₀ n depth far early fits here outside entered scopes known timed envs below shallow row at before slots used names counts tab knows k space ix ps z low l (omega arith) (omega arith)
  step_is (outer space up ix z) row k before slots used names counts tab knows low l u h =
      unfold expand_operand as_it_is heads_decls inserted_slots in
      record { used = used; names = names; counts = counts; answer = refl; tab = rw (append-nil before, append-nil slots) tab }
  step_is (case name z) row k before slots used names counts tab knows low l u h =
      unfold expand_operand as_it_is heads_decls inserted_slots in
      record { used = used; names = names; counts = counts; answer = refl; tab = rw (append-nil before, append-nil slots) tab }

  -- the slots of an operand and of the others
  slots_more : (o : Operand) (os : List Operand) (before : List Declaration) (k row : ℕ) (e : Expanded Operand) → expand_operand here outside k o ≡ ok e → operands_slots here outside before k row (o ∷ os) ≡ inserted_slots before row e.inserted ++ operands_slots here outside (before ++ heads_decls e.inserted) e.k (row + length (operand_row o)) os
  unfolding operands_slots if_ok
  slots_more o os before k row e q = rw q

  -- what is inserted has fresh names
  knows_on : (o : Operand) (k row : ℕ) (before : List Declaration) (slots : List Slot) (e : Expanded Operand) → expand_operand here outside k o ≡ ok e → Knows slots outside.before.decls → Knows (slots ++ inserted_slots before row e.inserted) outside.before.decls
  knows_on o k row before slots e q knows =
      let g : Grown k e = holds_of (Grown k) (expand_operand here outside k o) e (operand_grown here outside k o) q in
      rw append-nil at (knows_append slots (inserted_slots before row e.inserted) outside.before.decls [] knows (knows_fresh (inserted_slots before row e.inserted) (inserted_fresh before row k e.k e.inserted g.1)))

  -- what the operands come to, where the rules say this
  abbrev OperandsIs : (os : List Operand) (row k : ℕ) (before : List Declaration) (slots : List Slot) → Result (Expanded (List Operand)) → Step → Type 0
  OperandsIs os row k before slots m o = StepIs room first names₀ n depth far early (λ e. before ++ heads_decls e.inserted) (λ e. slots ++ operands_slots here outside before k row os) (λ e. e.k) at m o

  module _ (it : Item) (x : Option ℕ) where
    -- operands and what stands behind them
    abbrev Behind : List Operand → List Row
    Behind os = operand_rows os ++ (export_rows x ++ inside_rows it)

    -- no operand
    operands_none : (i left row k : ℕ) (before : List Declaration) (slots : List Slot) (used : ℕ) (names : List Slot) (counts : List ℕ) → Tab room first names₀ before slots used names counts → At field i (Behind []) → left ≡ length (Behind []) → OperandsIs [] row k before slots (expand_operands here outside k []) (plan_operands_t field entered names scopes counts (P used k) at i left)
    unfolding operand_rows expand_operands as_it_is heads_decls operands_slots
    operands_none i left row k before slots used names counts tab a e =
        record { used = used; names = names; counts = counts; answer = operands_end field entered scopes at it x i left names counts (P used k) a e; tab = rw (append-nil before, append-nil slots) tab }

    -- one operand, and then the others as given
    operands_more : (o : Operand) (os : List Operand) (i left row k : ℕ) (before : List Declaration) (slots : List Slot) (used : ℕ) (names : List Slot) (counts : List ℕ) → Tab room first names₀ before slots used names counts → (early ≡ true → Knows slots outside.before.decls) → (early ≡ true → LowOperand o) → SpaceOperand o → row ≡ at + i → at + i < 4294967296 → first + length before + length (operand_rows (o ∷ os)) ≤ room → k + length (operand_rows (o ∷ os)) ≤ most → At field i (Behind (o ∷ os)) → left ≡ length (Behind (o ∷ os)) → ((e : Expanded Operand) → expand_operand here outside k o ≡ ok e → Counts k (length (operand_row o)) e → (used' : ℕ) (names' : List Slot) (counts' : List ℕ) → Tab room first names₀ (before ++ heads_decls e.inserted) (slots ++ inserted_slots before row e.inserted) used' names' counts' → OperandsIs os (row + length (operand_row o)) e.k (before ++ heads_decls e.inserted) (slots ++ inserted_slots before row e.inserted) (expand_operands here outside e.k os) (plan_operands_t field entered names' scopes counts' (P used' e.k) at (i + length (operand_row o)) (length (Behind os)))) → OperandsIs (o ∷ os) row k before slots (expand_operands here outside k (o ∷ os)) (plan_operands_t field entered names scopes counts (P used k) at i left)
    unfolding expand_operands operand_rows
    operands_more o os i left row k before slots used names counts tab knows low l r w b h a e f =
        let a' : At field i (operand_row o ++ Behind os) = rw append_assoc at a in
        let s = stands_length [] slots before tab.stands in
        let m = length-append (operand_row o) (operand_rows os) in
        let m' = length-append (operand_row o) (Behind os) in
        let e' : left ≡ length (operand_row o) + length (Behind os) = e ∙ ap length (append_assoc (operand_row o) (operand_rows os) (export_rows x ++ inside_rows it)) ∙ m' in
        rw (turn field entered scopes at o i (length (Behind os)) left names counts (P used k) (at_left field i (operand_row o) (Behind os) a') e' w, ← r)
        (step_then_lem room first names₀ n depth far early _ _ _ at _ _ _ at (expand_operand here outside k o) _ _ _
        (step_is o row k before slots used names counts tab knows low l (omega (arith, tab.next)) (omega arith))
        (λ d q used' names' counts' tab'.
        step_map room first names₀ n depth far early _ _ _ _ _ _ at (expand_operands here outside d.k os) _ _
        (λ es. rw (heads_append d.inserted es.inserted) (sym (append_assoc before (heads_decls d.inserted) (heads_decls es.inserted))))
        (λ es. rw (slots_more o os before k row d q) (sym (append_assoc slots (inserted_slots before row d.inserted) _)))
        (λ es. refl)
        (f d q (holds_of (Counts k (length (operand_row o))) (expand_operand here outside k o) d (operand_counts here outside k o) q) used' names' counts' tab')))

    -- all operands of a field
    operands_are : (os : List Operand) (i left row k : ℕ) (before : List Declaration) (slots : List Slot) (used : ℕ) (names : List Slot) (counts : List ℕ) → Tab room first names₀ before slots used names counts → (early ≡ true → Knows slots outside.before.decls) → (early ≡ true → LowOperands os) → SpacesOperands os → row ≡ at + i → at + i + length (operand_rows os) < 4294967296 → first + length before + length (operand_rows os) ≤ room → k + length (operand_rows os) ≤ most → At field i (Behind os) → left ≡ length (Behind os) → OperandsIs os row k before slots (expand_operands here outside k os) (plan_operands_t field entered names scopes counts (P used k) at i left)
    operands_are [] i left row k before slots used names counts tab knows low l r w b h a e = operands_none i left row k before slots used names counts tab a e
    operands_are (o ∷ os) i left row k before slots used names counts tab knows low l r w b h a e =
        operands_more o os i left row k before slots used names counts tab knows (λ t. (low t).0) l.0 r (omega arith) b h a e
        (λ d g c used' names' counts' tab'.
        let m : length (operand_rows (o ∷ os)) ≡ length (operand_row o) + length (operand_rows os) = unfold operand_rows in length-append (operand_row o) (operand_rows os) in
        let q = length-append before (heads_decls d.inserted) in
        operands_are os (i + length (operand_row o)) (length (Behind os)) (row + length (operand_row o)) d.k (before ++ heads_decls d.inserted) (slots ++ inserted_slots before row d.inserted) used' names' counts' tab' (λ t. knows_on o k row before slots d g (knows t)) (λ t. (low t).1) l.1 (omega arith) (omega arith) (omega (arith, c.1)) (omega (arith, c.0)) (behind o os i a) refl)
      where
        behind : (o : Operand) (os : List Operand) (i : ℕ) → At field i (Behind (o ∷ os)) → At field (i + length (operand_row o)) (Behind os)
        behind o os i a = unfold operand_rows in at_right field i (operand_row o) (Behind os) (rw (append_assoc (operand_row o) (operand_rows os) (export_rows x ++ inside_rows it)) at a)

  -- ---- what a field inserts

  -- what a field inserts, where the rules say this
  abbrev HeadIs : (k : ℕ) (before : List Declaration) (slots : List Slot) (h : Head) → Result (Expanded Head) → Step → Type 0
  HeadIs k before slots h m o = StepIs room first names₀ n depth far early (λ e. before ++ heads_decls e.inserted) (λ e. slots ++ head_slots here outside before k at h) (λ e. e.k) at m o

  module _ (it : Item) (k : ℕ) (before : List Declaration) (slots : List Slot) (used : ℕ) (names : List Slot) (counts : List ℕ) (tab : Tab room first names₀ before slots used names counts) (knows : early ≡ true → Knows slots outside.before.decls) (low_names : early ≡ true → LowHead (head_of it)) (legal : SpacesHead (head_of it)) (low : at + length (head_rows (head_of it)) < 4294967296) (room_left : first + length before + length (head_rows (head_of it)) ≤ room) (numbers-left : k + length (head_rows (head_of it)) ≤ most) (stands : At field 0 (field_row (head_of it) ∷ (decl_rows (head_of it).decls ++ rest_rows it))) (size : length field / 16 ≡ suc (length (decl_rows (head_of it).decls ++ rest_rows it))) where
    -- the code of the field is read from its first row
    field_code_lem : field_code_t field ≡ (head_of it).code
    unfolding field_code_t field_code taken
    field_code_lem = rw (at_head field 0 _ _ stands).reads

    -- the operands, past the DECLs
    insert_operands : StepIs room first names₀ n depth far early (λ e. before ++ heads_decls e.inserted) (λ e. slots ++ operands_slots here outside before k (at + 1 + length (head_of it).decls) (head_of it).operands) (λ e. e.k) at (expand_operands here outside k (head_of it).operands) (plan_operands_t field entered names scopes counts (P used k) at 1 (length field / 16 - 1))
    unfolding rest_rows
    insert_operands =
        let ds = (head_of it).decls in
        let rest = rest_rows it in
        let t : At field 1 (decl_rows ds ++ rest) = at_tail field 0 _ _ stands in
        let l = length-append (decl_rows ds) rest in
        let d = decl_rows_length ds in
        let g = head_length (head_of it) in
        let o = length-append (operand_rows (head_of it).operands) (export_rows (head_of it).export ++ inside_rows it) in
        let q : length field / 16 - 1 ≡ length (decl_rows ds) + length rest = omega arith in
        rw (pass field entered scopes at (decl_rows ds) 1 (length rest) (length field / 16 - 1) names counts (P used k) (others_decls ds) (at_left field 1 (decl_rows ds) rest t) q)
        (operands_are it (head_of it).export (head_of it).operands (1 + length (decl_rows ds)) (length rest) (at + 1 + length ds) k before slots used names counts tab knows (λ t. (low_names t).operands) legal.operands (omega arith) (omega arith) (omega arith) (omega arith) (at_right field 1 (decl_rows ds) rest t) refl)

    -- all that a field inserts
    insertions_are : HeadIs k before slots (head_of it) (expand_head here outside k (head_of it)) (plan_insertions_t field entered names scopes counts (P used k))
    unfolding plan_insertions_t expand_head head_slots
    insertions_are = rw field_code_lem (go (here_only (head_of it).code))
      where
        go : (t : Bool) → StepIs room first names₀ n depth far early (λ e. before ++ heads_decls e.inserted) (λ e. slots ++ (when t then [] else operands_slots here outside before k (at + 1 + length (head_of it).decls) (head_of it).operands)) (λ e. e.k) at (when t then ok (as_it_is (head_of it) k) else (expand_operands here outside k (head_of it).operands >>= λ e. ok (record { inserted = e.inserted; rows = e.rows; now = with_operands (head_of it) e.now; k = e.k }))) (pick t (Ok (P used k) & names & counts) (plan_operands_t field entered names scopes counts (P used k) at 1 (length field / 16 - 1)))
        go true =
            unfold when◌then◌else◌ pick as_it_is heads_decls in
            record { used = used; names = names; counts = counts; answer = refl; tab = rw (append-nil before, append-nil slots) tab }
        go false = unfold when◌then◌else◌ pick in step_map room first names₀ n depth far early _ _ _ _ _ _ at (expand_operands here outside k (head_of it).operands) _ _ (λ e. refl) (λ e. refl) (λ e. refl) insert_operands

-- ---- the DECLs of a field

module _ (room first : ℕ) (names₀ : List Slot) (fits : room ≤ most) (field : List ℕ) (at : ℕ) where
  -- where no DECL stands the DECLs are done
  decls_end : (i left : ℕ) (rest : List Row) (names : List Slot) (counts : List ℕ) (used : ℕ) → left ≡ length rest → NoDecl rest → At field i rest → plan_decls_t field names counts at used i left ≡ (used & names & counts)
  unfolding plan_decls_t At
  decls_end i zero rest names counts used l m a = refl
  decls_end i (suc left) [] names counts used l m a = absurd (omega arith)
  decls_end i (suc left) (r ∷ rest) names counts used l m a = rw a.0.reads (not_decl_lem r _ _ m)

  -- no DECL
  decls_none : (i left row : ℕ) (rest : List Row) (before : List Declaration) (slots : List Slot) (used : ℕ) (names : List Slot) (counts : List ℕ) → Tab room first names₀ before slots used names counts → NoDecl rest → At field i rest → left ≡ length rest → Declared room first names₀ (before ++ []) (slots ++ decl_slots before row []) (plan_decls_t field names counts at used i left)
  unfolding decl_slots
  decls_none i left row rest before slots used names counts tab m a l = record { used = used; names = names; counts = counts; answer = decls_end i left rest names counts used l m a; tab = rw (append-nil before, append-nil slots) tab }

  -- one DECL, and then the others as given
  decls_more : (d : Declaration) (ds : List Declaration) (i left row : ℕ) (before : List Declaration) (slots : List Slot) (used : ℕ) (names : List Slot) (counts : List ℕ) → Tab room first names₀ before slots used names counts → d.space < 13 → used < room → row ≡ at + i → at + i < 4294967296 → Is field i (Decl d.space d.name d.z) → ((slots' : List Slot) (used' : ℕ) (names' : List Slot) (counts' : List ℕ) → Tab room first names₀ (before ++ (d ∷ [])) slots' used' names' counts' → Declared room first names₀ ((before ++ (d ∷ [])) ++ ds) (slots' ++ decl_slots (before ++ (d ∷ [])) (row + 1) ds) (plan_decls_t field names' counts' at used' (i + 1) left)) → Declared room first names₀ (before ++ (d ∷ ds)) (slots ++ decl_slots before row (d ∷ ds)) (plan_decls_t field names counts at used i (suc left))
  unfolding decl_slots plan_decls_t if_decl taken declare_then
  decls_more d ds i left row before slots used names counts tab l u r w a f =
      let slot : Slot = slot_of d.space d.name (count d.space before) row 0 0 in
      let g = declare_is room first names₀ before slots used names counts tab d l row 0 0 u fits in
      let v = f (slots ++ (slot ∷ [])) g.used g.names g.counts g.tab in
      record {
        used = v.used;
        names = v.names;
        counts = v.counts;
        answer = rw (a.reads, row_number_lem at i w, ← r, g.answer) v.answer;
        tab = rw (snoc_append before d ds, snoc_append slots slot (decl_slots (before ++ (d ∷ [])) (row + 1) ds)) at v.tab;
      }

  -- all DECLs of a field
  decls_are : (ds : List Declaration) (i left row : ℕ) (rest : List Row) (before : List Declaration) (slots : List Slot) (used : ℕ) (names : List Slot) (counts : List ℕ) → Tab room first names₀ before slots used names counts → SpacesDecls ds → first + length before + length ds ≤ room → row ≡ at + i → at + i + length ds < 4294967296 → NoDecl rest → At field i (decl_rows ds ++ rest) → left ≡ length (decl_rows ds ++ rest) → Declared room first names₀ (before ++ ds) (slots ++ decl_slots before row ds) (plan_decls_t field names counts at used i left)
  unfolding decl_rows At
  decls_are [] i left row rest before slots used names counts tab l b r w m a e = decls_none i left row rest before slots used names counts tab m a e
  decls_are (d ∷ ds) i zero row rest before slots used names counts tab l b r w m a e = absurd (omega arith)
  decls_are (d ∷ ds) i (suc left) row rest before slots used names counts tab l b r w m a e =
      let s = stands_length [] slots before tab.stands in
      let q = length_snoc before d in
      decls_more d ds i left row before slots used names counts tab l.0 (omega (arith, tab.next)) r (omega arith) a.0
      (λ slots' used' names' counts' tab'. decls_are ds (i + 1) left (row + 1) rest (before ++ (d ∷ [])) slots' used' names' counts' tab' l.1 (omega arith) (omega arith) (omega arith) m a.1 (omega arith))

-- DECLs that were entered: the step is done
declared_went : (room first : ℕ) (names₀ : List Slot) (n depth far : ℕ) (early : Bool) (k at used : ℕ) (before : List Declaration) (slots : List Slot) (o : Out ℕ Tables) → Declared room first names₀ before slots o → Went room first names₀ n depth far early before slots k at (declare_then o λ ns cs u. Ok (with_used (plan_of room first names₀ n depth far early at used k) u) & ns & cs)
unfolding declare_then
declared_went room first names₀ n depth far early k at used before slots o r = record { used = r.used; names = r.names; counts = r.counts; answer = rw r.answer; tab = r.tab }

-- ---- one field

module _ (room first : ℕ) (names₀ : List Slot) (n depth far : ℕ) (early : Bool) (fits : room ≤ most) (here : List Declaration) (outside : Outside) (entered : List Slot) (scopes : List (List ℕ)) (known : (space name : ℕ) → is_some (find_in (between 0 n entered) space name) ≡ is_just (find here space name)) (timed : Timed outside.early early names₀ scopes far depth outside.scopes) (envs : Envs names₀ scopes depth outside.scopes) (below : Below first scopes depth) (shallow : depth ≤ most) (field : List ℕ) (at : ℕ) (it : Item) (k : ℕ) (before : List Declaration) (slots : List Slot) (used : ℕ) (names : List Slot) (counts : List ℕ) (tab : Tab room first names₀ before slots used names counts) (knows : early ≡ true → Knows slots outside.before.decls) (low_names : early ≡ true → LowHead (head_of it)) (legal : SpacesHead (head_of it)) (low : at + length (head_rows (head_of it)) < 4294967296) (room_left : first + length before + length (head_rows (head_of it)) ≤ room) (numbers-left : k + length (head_rows (head_of it)) ≤ most) (stands : At field 0 (field_row (head_of it) ∷ (decl_rows (head_of it).decls ++ rest_rows it))) (size : length field / 16 ≡ suc (length (decl_rows (head_of it).decls ++ rest_rows it))) where
  -- what is inserted, and then the DECLs
  pub field_is : StepIs room first names₀ n depth far early (λ e. (before ++ heads_decls e.inserted) ++ (head_of it).decls) (λ e. (slots ++ head_slots here outside before k at (head_of it)) ++ decl_slots (before ++ heads_decls e.inserted) (at + 1) (head_of it).decls) (λ e. e.k) at (expand_head here outside k (head_of it)) (plan_field_t field entered names scopes counts (plan_of room first names₀ n depth far early at used k))
  unfolding plan_field_t
  field_is =
      let ds = (head_of it).decls in
      let g = head_length (head_of it) in
      let dl = decl_rows_length ds in
      step_on room first names₀ n depth far early _ _ _ at _ _ at (expand_head here outside k (head_of it)) _ _
      (insertions_are room first names₀ n depth far early fits here outside entered scopes known timed envs below shallow field at it k before slots used names counts tab knows low_names legal low room_left numbers-left stands size)
      (λ e q used' names' counts' tab'.
      let c : HeadCounts here outside k (head_of it) e = holds_of (HeadCounts here outside k (head_of it)) (expand_head here outside k (head_of it)) e (head_counts here outside k (head_of it)) q in
      let l = length-append before (heads_decls e.inserted) in
      let r = decls_are room first names₀ fits field at ds 1 (length field / 16 - 1) (at + 1) (rest_rows it) (before ++ heads_decls e.inserted) (slots ++ head_slots here outside before k at (head_of it)) used' names' counts' tab' legal.decls (omega (arith, c.decls)) refl (omega arith) (no_decl_rest it) (at_tail field 0 _ _ stands) (omega arith) in
      declared_went room first names₀ n depth far early e.k at used' _ _ _ r)
