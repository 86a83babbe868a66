-- Renamed rows are read as the renamed tree, or refused at the same row: row by row, with the state that the reading has reached.
use Rattle.std.specs.Prelude.{◌≡◌, Bool, true, false, ◌&&◌, ◌||◌, not, eqb, leb, length}
use Rattle.std.proofs.Math.Path.{refl, ap, ap₂}
use Rattle.std.proofs.Common.{sym, ◌∙◌}
use Rattle.std.proofs.Math.Option
use Rattle.std.proofs.Math.Option.{Option, none, some}
use mathlib.Core.List.{List, [], ◌∷◌, ◌++◌, map}
use Prim.Native.Nat.{ℕ, zero, suc, ◌-◌}
use Rattle.std.proofs.lemmas.List.{length-map}
use Rattle.rules.specs.Tools.{when◌then◌else◌, only, ◌then◌}
use Rattle.rules.specs.Versions.{RuleSet}
use Rattle.rules.specs.Rows.{Index, Row, Field, Decl, Ref, Path, Outer, Case, Open, Close, Export}
use Rattle.rules.specs.Tree.{Declaration, Operand, ref, outer, case, Head, Scope, scope, Fields, end, ◌▸◌, Item, plain, holds, with_operands, RowsRead, bad, deep, form}
use Rattle.rules.specs.Shapes.{Want, Part, declares, parts, declared, is_empty, opens, first_name, enough, next}
use Rattle.rules.specs.Reader
use Rattle.rules.specs.Reader.{Stage, declaring, wanting, pathing, exported, Current, between_fields, within, Around, root, inside, State, start, state, Next, wrong, on, whole, ◌◂◌, wanted, settled, up_to, step, run, read}
use Rattle.renaming.specs.Renaming.{renamed_index, renamed_row}
use Rattle.renaming.proofs.Laws.Trees.{ren_decl, ren_operand, ren_head, ren_scope, ren_fields, ren_item, if_ren, map-append, Faithful, eqb_ren}

-- ---- where a reading stands

module _ (f : ℕ → ℕ) where
  abbrev ren_stage : Stage → Stage
  ren_stage declaring = declaring
  ren_stage (wanting ps) = wanting ps
  ren_stage (pathing space at paths z left ps) = pathing space (renamed_index f at) paths z left ps
  ren_stage exported = exported

  abbrev ren_current : Current → Current
  ren_current between_fields = between_fields
  ren_current (within h stage) = within (ren_head f h) (ren_stage stage)

  abbrev ren_around : Around → Around
  ren_around root = root
  ren_around (inside kind name before holder a) = inside kind (f name) (ren_fields f before) (ren_head f holder) (ren_around a)

  abbrev ren_state : State → State
  ren_state start = start
  ren_state (state a kind name before c) = state (ren_around a) kind (f name) (ren_fields f before) (ren_current c)

  abbrev ren_next : Next → Next
  ren_next wrong = wrong
  ren_next (on s) = on (ren_state s)
  ren_next (whole t) = whole (ren_scope f t)

  abbrev pub ren_reading : RowsRead → RowsRead
  ren_reading (bad p) = bad p
  ren_reading (deep p) = deep p
  ren_reading (form s) = form (ren_scope f s)

-- ---- choices

only_ren : {A B : Type 0} (g : A → B) (b : Bool) (x : A) → only b (g x) ≡ Option.map g (only b x)
unfolding only
only_ren g true x = refl
only_ren g false x = refl

then_ren : {A B C : Type 0} (g : B → C) (o : Option A) (k : A → Option B) (k' : A → Option C) → ((a : A) → k' a ≡ Option.map g (k a)) → (o then k') ≡ Option.map g (o then k)
unfolding ◌then◌
then_ren g none k k' p = refl
then_ren g (some a) k k' p = p a

-- ---- one row

module _ (f : ℕ → ℕ) (w : Faithful f) where
  snoc_ren : (fs : Fields) (i : Item) → ren_fields f fs ◂ ren_item f i ≡ ren_fields f (fs ◂ i)
  unfolding ◌◂◌
  snoc_ren end i = refl
  snoc_ren (x ▸ fs) i = ap (λ (r : Fields). ren_item f x ▸ r) (snoc_ren fs i)

  depth_ren : (a : Around) → Reader.depth (ren_around f a) ≡ Reader.depth a
  unfolding Reader.depth
  depth_ren root = refl
  depth_ren (inside kind name before holder a) = ap suc (depth_ren a)

  open_ren : (s : State) → Reader.open_here (ren_state f s) ≡ Reader.open_here s
  unfolding Reader.open_here
  open_ren start = refl
  open_ren (state a kind name before c) = depth_ren a

  parts_ren : (rules : RuleSet) (code builtin : ℕ) (ds : List Declaration) → parts rules code builtin (map (ren_decl f) ds) ≡ parts rules code builtin ds
  unfolding parts declared is_empty
  parts_ren rules code builtin [] = refl
  parts_ren rules code builtin (d ∷ ds) = refl

  first_eq : (n : ℕ) (ds : List Declaration) → eqb (f n) (first_name (map (ren_decl f) ds)) ≡ eqb n (first_name ds)
  unfolding first_name
  first_eq n [] = rw w.none_stays at (eqb_ren f w n 0)
  first_eq n (d ∷ ds) = eqb_ren f w n d.name

  more_ren : (h : Head) (o : Operand) → Reader.more (ren_head f h) (ren_operand f o) ≡ ren_head f (Reader.more h o)
  unfolding Reader.more with_operands
  more_ren h o = rw (map-append (ren_operand f) h.operands (o ∷ []))

  pathed_ren : (h : Head) (space : ℕ) (at : Index) (paths : List ℕ) (z left : ℕ) (ps : List Part)
      → Reader.pathed (ren_head f h) space (renamed_index f at) paths z left ps ≡ ren_current f (Reader.pathed h space at paths z left ps)
  unfolding Reader.pathed
  pathed_ren h space at paths z zero ps = rw (more_ren h (ref space at paths z))
  pathed_ren h space at paths z (suc left) ps = refl

  declaration_ren : (h : Head) (stage : Stage) (d : Declaration)
      → Reader.declaration (ren_head f h) (ren_stage f stage) (ren_decl f d) ≡ Option.map (ren_current f) (Reader.declaration h stage d)
  unfolding Reader.declaration Reader.with_decl
  declaration_ren h declaring d =
      rw (length-map h.decls (ren_decl f), ← map-append (ren_decl f) h.decls (d ∷ [])) (only_ren (ren_current f) _ _)
  declaration_ren h (wanting ps) d = refl
  declaration_ren h (pathing space at paths z left ps) d = refl
  declaration_ren h exported d = refl

  path_ren : (h : Head) (stage : Stage) (n : ℕ) → Reader.path (ren_head f h) (ren_stage f stage) n ≡ Option.map (ren_current f) (Reader.path h stage n)
  unfolding Reader.path
  path_ren h declaring n = refl
  path_ren h (wanting ps) n = refl
  path_ren h (pathing space at paths z zero ps) n = refl
  path_ren h (pathing space at paths z (suc left) ps) n = ap some (pathed_ren h space at (paths ++ (n ∷ [])) z left ps)
  path_ren h exported n = refl

  stays_ren : (a : Around) (kind name : ℕ) (before : Fields) (c : Option Current)
      → Reader.stays (ren_around f a) kind (f name) (ren_fields f before) (Option.map (ren_current f) c) ≡ ren_next f (Reader.stays a kind name before c)
  unfolding Reader.stays
  stays_ren a kind name before none = refl
  stays_ren a kind name before (some c) = refl

  -- a row of the current field
  row_ren : (a : Around) (kind name : ℕ) (before : Fields) (c : Current) (k k' : Head → Stage → Option Current)
      → ((h : Head) (stage : Stage) → k' (ren_head f h) (ren_stage f stage) ≡ Option.map (ren_current f) (k h stage))
      → Reader.stays (ren_around f a) kind (f name) (ren_fields f before) (Reader.field_row (ren_current f c) k') ≡ ren_next f (Reader.stays a kind name before (Reader.field_row c k))
  unfolding Reader.field_row
  row_ren a kind name before between_fields k k' p = stays_ren a kind name before none
  row_ren a kind name before (within h stage) k k' p =
      ap (Reader.stays (ren_around f a) kind (f name) (ren_fields f before)) (p h stage) ∙ stays_ren a kind name before (k h stage)

  module _ (rules : RuleSet) where
    wanted_ren : (h : Head) (stage : Stage) → wanted rules (ren_head f h) (ren_stage f stage) ≡ wanted rules h stage
    unfolding wanted
    wanted_ren h declaring = rw (length-map h.decls (ren_decl f), parts_ren rules h.code h.builtin h.decls)
    wanted_ren h (wanting ps) = refl
    wanted_ren h (pathing space at paths z left ps) = refl
    wanted_ren h exported = refl

    exported_ren : (stage : Stage) → Reader.is_exported (ren_stage f stage) ≡ Reader.is_exported stage
    unfolding Reader.is_exported
    exported_ren declaring = refl
    exported_ren (wanting ps) = refl
    exported_ren (pathing space at paths z left ps) = refl
    exported_ren exported = refl

    settled_ren : (h : Head) (stage : Stage) → settled rules (ren_head f h) (ren_stage f stage) ≡ settled rules h stage
    unfolding settled
    settled_ren h stage = rw (wanted_ren h stage, exported_ren stage)

    up_to_ren : (before : Fields) (c : Current) → up_to rules (ren_fields f before) (ren_current f c) ≡ Option.map (ren_fields f) (up_to rules before c)
    unfolding up_to
    up_to_ren before between_fields = refl
    up_to_ren before (within h stage) = rw (settled_ren h stage, snoc_ren before (plain h)) (only_ren (ren_fields f) _ _)

    operand_ren : (h : Head) (stage : Stage) (fits : Want → Bool) (k k' : List Part → Current) → ((ps : List Part) → k' ps ≡ ren_current f (k ps))
        → Reader.operand rules (ren_head f h) (ren_stage f stage) fits k' ≡ Option.map (ren_current f) (Reader.operand rules h stage fits k)
    unfolding Reader.operand
    operand_ren h stage fits k k' p =
        rw (wanted_ren h stage)
        (then_ren (ren_current f) (wanted rules h stage) _ _ (λ ps. then_ren (ren_current f) (next fits ps) _ _ (λ ps'. ap some (p ps'))))

    exporting_ren : (h : Head) (stage : Stage) (n : ℕ) → Reader.exporting rules (ren_head f h) (ren_stage f stage) n ≡ Option.map (ren_current f) (Reader.exporting rules h stage n)
    unfolding Reader.exporting Reader.with_export
    exporting_ren h stage n = rw (wanted_ren h stage) (only_ren (ren_current f) _ _)

    starts_ren : (a : Around) (kind name code builtin z : ℕ) (o : Option Fields)
        → Reader.starts (ren_around f a) kind (f name) code builtin z (Option.map (ren_fields f) o) ≡ ren_next f (Reader.starts a kind name code builtin z o)
    unfolding Reader.starts Reader.new_head
    starts_ren a kind name code builtin z none = refl
    starts_ren a kind name code builtin z (some fs) = if_ren (ren_next f) _ _ _ _ _ refl refl

    closes_ren : (a : Around) (kind name : ℕ) (o : Option Fields)
        → Reader.closes (ren_around f a) kind (f name) (Option.map (ren_fields f) o) ≡ ren_next f (Reader.closes a kind name o)
    unfolding Reader.closes
    closes_ren a kind name none = refl
    closes_ren root kind name (some fs) = refl
    closes_ren (inside kind' name' before holder a) kind name (some fs) = rw (snoc_ren before (holds holder (scope kind name fs)))

    opened_ren : (a : Around) (kind name : ℕ) (before : Fields) (kind' name' : ℕ) (c : Current)
        → Reader.opened rules (ren_around f a) kind (f name) (ren_fields f before) kind' (f name') (ren_current f c) ≡ ren_next f (Reader.opened rules a kind name before kind' name' c)
    unfolding Reader.opened
    opened_ren a kind name before kind' name' between_fields = refl
    opened_ren a kind name before kind' name' (within h stage) =
        rw (settled_ren h stage, first_eq name' h.decls) (if_ren (ren_next f) _ _ _ _ _ refl refl)

    first_row_ren : (row : Row) → Reader.first_row (renamed_row f row) ≡ ren_next f (Reader.first_row row)
    unfolding Reader.first_row renamed_row
    first_row_ren (Field code builtin z) = refl
    first_row_ren (Decl space n z) = refl
    first_row_ren (Ref space at paths z) = refl
    first_row_ren (Path n) = refl
    first_row_ren (Outer space up at z) = refl
    first_row_ren (Case n z) = refl
    first_row_ren (Open kind name) = if_ren (ren_next f) _ _ _ _ _ refl refl
    first_row_ren Close = refl
    first_row_ren (Export n) = refl

    step_ren : (s : State) (row : Row) → step rules (ren_state f s) (renamed_row f row) ≡ ren_next f (step rules s row)
    unfolding step renamed_row
    step_ren start row = first_row_ren row
    step_ren (state a kind name before c) (Field code builtin z) =
        ap (Reader.starts (ren_around f a) kind (f name) code builtin z) (up_to_ren before c) ∙ starts_ren a kind name code builtin z (up_to rules before c)
    step_ren (state a kind name before c) (Decl space n z) =
        row_ren a kind name before c _ _ (λ h stage. declaration_ren h stage (record { space = space; name = n; z = z }))
    step_ren (state a kind name before c) (Ref space at paths z) =
        row_ren a kind name before c _ _ (λ h stage. operand_ren h stage _ _ _ (λ ps. pathed_ren h space at [] z paths ps))
    step_ren (state a kind name before c) (Path n) = row_ren a kind name before c _ _ (λ h stage. path_ren h stage n)
    step_ren (state a kind name before c) (Outer space up at z) =
        row_ren a kind name before c _ _ (λ h stage. operand_ren h stage _ _ _ (λ ps. ap (λ (x : Head). within x (wanting ps)) (more_ren h (outer space up at z))))
    step_ren (state a kind name before c) (Case n z) =
        row_ren a kind name before c _ _ (λ h stage. operand_ren h stage _ _ _ (λ ps. ap (λ (x : Head). within x (wanting ps)) (more_ren h (case n z))))
    step_ren (state a kind name before c) (Export n) = row_ren a kind name before c _ _ (λ h stage. exporting_ren h stage n)
    step_ren (state a kind name before c) (Open kind' name') = opened_ren a kind name before kind' name' c
    step_ren (state a kind name before c) Close =
        ap (Reader.closes (ren_around f a) kind (f name)) (up_to_ren before c) ∙ closes_ren a kind name (up_to rules before c)

    -- ---- all rows

    abbrev Q : List (Option Row) → List (Option Row)
    Q rows = map (Option.map (renamed_row f)) rows

    ended_ren : (rows : List (Option Row)) (t : Scope) → Reader.ended (Q rows) (ren_scope f t) ≡ ren_reading f (Reader.ended rows t)
    unfolding Reader.ended
    ended_ren [] t = refl
    ended_ren (row ∷ rows) t = ap (λ (n : ℕ). bad (suc n)) (length-map rows (Option.map (renamed_row f)))

    proceed_ren : (scopes : ℕ) (n : Next) (rows : List (Option Row)) (go go' : State → RowsRead) → ((s : State) → go' (ren_state f s) ≡ ren_reading f (go s))
        → Reader.proceed scopes (ren_next f n) (Q rows) go' ≡ ren_reading f (Reader.proceed scopes n rows go)
    unfolding Reader.proceed
    proceed_ren scopes wrong rows go go' p = ap (λ (n : ℕ). bad (suc n)) (length-map rows (Option.map (renamed_row f)))
    proceed_ren scopes (on s) rows go go' p =
        rw (open_ren s) (if_ren (ren_reading f) _ _ _ _ _ (p s) (ap (λ (n : ℕ). deep (suc n)) (length-map rows (Option.map (renamed_row f)))))
    proceed_ren scopes (whole t) rows go go' p = ended_ren rows t

    run_ren : (scopes : ℕ) (rows : List (Option Row)) (s : State) → run rules scopes (Q rows) (ren_state f s) ≡ ren_reading f (run rules scopes rows s)
    unfolding run
    run_ren scopes [] s = refl
    run_ren scopes (none ∷ rows) s = ap (λ (n : ℕ). bad (suc n)) (length-map rows (Option.map (renamed_row f)))
    run_ren scopes (some row ∷ rows) s =
        ap (λ (n : Next). Reader.proceed scopes n (Q rows) (λ s'. run rules scopes (Q rows) s')) (step_ren s row)
        ∙ proceed_ren scopes (step rules s row) rows (λ s'. run rules scopes rows s') (λ s'. run rules scopes (Q rows) s') (λ s'. run_ren scopes rows s')

    counted_ren : (total : ℕ) (r : RowsRead) → Reader.counted total (ren_reading f r) ≡ ren_reading f (Reader.counted total r)
    unfolding Reader.counted
    counted_ren total (bad p) = refl
    counted_ren total (deep p) = refl
    counted_ren total (form s) = refl

    -- Whatever the rows are: the same refusal at the same row, or the renamed tree.
    pub read_ren : (scopes : ℕ) (rows : List (Option Row)) → read rules scopes (Q rows) ≡ ren_reading f (read rules scopes rows)
    unfolding read
    read_ren scopes rows =
        ap₂ Reader.counted (length-map rows (Option.map (renamed_row f))) (run_ren scopes rows start) ∙ counted_ren (length rows) (run rules scopes rows start)
