-- A well-formed tree is read back from its rows, whatever its depth.
use Rattle.std.specs.Prelude.{◌≡◌, ℕ, length}
use Rattle.std.proofs.Math.Path.{refl}
use Rattle.std.proofs.Common.{ap, ◌∙◌}
use Rattle.std.proofs.Math.Bool.{true}
use Rattle.std.proofs.Math.Option.{Option, none, some}
use mathlib.Core.List.{List, [], ◌∷◌, ◌++◌, append-nil}
use Rattle.std.proofs.Math.Dec.{eqb}
use Rattle.rules.specs.Tools.{when◌then◌else◌, only, ◌then◌, is_just}
use Rattle.rules.specs.Versions.{RuleSet}
use Rattle.rules.specs.Rows.{Index, Row, Open, Close}
use Rattle.rules.specs.Tree.{Declaration, Operand, ref, outer, case, Head, Scope, scope, Fields, end, ◌▸◌, Item, plain, holds, decl_rows, path_rows, operand_row, operand_rows, export_rows, head_rows, flatten, fields_rows, item_rows, with_operands}
use Rattle.rules.specs.Shapes.{Part, declares, parts, opens, exports, complete, enough, first_name}
use Rattle.rules.specs.Good.{MayDeclare, after_operand, after_operands, GoodHead, kind_of, name_of, GoodScope, GoodFields, GoodItem}
use Rattle.rules.specs.Reader
use Rattle.rules.specs.Reader.{Stage, declaring, wanting, exported, Current, between_fields, within, Around, root, inside, State, start, state, on, whole, ◌◂◌, wanted, settled, up_to, step}
use Rattle.rules.specs.Laws.ToolLaws.{eqb_same, then_some, length_snoc, snoc_append}
use Rattle.rules.specs.Laws.Read.Steps.{after, after_append, Runs, runs_nil, runs_cons, runs_append}

abbrev mk : (code builtin z : ℕ) → List Declaration → List Operand → Option ℕ → Head
mk code builtin z ds os ex = record { code = code; builtin = builtin; z = z; decls = ds; operands = os; export = ex }

-- ---- a field's rows

module _ (rules : RuleSet) (a : Around) (kind name : ℕ) (before : Fields) (code builtin z : ℕ) where
  abbrev here : List Declaration → List Operand → Option ℕ → Stage → State
  here ds os ex stage = state a kind name before (within (mk code builtin z ds os ex) stage)

  decls_run : (ds₀ ds : List Declaration) → MayDeclare (declares code) (length ds₀) ds
      → Runs rules (decl_rows ds) (here ds₀ [] none declaring) (here (ds₀ ++ ds) [] none declaring)
  unfolding decl_rows step Reader.stays Reader.field_row Reader.declaration Reader.with_decl only
  decls_run ds₀ [] g = rw append-nil (runs_nil rules)
  decls_run ds₀ (d ∷ ds) g =
      runs_cons rules (rw g.0) (rw snoc_append at (decls_run (ds₀ ++ (d ∷ [])) ds (rw length_snoc g.1)))

  paths_run : (ds : List Declaration) (os : List Operand) (space : ℕ) (at : Index) (ps₀ ps : List ℕ) (z' : ℕ) (left : List Part)
      → Runs rules (path_rows ps) (state a kind name before (Reader.pathed (mk code builtin z ds os none) space at ps₀ z' (length ps) left))
      (here ds (os ++ (ref space at (ps₀ ++ ps) z' ∷ [])) none (wanting left))
  unfolding path_rows step Reader.stays Reader.field_row Reader.path Reader.pathed Reader.more with_operands
  paths_run ds os space at ps₀ [] z' left = rw append-nil (runs_nil rules)
  paths_run ds os space at ps₀ (p ∷ ps) z' left =
      runs_cons rules refl (rw snoc_append at (paths_run ds os space at (ps₀ ++ (p ∷ [])) ps z' left))

  -- the field has taken these operands and is where it wants `ps`
  record Took (ds : List Declaration) (os : List Operand) (ex : Option ℕ) (ps : List Part) (rows : List Row) (from : State) : Type 0 where
    stage : Stage
    wants : wanted rules (mk code builtin z ds os ex) stage ≡ some ps
    runs : Runs rules rows from (here ds os ex stage)

  operand_run : (ds : List Declaration) (os : List Operand) (o : Operand) (stage : Stage) (ps ps' : List Part)
      → wanted rules (mk code builtin z ds os none) stage ≡ some ps → after_operand ps o ≡ some ps'
      → Took ds (os ++ (o ∷ [])) none ps' (operand_row o) (here ds os none stage)
  unfolding after_operand operand_row step Reader.stays Reader.field_row Reader.operand Reader.more with_operands wanted ◌then◌
  operand_run ds os (ref space at paths z') stage ps ps' w e =
      record { stage = wanting ps'; wants = refl; runs = runs_cons rules (rw (w, e)) (paths_run ds os space at [] paths z' ps') }
  operand_run ds os (outer space up at z') stage ps ps' w e =
      record { stage = wanting ps'; wants = refl; runs = runs_cons rules (rw (w, e)) (runs_nil rules) }
  operand_run ds os (case n z') stage ps ps' w e =
      record { stage = wanting ps'; wants = refl; runs = runs_cons rules (rw (w, e)) (runs_nil rules) }

  operands_run : (ds : List Declaration) (os₀ os : List Operand) (stage : Stage) (ps ps' : List Part)
      → wanted rules (mk code builtin z ds os₀ none) stage ≡ some ps → after_operands ps os ≡ some ps'
      → Took ds (os₀ ++ os) none ps' (operand_rows os) (here ds os₀ none stage)
  unfolding after_operands operand_rows
  operands_run ds os₀ [] stage ps ps' w e = rw append-nil (record { stage = stage; wants = w ∙ e; runs = runs_nil rules })
  operands_run ds os₀ (o ∷ os) stage ps ps' w e =
      let m = then_some (after_operand ps o) (λ q. after_operands q os) ps' e in
      let one = operand_run ds os₀ o stage ps m.0 w m.1 in
      let more = operands_run ds (os₀ ++ (o ∷ [])) os one.stage m.0 ps' one.wants m.2 in
      rw (← snoc_append) (record { stage = more.stage; wants = more.wants; runs = runs_append rules one.runs more.runs })

  -- the field may end
  record Done (ds : List Declaration) (os : List Operand) (ex : Option ℕ) (rows : List Row) (from : State) : Type 0 where
    stage : Stage
    done : settled rules (mk code builtin z ds os ex) stage ≡ true
    runs : Runs rules rows from (here ds os ex stage)

  export_run : (ds : List Declaration) (os : List Operand) (ex : Option ℕ) (stage : Stage) (ps : List Part)
      → wanted rules (mk code builtin z ds os none) stage ≡ some ps → complete ps ≡ true → exports code ≡ is_just ex
      → Done ds os ex (export_rows ex) (here ds os none stage)
  unfolding export_rows step Reader.stays Reader.field_row Reader.exporting Reader.with_export Reader.is_complete settled Reader.is_exported wanted only
  export_run ds os none stage ps w e x = record { stage = stage; done = rw (w, e, x); runs = runs_nil rules }
  export_run ds os (some n) stage ps w e x = record { stage = exported; done = refl; runs = runs_cons rules (rw (w, e, x)) (runs_nil rules) }

  body_run : (ds : List Declaration) (os : List Operand) (ex : Option ℕ) (left : List Part)
      → MayDeclare (declares code) 0 ds → enough (declares code) (length ds) ≡ true
      → after_operands (parts rules code builtin ds) os ≡ some left → complete left ≡ true → exports code ≡ is_just ex
      → Done ds os ex (decl_rows ds ++ (operand_rows os ++ export_rows ex)) (here [] [] none declaring)
  unfolding wanted only
  body_run ds os ex left g n u e x =
      let d = decls_run [] ds g in
      let o = operands_run ds [] os declaring (parts rules code builtin ds) left (rw n) u in
      let x = export_run ds os ex o.stage left o.wants e x in
      record { stage = x.stage; done = x.done; runs = runs_append rules d (runs_append rules o.runs x.runs) }

-- ---- fields and scopes

infixl 66 ◌⊕◌
◌⊕◌ : Fields → Fields → Fields
end ⊕ gs = gs
(f ▸ fs) ⊕ gs = f ▸ (fs ⊕ gs)

snoc_plus : (fs : Fields) (i : Item) (gs : Fields) → (fs ◂ i) ⊕ gs ≡ fs ⊕ (i ▸ gs)
unfolding ◌⊕◌ ◌◂◌
snoc_plus end i gs = refl
snoc_plus (f ▸ fs) i gs = ap (λ (r : Fields). f ▸ r) (snoc_plus fs i gs)

plus_end : (fs : Fields) → fs ⊕ end ≡ fs
unfolding ◌⊕◌
plus_end end = refl
plus_end (f ▸ fs) = ap (λ (r : Fields). f ▸ r) (plus_end fs)

module _ (rules : RuleSet) where
  -- the field `h` is read, and may end
  record ReadHead (a : Around) (kind name : ℕ) (before : Fields) (h : Head) (from : State) : Type 0 where
    stage : Stage
    done : settled rules h stage ≡ true
    runs : Runs rules (head_rows h) from (state a kind name before (within h stage))

  head_run : (a : Around) (kind name : ℕ) (before₀ before : Fields) (c : Current) (h : Head) → GoodHead rules kind h
      → up_to rules before₀ c ≡ some before → ReadHead a kind name before h (state a kind name before₀ c)
  unfolding head_rows step Reader.starts Reader.new_head when◌then◌else◌
  head_run a kind name before₀ before c h g u =
      let b = body_run rules a kind name before h.code h.builtin h.z h.decls h.operands h.export g.left g.declared g.enough_declared g.uses g.ends g.exporting in
      record { stage = b.stage; done = b.done; runs = runs_cons rules (rw (u, g.may, g.built)) b.runs }

  -- the item `i` is read: the fields so far are `done` and it
  record ReadItem (a : Around) (kind name : ℕ) (done : Fields) (i : Item) (from : State) : Type 0 where
    before : Fields
    now : Current
    ups : up_to rules before now ≡ some (done ◂ i)
    runs : Runs rules (item_rows i) from (state a kind name before now)

  -- the fields `fs` are read
  record ReadFields (a : Around) (kind name : ℕ) (all : Fields) (rows : List Row) (from : State) : Type 0 where
    before : Fields
    now : Current
    ups : up_to rules before now ≡ some all
    runs : Runs rules rows from (state a kind name before now)

  mutual
    unfolding flatten step up_to Reader.opened Reader.closes Reader.same_kind Reader.is_none ◌⊕◌ only when◌then◌else◌

    scope_run : (s : Scope) (a : Around) (kind name : ℕ) (before : Fields) (h : Head) (stage : Stage)
        → GoodScope rules s → settled rules h stage ≡ true → opens h.code ≡ some (kind_of s) → name_of s ≡ first_name h.decls
        → Runs rules (flatten s) (state a kind name before (within h stage)) (state a kind name (before ◂ holds h s) between_fields)
    scope_run (scope kind' name' fs) a kind name before h stage g d o n =
        let r = fields_run fs (inside kind name before h a) kind' name' end end between_fields g refl in
        runs_cons rules (rw (d, o, ← n, eqb_same kind', eqb_same name'))
        (runs_append rules r.runs (runs_cons rules (rw r.ups) (runs_nil rules)))

    fields_run : (fs : Fields) (a : Around) (kind name : ℕ) (before done : Fields) (c : Current)
        → GoodFields rules fs kind → up_to rules before c ≡ some done
        → ReadFields a kind name (done ⊕ fs) (fields_rows fs) (state a kind name before c)
    fields_run end a kind name before done c g u =
        record { before = before; now = c; ups = rw plus_end u; runs = runs_nil rules }
    fields_run (i ▸ fs) a kind name before done c g u =
        let r = item_run i a kind name before done c g.0 u in
        let q = fields_run fs a kind name r.before (done ◂ i) r.now g.1 r.ups in
        record { before = q.before; now = q.now; ups = rw snoc_plus at q.ups; runs = runs_append rules r.runs q.runs }

    item_run : (i : Item) (a : Around) (kind name : ℕ) (before done : Fields) (c : Current)
        → GoodItem rules i kind → up_to rules before c ≡ some done
        → ReadItem a kind name done i (state a kind name before c)
    item_run (plain h) a kind name before done c g u =
        let r = head_run a kind name before done c h g.0 u in
        record { before = done; now = within h r.stage; ups = rw (r.done, g.1); runs = r.runs }
    item_run (holds h s) a kind name before done c g u =
        let r = head_run a kind name before done c h g.0 u in
        record {
          before = done ◂ holds h s;
          now = between_fields;
          ups = refl;
          runs = runs_append rules r.runs (scope_run s a kind name done h r.stage g.3 r.done g.1 g.2);
        }

  -- the rows of a well-formed tree lead to that tree
  pub read_back : (s : Scope) → kind_of s ≡ 0 → GoodScope rules s → after rules (on start) (flatten s) ≡ whole s
  unfolding after step flatten Reader.first_row Reader.closes up_to ◌⊕◌ when◌then◌else◌
  read_back (scope kind name fs) k g =
      let r = fields_run fs root kind name end end between_fields g refl in
      let zero-kind : eqb kind 0 ≡ true = rw k in
      let runs : Runs rules (Open kind name ∷ fields_rows fs) start (state root kind name r.before r.now) = runs_cons rules (rw zero-kind) r.runs in
      let closed : after rules (on (state root kind name r.before r.now)) (Close ∷ []) ≡ whole (scope kind name fs) = rw r.ups in
      after_append rules (on start) (Open kind name ∷ fields_rows fs) (Close ∷ []) ∙ rw runs.go closed
