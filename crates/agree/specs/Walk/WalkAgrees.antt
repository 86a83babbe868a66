-- The whole walk: on the rows of a scope the code does what the rules say of the scope. The induction is over the tree.
use Rattle.std.specs.Prelude.{◌≡◌, true, List, [], ◌∷◌, ◌++◌, map, set, take, Result as CodeResult}
use Rattle.std.proofs.Math.Path.{refl}
use Rattle.std.proofs.Common.{sym, ap, ◌∙◌, arith, length-set, take-take, get_or-set_same}
use Prim.Native.Nat.{ℕ, zero, suc, ◌+◌, ◌/◌, ◌≤◌, ◌<◌}
use Rattle.std.proofs.Math.ListN.{length}
use Rattle.kit.specs.Out.{Out, ◌&◌}
use Rattle.rules.specs.Versions.{RuleSet}
use Rattle.rules.specs.Rows.{Open, Close}
use Rattle.rules.specs.Tree.{Scope, scope, Fields, end, ◌▸◌, Item, plain, holds, flatten, fields_rows}
use Rattle.rules.specs.Good.{GoodFields, height, heights}
use Rattle.rules.specs.Rules.{decls_in, table_of, Outside, opened, Result, refused, ok, ◌>>=◌, Env, declarations, distinct, expand_fields, prepare, resolve_scope, resolve_fields}
use Rattle.rules.specs.Laws.Results.{ok_same, bind_inv, holds_of}
use Rattle.rules.specs.Laws.Meaning.Names.{LowFields, DeclFields}
use Rattle.rules.proofs.Laws.Meaning.Runs.{prepared}
use Rattle.rules.proofs.Laws.Output.Counts.{own, deep, rows_split, scope_split, prepare_counts}
use Rattle.rows.specs.RowAt.{taken}
use Rattle.names.specs.Table.{Slot, row_of, between, no_scope, scope_of, past_of, innermost_t}
use Rattle.names.specs.Stands.{Stands, entry_rows}
use Rattle.names.proofs.Storey.{envs_kept, below_more, envs_push, below_push}
use Rattle.plan.specs.Enter.{row_number}
use Rattle.write.specs.declared.alias.WriteState.{WriteState}
use Rattle.write.specs.WriteState.{begun_t, put_then}
use Rattle.walk.specs.Scopes.{begin_scope_t, open_name, fields_walk_t, inside_t, scoped_t, scope_walk_t}
use Rattle.agree.specs.Tables.Sizes.{Sizes, Fits}
use Rattle.agree.specs.Rows.At.{At, put_all}
use Rattle.agree.specs.Rows.AtLaws.{at_head, at_tail, at_behind, row_number_lem}
use Rattle.form.specs.Ends.{Ends, EndsIn}
use Rattle.agree.specs.Tables.Slots.{fields_slots}
use Rattle.agree.specs.Tables.SlotLaws.{slots_length}
use Rattle.agree.specs.StepsAB.BeginAgrees.{BeginDone, BeginIs, begin_agrees}
use Rattle.agree.specs.StepC.WriteAgrees.{put_then_lem, put_one_lem, row_copied}
use Rattle.agree.specs.Tables.Cursor.{Left}
use Rattle.agree.specs.Tables.Earlier.{Earlier, earlier_kept, earlier_push}
use Rattle.agree.specs.Refusals.Answers.{Says, says_map, says_also}
use Rattle.agree.specs.StepC.HeadAgrees.{innermost_is}
use Rattle.agree.specs.Tables.SlotRows.{slot_rows}
use Rattle.agree.specs.Walk.WalkStates.{Ready, Gone, ScopeGoes, FieldsGo, ItemGoes}
use Rattle.agree.specs.Walk.ItemAgrees.{item_plain, item_holds}
use Rattle.agree.specs.Walk.FieldsAgrees.{fields_end, fields_from}
use Rattle.plan.specs.declared.insertions.PlanState.{PlanState}
use Rattle.refusal.specs.declared.Refused.{Refused}

-- what agrees on the first n agrees on the first m of them
take_less : {A : Type 0} (m n : ℕ) (xs ys : List A) → m ≤ n → take n xs ≡ take n ys → take m xs ≡ take m ys
take_less m n xs ys h e = sym (take-take m n xs h) ∙ ap (take m) e ∙ take-take m n ys h

-- step C sees the scope by its name
prepared_name : (name : ℕ) (fs : Fields) (outside : Outside) (k : ℕ) (p : Env × ℕ) → prepare name fs outside k ≡ ok p → p.0.name ≡ name
unfolding prepare
prepared_name name fs outside k p q =
    let b₁ = bind_inv (distinct [] (declarations fs)) _ p q in
    let b₂ = bind_inv (expand_fields b₁.0 outside k fs) _ p b₁.2 in
    ap (λ (e : Env × ℕ). e.0.name) (sym (ok_same _ p b₂.2))

-- step C of a scope that steps A and B accept
unfoldable fields_say : (kind name : ℕ) (fs : Fields) (outside : Outside) (k : ℕ) → Env × ℕ → Result (Scope × ℕ)
fields_say kind name fs outside k p = resolve_fields fs (declarations fs) p.0 outside k p.1 >>= λ r. ok (scope kind name r.0, r.1)

module _ (rules : RuleSet) (heap : rules.heap < 13) (sizes : Sizes) (rows ends : List ℕ) (short : Fits sizes rows) where
  -- the fields of a scope that steps A and B accept
  inside : (kind name : ℕ) (fs : Fields) → FieldsGo rules sizes rows ends fs → (allowed k : ℕ) (outside : Outside) (entered names : List Slot) (scopes : List (List ℕ)) (out : List ℕ) (s : WriteState) (p : Env × ℕ) (o : Out (CodeResult PlanState Refused) (Out (List Slot) (List Slot)))
      → outside.early ≡ s.early → outside.before.decls ≡ [] → outside.before.row ≡ s.at + 1 → heights fs ≤ allowed → At rows s.at (Open kind name ∷ (fields_rows fs ++ (Close ∷ []))) → Ends fs ends (s.at + 1) → GoodFields rules fs kind → DeclFields fs → (s.early ≡ true → LowFields fs)
      → Ready sizes entered names scopes s outside.scopes (suc (heights fs)) (2 + (own fs + deep fs)) k → prepare name fs outside k ≡ ok p
      → (B : BeginDone sizes s.used names (fields_slots (declarations fs) outside [] k (s.at + 1) fs) (table_of p.0) p.1 o) (to : ℕ) (out' : List ℕ) → put_all out s.to (Open kind name ∷ []) ≡ (to & out')
      → Says (resolve_fields fs (declarations fs) p.0 outside k p.1) (λ r w. Gone sizes s names out (s.at + (2 + length (fields_rows fs))) r.1 (Open kind name ∷ (fields_rows r.0 ++ (Close ∷ []))) w × (r.1 ≤ p.1 + deep fs))
      (fields_walk_t rows ends (scope_walk_t rows ends allowed) B.entered B.names (set scopes s.depth (scope_of name s.used B.plan.used s.before)) out' (inside_t rows ends s B.plan to) (s.depth + 1) (length rows / 16))
  inside kind name fs goes allowed k outside entered names scopes out s p o same starts at_row h at en good low low_names ready pq B to out' e =
      let there = at_behind rows (s.at + 1) (fields_rows fs) Close (at_tail rows s.at _ _ at) in
      let q : row_number s.at 1 ≡ s.at + 1 = row_number_lem s.at 1 (omega arith) in
      let scopes' = set scopes s.depth (scope_of name s.used B.plan.used s.before) in
      let deep-left = ready.deep in
      let slots-left = ready.slots in
      let numbers-left = ready.numbers in
      let depths = ready.depths in
      let last = B.used in
      let size = B.size in
      let sl = slots_length (declarations fs) outside [] k (s.at + 1) fs in
      let counts = holds_of _ _ p (prepare_counts name fs outside k) pq in
      let few = counts.1 in
      let x = prepared name fs outside k p pq in
      let t = inside_t rows ends s B.plan to in
      let one : s.depth + 1 ≡ suc s.depth = omega arith in
      let innermost : innermost_t scopes' (s.depth + 1) ≡ scope_of name s.used B.plan.used s.before = rw one (innermost_is scopes' s.depth ∙ get_or-set_same scopes s.depth (scope_of name s.used B.plan.used s.before) no_scope (omega arith)) in
      let l : Left B.names (past_of (innermost_t scopes' (s.depth + 1))) s.used (fields_slots (declarations fs) outside [] k t.at fs) = rw (innermost, q) (record { are = B.holds; room = omega arith }) in
      let kept = envs_kept s.used names B.names (sym B.kept) scopes s.depth outside.scopes (omega arith) ready.below ready.envs in
      let stands : Stands [] _ (table_of p.0) = rw (← B.holds) at B.stands in
      let rows_are : map row_of (between s.used B.plan.used B.names) ≡ entry_rows p.0.entries = rw (B.holds, x.2) (slot_rows (declarations fs) outside [] k (s.at + 1) fs x.0 x.1 at_row) in
      let pushed = envs_push scopes s.depth name s.used B.plan.used s.before (omega arith) B.names p.0.entries outside.before.decls outside.scopes (omega arith) (omega arith) stands rows_are kept in
      let env : ◌≡◌ {A = Env} (record { name = name; entries = p.0.entries; before = outside.before.decls }) (record { name = p.0.name; entries = p.0.entries; before = outside.before.decls }) = ap (λ (n : ℕ). record { name = n; entries = p.0.entries; before = outside.before.decls }) (sym (prepared_name name fs outside k p pq)) in
      let below = below_push scopes s.depth name s.used B.plan.used s.before (omega arith) B.plan.used (omega arith) (below_more s.used B.plan.used scopes s.depth (omega arith) ready.below) in
      let earlier' : s.early ≡ true → Earlier B.names scopes' s.used (s.depth + 1) (opened p.0 outside) =
      λ t. rw (one, starts)
      (earlier_push B.names scopes s.depth name s.used B.plan.used s.before p.0.entries outside.scopes (omega arith) (omega arith)
      (earlier_kept s.used names B.names (sym B.kept) scopes s.before s.depth outside.scopes ready.below (ready.earlier t)) p.0.name) in
      let ready' : Ready sizes B.entered B.names scopes' (begun_t t (s.depth + 1)) (opened p.0 outside) (heights fs) (deep fs) p.1 =
      record { room = B.room; size = size; depths = simp length-set depths; envs = rw one (rw env at pushed); below = rw one below; deep = omega arith; slots = omega arith; numbers = omega arith; fresh = B.fresh; earlier = earlier' } in
      says_also (resolve_fields fs (declarations fs) p.0 outside k p.1) _ _ _
      (goes allowed kind k p.1 (declarations fs) p.0 outside [] x.0 B.entered B.names scopes' out' t (s.depth + 1) (length rows / 16) same (rw q at_row) h (rw q (at_tail rows s.at _ _ at)) (rw q en) good low low_names x.1 (ap decls_in x.2) tt l ready' (omega arith))
      (λ r G.
      let arrived = G.0.arrived in (
        record {
          state = G.0.state;
          entered' = G.0.entered';
          names' = G.0.names';
          after = G.0.after;
          is = G.0.is;
          arrived = omega arith;
          fresh = G.0.fresh;
          wrote = G.0.wrote ∙ sym (put_then_lem out s.to (Open kind name ∷ []) (fields_rows r.0 ++ (Close ∷ [])) to out' (sym e));
          room = G.0.room;
          size = G.0.size;
          kept = take_less s.used B.plan.used G.0.names' B.names (omega arith) G.0.kept ∙ B.kept;
        },
        G.1,
      ))

  -- a scope, by what steps A and B make of it
  scope_turn : (kind name : ℕ) (fs : Fields) → FieldsGo rules sizes rows ends fs → (allowed k : ℕ) (outside : Outside) (entered names : List Slot) (scopes : List (List ℕ)) (out : List ℕ) (s : WriteState) (m : Result (Env × ℕ)) (o : Out (CodeResult PlanState Refused) (Out (List Slot) (List Slot)))
      → outside.early ≡ s.early → outside.before.decls ≡ [] → outside.before.row ≡ s.at + 1 → heights fs ≤ allowed → At rows s.at (Open kind name ∷ (fields_rows fs ++ (Close ∷ []))) → Ends fs ends (s.at + 1) → GoodFields rules fs kind → DeclFields fs → (s.early ≡ true → LowFields fs)
      → Ready sizes entered names scopes s outside.scopes (suc (heights fs)) (2 + (own fs + deep fs)) k → prepare name fs outside k ≡ m
      → BeginIs sizes s.used names (fields_slots (declarations fs) outside [] k (s.at + 1) fs) m o
      → Says (m >>= fields_say kind name fs outside k)
      (λ r w. Gone sizes s names out (s.at + (2 + length (fields_rows fs))) r.1 (flatten r.0) w × (r.1 ≤ k + (2 + (own fs + deep fs)))) (scoped_t rows ends (scope_walk_t rows ends allowed) o scopes out s)
  unfolding ◌>>=◌ scoped_t put_then open_name taken flatten
  scope_turn kind name fs goes allowed k outside entered names scopes out s (refused n z) o same starts at_row h at en good low low_names ready pq B = rw B.answer (B.entered & B.names & out, refl)
  scope_turn kind name fs goes allowed k outside entered names scopes out s (ok p) o same starts at_row h at en good low low_names ready pq B =
      let is = at_head rows s.at _ _ at in
      rw (B.answer, is.reads, row_copied rows s.at (Open kind name) out s.to is, ← put_one_lem out s.to (Open kind name)) (go (put_all out s.to (Open kind name ∷ [])) refl)
    where
      go : (w : Out ℕ (List ℕ)) → put_all out s.to (Open kind name ∷ []) ≡ w
          → Says (fields_say kind name fs outside k p)
          (λ r w. Gone sizes s names out (s.at + (2 + length (fields_rows fs))) r.1 (flatten r.0) w × (r.1 ≤ k + (2 + (own fs + deep fs))))
          (put_then w λ to out'. fields_walk_t rows ends (scope_walk_t rows ends allowed) B.entered B.names (set scopes s.depth (scope_of name s.used B.plan.used s.before)) out' (inside_t rows ends s B.plan to) (s.depth + 1) (length rows / 16))
      go (to & out') e =
          unfold put_then flatten fields_say in says_map (resolve_fields fs (declarations fs) p.0 outside k p.1) (λ r. (scope kind name r.0, r.1)) _ _ _
          (inside kind name fs goes allowed k outside entered names scopes out s p o same starts at_row h at en good low low_names ready pq B to out' e)
          (λ r G. (G.0, omega (arith, G.1, (holds_of _ _ p (prepare_counts name fs outside k) pq).1)))

  -- a scope, from its fields
  scope_from : (kind name : ℕ) (fs : Fields) → FieldsGo rules sizes rows ends fs → ScopeGoes rules sizes rows ends (scope kind name fs)
  unfolding resolve_scope scope_walk_t flatten height EndsIn fields_say
  scope_from kind name fs goes zero k outside entered names scopes out s same starts at_row h at en good low low_names ready = absurd (omega arith)
  scope_from kind name fs goes (suc allowed) k outside entered names scopes out s same starts at_row h at en good low low_names ready =
      let split = scope_split kind name fs in
      let r' : Ready sizes entered names scopes s outside.scopes (suc (heights fs)) (2 + (own fs + deep fs)) k = rw split at ready in
      let slots-left = r'.slots in
      let numbers-left = r'.numbers in
      let deep-left = r'.deep in
      rw split
      (rw (rows_split fs) at
      (scope_turn kind name fs goes allowed k outside entered names scopes out s (prepare name fs outside k) (begin_scope_t rows ends entered names scopes s) same starts at_row (omega arith) at en good low (λ t. (low_names t).1) r' refl
      (begin_agrees rules heap sizes rows ends name kind k fs outside entered names scopes s short (at_tail rows s.at _ _ at) en good (record { same = same; around = r'.earlier }) starts (λ t. (low_names t).1) r'.envs r'.below (omega arith) r'.room r'.size (omega arith) (omega arith) r'.fresh)))

  mutual
    -- on the rows of a scope the code does what the rules say of it
    pub scope_goes : (t : Scope) → ScopeGoes rules sizes rows ends t
    scope_goes (scope kind name fs) = scope_from kind name fs (fields_go fs)

    fields_go : (fs : Fields) → FieldsGo rules sizes rows ends fs
    fields_go end = fields_end rules heap sizes rows ends short
    fields_go (i ▸ fs) = fields_from rules heap sizes rows ends short i fs (item_goes i) (fields_go fs)

    item_goes : (i : Item) → ItemGoes rules sizes rows ends i
    item_goes (plain h) = item_plain rules heap sizes rows ends short h
    item_goes (holds h t) = item_holds rules heap sizes rows ends short h t (scope_goes t)
