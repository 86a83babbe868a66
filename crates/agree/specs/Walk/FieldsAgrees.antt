-- The fields of a scope, one after another, up to its CLOSE.
use Rattle.std.specs.Prelude.{◌≡◌, Bool, eqb, Ok}
use Rattle.std.proofs.Math.Path.{refl, sym, ap}
use Rattle.std.proofs.Common.{◌∙◌, length-append}
use Rattle.std.proofs.Math.Bool.{true, false}
use mathlib.Core.List.{List, [], ◌∷◌, ◌++◌, append_assoc}
use native.Mathlib.Omega.{arith}
use Prim.Native.Nat.{ℕ, zero, suc, ◌+◌, ◌≤◌, ◌<◌}
use Rattle.std.proofs.Math.ListN.{length}
use Rattle.kit.specs.Pick.{pick}
use Rattle.kit.specs.Out.{Out, ◌&◌}
use Rattle.rules.specs.Tools.{when◌then◌else◌}
use Rattle.rules.specs.Versions.{RuleSet}
use Rattle.rules.specs.Rows.{Close}
use Rattle.rules.specs.Tree.{Declaration, Head, Fields, end, ◌▸◌, Item, head_of, flatten, fields_rows, item_rows}
use Rattle.rules.specs.Shapes.{here_only}
use Rattle.rules.specs.Good.{GoodFields, height_item, heights}
use Rattle.rules.specs.Rules
use Rattle.rules.specs.Rules.{Entry, decls_in, table_of, Outside, onward, opened, Result, refused, ok, ◌>>=◌, Env, fresh, Expanded, as_it_is, expand_head, expand_fields, heads_decls, resolve_inserted, resolve_head, resolve_scope, resolve_fields, resolve_item}
use Rattle.rules.specs.Laws.Results.{ok_same, bind_inv, holds_of}
use Rattle.rules.specs.Laws.Entries.{field_decls}
use Rattle.rules.specs.Laws.Meaning.Names.{LowDecls, LowFields, DeclFields}
use Rattle.rules.proofs.Laws.Meaning.Runs.{head_grown}
use Rattle.rules.proofs.Laws.Output.FourTimes.{inner, item_size, fields_size}
use Rattle.rules.proofs.Laws.Output.Counts.{deep}
use Rattle.rows.specs.RowAt.{code_at}
use Rattle.names.specs.Table.{Slot, past_of, scope_at, innermost_t}
use Rattle.names.specs.Stands.{Envs, Below}
use Rattle.names.proofs.Storey.{between_kept, envs_kept}
use Rattle.plan.specs.Enter.{row_number}
use Rattle.write.specs.declared.alias.WriteState.{WriteState}
use Rattle.write.specs.WriteState.{begun_t, put_then}
use Rattle.walk.specs.Scopes.{Wrote₃, wrote_then₃, field_walk_t, closed_t, ended_t, fields_walk_t, scope_walk_t}
use Rattle.agree.specs.Tables.Sizes.{Sizes, Fits}
use Rattle.agree.specs.Rows.At.{Is, At, put_all}
use Rattle.agree.specs.Rows.AtLaws.{at_left, at_right, at_head, row_number_lem, code_is}
use Rattle.form.specs.Ends.{Ends}
use Rattle.agree.specs.Rows.ItemRows.{item_rows_lem, some_rows}
use Rattle.agree.specs.Tables.Slots.{if_ok, decl_slots, operands_slots, head_slots, fields_slots}
use Rattle.agree.specs.Tables.SlotLaws.{head_fresh, decl_length}
use Rattle.agree.specs.Tables.Earlier.{knows_append, knows_fresh, knows_decls, Earlier, earlier_kept, come_onward}
use Rattle.agree.specs.Fit.GoodSpaces.{good_spaces}
use Rattle.agree.specs.StepC.WriteAgrees.{heads_rows, put_then_lem, put_one_lem, row_copied}
use Rattle.agree.specs.Tables.Cursor.{Left, left_past, Under, under_append, fields_apart}
use Rattle.agree.specs.Refusals.Answers.{Says, says_map}
use Rattle.agree.specs.StepC.AliasAgrees.{grown_under}
use Rattle.agree.specs.StepC.HeadAgrees.{head_says, head_made, here_made, slots_inserted, innermost_is}
use Rattle.agree.specs.Walk.WalkStates.{Ready, Gone, FieldGone, says_then₃, item_says, ItemGoes, FieldsGo}

-- ---- what the rules say of the fields

fields_made : (here : List Declaration) (outside : Outside) (b : ℕ) (i : Item) (fs : Fields) (X : List Entry × ℕ) → expand_fields here outside b (i ▸ fs) ≡ ok X
    → (e : Expanded Head) × (r : List Entry × ℕ) × (expand_head here outside b (head_of i) ≡ ok e) × (expand_fields here (onward i outside) e.k fs ≡ ok r) × (decls_in X.0 ≡ heads_decls e.inserted ++ ((head_of i).decls ++ decls_in r.0))
unfolding expand_fields
fields_made here outside b i fs X q =
    let c₁ = bind_inv (expand_head here outside b (head_of i)) _ X q in
    let c₂ = bind_inv (expand_fields here (onward i outside) c₁.0.k fs) _ X c₁.2 in
    (c₁.0, c₂.0, c₁.1, c₂.1, ap (λ (x : List Entry × ℕ). decls_in x.0) (sym (ok_same _ X c₂.2)) ∙ field_decls _ _ c₁.0.inserted c₁.0.rows (head_of i).decls c₂.0.0)

-- the field and what was inserted before it, and then the others
unfoldable later_says : (fs : Fields) (here₀ : List Declaration) (env : Env) (outside : Outside) (b : ℕ) → List Head × (Item × ℕ) → Result (Fields × ℕ)
later_says fs here₀ env outside b x = resolve_fields fs here₀ env outside b x.1.1 >>= λ rs. ok (Rules.◌before◌ x.0 (x.1.0 ▸ rs.0), rs.1)

fields_says : (i : Item) (fs : Fields) (here₀ : List Declaration) (env : Env) (outside : Outside) (b k : ℕ) (e : Expanded Head) → expand_head here₀ outside b (head_of i) ≡ ok e
    → resolve_fields (i ▸ fs) here₀ env outside b k ≡ (item_says i env outside k e >>= later_says fs here₀ env (onward i outside) e.k)
unfolding resolve_scope item_says head_says later_says ◌>>=◌
fields_says i fs here₀ env outside b k e q = rw q (go (resolve_inserted env outside e.inserted))
  where
    third : (new : List Head) (h : Head) (m : Result (Item × ℕ)) → ◌≡◌ {A = Result (Fields × ℕ)} (m >>= λ r. resolve_fields fs here₀ env (onward i outside) e.k r.1 >>= λ rs. ok (Rules.◌before◌ new (r.0 ▸ rs.0), rs.1))
        (◌>>=◌ {B = List Head × (Item × ℕ)} m (λ r. ok (new, r)) >>= later_says fs here₀ env (onward i outside) e.k)
    third new h (refused n z) = unfold ◌>>=◌ in refl
    third new h (ok r) = unfold ◌>>=◌ later_says in refl

    second : (new : List Head) (m : Result Head) → ◌≡◌ {A = Result (Fields × ℕ)} (m >>= λ h. resolve_item i h env outside k >>= λ r. resolve_fields fs here₀ env (onward i outside) e.k r.1 >>= λ rs. ok (Rules.◌before◌ new (r.0 ▸ rs.0), rs.1))
        (◌>>=◌ {B = List Head × (Item × ℕ)} (◌>>=◌ {B = List Head × Head} m (λ h'. ok (new, h'))) (λ p. resolve_item i p.1 env outside k >>= λ r. ok (p.0, r)) >>= later_says fs here₀ env (onward i outside) e.k)
    second new (refused n z) = unfold ◌>>=◌ in refl
    second new (ok h) = unfold ◌>>=◌ in third new h (resolve_item i h env outside k)

    go : (m : Result (List Head)) → ◌≡◌ {A = Result (Fields × ℕ)} (m >>= λ new. resolve_head env outside e.now >>= λ h. resolve_item i h env outside k >>= λ r. resolve_fields fs here₀ env (onward i outside) e.k r.1 >>= λ rs. ok (Rules.◌before◌ new (r.0 ▸ rs.0), rs.1))
        (◌>>=◌ {B = List Head × (Item × ℕ)} (◌>>=◌ {B = List Head × Head} m (λ new. resolve_head env outside e.now >>= λ h'. ok (new, h'))) (λ p. resolve_item i p.1 env outside k >>= λ r. ok (p.0, r)) >>= later_says fs here₀ env (onward i outside) e.k)
    go (refused n z) = unfold ◌>>=◌ in refl
    go (ok new) = unfold ◌>>=◌ in second new (resolve_head env outside e.now)

-- ---- small facts

before_rows : (hs : List Head) (i : Item) (fs : Fields) → fields_rows (Rules.◌before◌ hs (i ▸ fs)) ≡ heads_rows hs ++ (item_rows i ++ fields_rows fs)
unfolding Rules.◌before◌ flatten heads_rows
before_rows [] i fs = refl
before_rows (h ∷ hs) i fs = rw (before_rows hs i fs, append_assoc)

low_under : (k : ℕ) (ds : List Declaration) → LowDecls ds → Under (fresh k) ds
unfolding fresh
low_under k [] l = tt
low_under k (d ∷ ds) l = (omega arith, low_under k ds l.1)

heads_slots : (here : List Declaration) (outside : Outside) (before : List Declaration) (k row : ℕ) (h : Head) (e : Expanded Head) → expand_head here outside k h ≡ ok e → length (head_slots here outside before k row h) ≡ length e.inserted
unfolding head_slots when◌then◌else◌ as_it_is
heads_slots here outside before k row h e q = go (here_only h.code) refl
  where
    go : (t : Bool) → here_only h.code ≡ t → length (when t then [] else operands_slots here outside before k (row + 1 + length h.decls) h.operands) ≡ length e.inserted
    go true c = unfold when◌then◌else◌ as_it_is in rw (← here_made here outside k h e q c)
    go false c =
        let m = head_made here outside k h e q c in
        unfold when◌then◌else◌ in rw (← m.2) (slots_inserted here outside h.operands before k (row + 1 + length h.decls) m.0 m.1)

-- an open scope stays open from field to field
envs_onward : (names : List Slot) (scopes : List (List ℕ)) (depth : ℕ) (env : Env) (outside : Outside) (i : Item) → Envs names scopes depth (opened env outside) → Envs names scopes depth (opened env (onward i outside))
unfolding Envs
envs_onward names scopes zero env outside i en = absurd en
envs_onward names scopes (suc depth) env outside i en = (record { name = en.0.name; order = en.0.order; room = en.0.room; stands = en.0.stands; rows = en.0.rows }, en.1)

-- and it has come past the field
earlier_onward : (names : List Slot) (scopes : List (List ℕ)) (far depth : ℕ) (here₀ : List Declaration) (env : Env) (outside : Outside) (b row : ℕ) (before : List Declaration) (i : Item) (e : Expanded Head) → expand_head here₀ outside b (head_of i) ≡ ok e → (rest : List Slot)
    → Left names (past_of (innermost_t scopes depth)) far (head_slots here₀ outside before b row (head_of i) ++ (decl_slots (before ++ heads_decls e.inserted) (row + 1) (head_of i).decls ++ rest))
    → Earlier names scopes far depth (opened env outside) → Earlier names scopes (far + length e.inserted + length (head_of i).decls) depth (opened env (onward i outside))
unfolding Earlier
earlier_onward names scopes far zero here₀ env outside b row before i e x rest l en = tt
earlier_onward names scopes far (suc depth) here₀ env outside b row before i e x rest l en =
    let h = head_of i in
    let ds = before ++ heads_decls e.inserted in
    let hs = head_slots here₀ outside before b row h in
    let mine = decl_slots ds (row + 1) h.decls in
    let m = heads_slots here₀ outside before b row h e x in
    let n = decl_length ds (row + 1) h.decls in
    let past : far + length (hs ++ mine) ≡ far + length e.inserted + length h.decls = omega (arith, length-append hs mine) in
    let l' : Left names (past_of (scope_at scopes depth)) far ((hs ++ mine) ++ rest) = rw (append_assoc hs mine rest) (rw (innermost_is scopes depth) at l) in
    (rw past at (come_onward names (scope_at scopes depth) far outside.before.decls h.decls (hs ++ mine) rest l' (knows_append hs mine [] h.decls (knows_fresh hs (head_fresh here₀ outside before b row h)) (knows_decls ds (row + 1) h.decls)) en.0), en.1)

-- the slots of the innermost scope lie below those that are used
below_innermost : (names : List Slot) (n : ℕ) (scopes : List (List ℕ)) (depth : ℕ) (env : Env) (es : List Env) → Envs names scopes depth (env ∷ es) → Below n scopes depth → past_of (innermost_t scopes depth) ≤ n
unfolding Envs Below
below_innermost names n scopes zero env es en b = absurd en
below_innermost names n scopes (suc depth) env es en b = rw (innermost_is scopes depth) b.0

module _ (rules : RuleSet) (heap : rules.heap < 13) (sizes : Sizes) (rows ends : List ℕ) (short : Fits sizes rows) where
  -- behind a field comes a FIELD or the CLOSE
  next_code : (fs : Fields) (p : ℕ) → At rows p (fields_rows fs ++ (Close ∷ [])) → eqb (code_at rows p) 7 ≡ false
  unfolding flatten
  next_code end p at = rw (code_is rows p Close (at_head rows p Close [] at)) refl
  next_code (i ▸ fs) p at = rw (code_is rows p _ (at_head rows p _ _ (rw (item_rows_lem i) at (at_left rows p (item_rows i) (fields_rows fs ++ (Close ∷ [])) (rw append_assoc at at))))) refl

  abbrev closed : WriteState → (to : ℕ) → WriteState
  closed s to = record { at = row_number s.at 1; to = to; used = s.used; fresh = s.fresh; depth = s.depth; next = s.next; alias = s.alias; seen = s.seen; before = s.before; early = s.early }

  close_is : (entered names : List Slot) (out : List ℕ) (s : WriteState) (to : ℕ) (out' : List ℕ) → Is rows s.at Close → put_all out s.to (Close ∷ []) ≡ (to & out') → ended_t rows ends (closed_t rows ends out s) entered names ≡ (Ok (closed s to) & entered & names & out')
  unfolding closed_t ended_t put_then
  close_is entered names out s to out' is e = rw (row_copied rows s.at Close out s.to is, ← put_one_lem out s.to Close, e)

  pub fields_end : FieldsGo rules sizes rows ends end
  unfolding flatten resolve_scope fields_walk_t pick heights deep
  fields_end allowed kind b k here₀ env outside before X entered names scopes out s depth zero same at_row h at en good low low_names x ds u l ready t = absurd (omega arith)
  fields_end allowed kind b k here₀ env outside before X entered names scopes out s depth (suc turns) same at_row h at en good low low_names x ds u l ready t =
      let is = at_head rows s.at Close [] at in
      let there = is.there in
      rw (code_is rows s.at Close is) (go (put_all out s.to (Close ∷ [])) refl)
    where
      go : (w : Out ℕ (List ℕ)) → put_all out s.to (Close ∷ []) ≡ w → Gone sizes s names out (s.at + 0 + 1) k (Close ∷ []) (ended_t rows ends (closed_t rows ends out s) entered names) × (k ≤ k + 0)
      go (to & out') e =
          let is = at_head rows s.at Close [] at in
          let there = is.there in (
            record {
              state = closed s to;
              entered' = entered;
              names' = names;
              after = out';
              is = close_is entered names out s to out' is e;
              arrived = row_number_lem s.at 1 (omega arith) ∙ omega arith;
              fresh = ready.fresh;
              wrote = sym e;
              room = ready.room;
              size = ready.size;
              kept = refl;
            },
            omega arith,
          )

  -- the fields behind one that is done
  fields_later : (i : Item) (fs : Fields) → FieldsGo rules sizes rows ends fs → (allowed kind b k : ℕ) (here₀ : List Declaration) (env : Env) (outside : Outside) (before : List Declaration) (e : Expanded Head) (r : List Entry × ℕ)
      (entered names : List Slot) (scopes : List (List ℕ)) (out : List ℕ) (s : WriteState) (depth turns : ℕ) (y : List Head × (Item × ℕ)) (w : Wrote₃)
      (F : FieldGone sizes (begun_t s depth) names out (s.at + length (item_rows i)) (s.next + length e.inserted + length (head_of i).decls) y.1.1 (heads_rows y.0 ++ item_rows y.1.0) w) → y.1.1 ≤ k + inner i
      → outside.early ≡ s.early → outside.before.row ≡ s.at → heights fs ≤ allowed → At rows (s.at + length (item_rows i)) (fields_rows fs ++ (Close ∷ [])) → Ends fs ends (s.at + length (item_rows i)) → GoodFields rules fs kind → LowDecls (head_of i).decls → DeclFields fs → (s.early ≡ true → LowFields fs)
      → expand_head here₀ outside b (head_of i) ≡ ok e → expand_fields here₀ (onward i outside) e.k fs ≡ ok r → table_of env ≡ before ++ (heads_decls e.inserted ++ ((head_of i).decls ++ decls_in r.0)) → Under (fresh b) before
      → Left names (past_of (innermost_t scopes depth)) s.next (head_slots here₀ outside before b s.at (head_of i) ++ (decl_slots (before ++ heads_decls e.inserted) (s.at + 1) (head_of i).decls ++ fields_slots here₀ (onward i outside) ((before ++ heads_decls e.inserted) ++ (head_of i).decls) e.k (s.at + length (item_rows i)) fs))
      → Ready sizes entered names scopes (begun_t s depth) (opened env outside) (heights (i ▸ fs)) (deep (i ▸ fs)) k → length (fields_rows fs) < turns
      → Says (later_says fs here₀ env (onward i outside) e.k y) (λ v w. Gone sizes s names out (s.at + length (fields_rows (i ▸ fs)) + 1) v.1 (fields_rows v.0 ++ (Close ∷ [])) w × (v.1 ≤ k + deep (i ▸ fs)))
      (fields_walk_t rows ends (scope_walk_t rows ends allowed) F.gone.entered' F.gone.names' scopes F.gone.after F.gone.state depth turns)
  unfolding heights deep later_says
  fields_later i fs later allowed kind b k here₀ env outside before e r entered names scopes out s depth turns y w F grows same at_row h at en good low_decls low low_names x x' ds u l ready t =
      let g = F.gone in
      let v = g.state in
      let h₀ = head_of i in
      let ds₁ = before ++ heads_decls e.inserted in
      let to = past_of (innermost_t scopes depth) in
      let p = s.at + length (item_rows i) in
      let deep-left = ready.deep in
      let slots-left = ready.slots in
      let numbers-left = ready.numbers in
      let used = F.used in
      let fsize = fields_size i fs in
      let size = g.size in
      let near = below_innermost names s.used scopes depth _ outside.scopes ready.envs ready.below in
      let slots₁ = fields_slots here₀ (onward i outside) (ds₁ ++ h₀.decls) e.k p fs in
      let l₁ : Left names to (s.next + length e.inserted) (decl_slots ds₁ (s.at + 1) h₀.decls ++ slots₁) = rw (heads_slots here₀ outside before b s.at h₀ e x) at (left_past names to s.next (head_slots here₀ outside before b s.at h₀) _ l) in
      let l₂ : Left names to (s.next + length e.inserted + length h₀.decls) slots₁ = rw (decl_length ds₁ (s.at + 1) h₀.decls) at (left_past names to (s.next + length e.inserted) (decl_slots ds₁ (s.at + 1) h₀.decls) slots₁ l₁) in
      let l₃ : Left g.names' to (s.next + length e.inserted + length h₀.decls) slots₁ =
      record { are = between_kept s.used g.names' names g.kept (s.next + length e.inserted + length h₀.decls) to near ∙ l₂.are; room = omega arith } in
      let gr = holds_of _ _ e (head_grown here₀ outside b h₀) x in
      let u' = under_append (fresh e.k) ds₁ h₀.decls (grown_under b e.k before e.inserted gr.0 gr.1 u) (low_under e.k h₀.decls low_decls) in
      let envs' = envs_onward g.names' scopes depth env outside i (envs_kept s.used names g.names' (sym g.kept) scopes depth (opened env outside) (omega arith) ready.below ready.envs) in
      let earlier' : s.early ≡ true → Earlier g.names' scopes v.next depth (opened env (onward i outside)) =
      λ t. rw F.passes (earlier_kept s.used names g.names' (sym g.kept) scopes (s.next + length e.inserted + length h₀.decls) depth (opened env (onward i outside)) ready.below
      (earlier_onward names scopes s.next depth here₀ env outside b s.at before i e x _ l (ready.earlier t))) in
      let ready' : Ready sizes g.entered' g.names' scopes (begun_t v depth) (opened env (onward i outside)) (heights fs) (deep fs) y.1.1 =
      record { room = g.room; size = size; depths = ready.depths; envs = envs'; below = rw used ready.below; deep = omega arith; slots = omega arith; numbers = omega arith; fresh = g.fresh; earlier = λ t. earlier' (sym F.asks ∙ t) } in
      says_map (resolve_fields fs here₀ env (onward i outside) e.k y.1.1) (λ rs. (Rules.◌before◌ y.0 (y.1.0 ▸ rs.0), rs.1)) _ _ _
      (later allowed kind e.k y.1.1 here₀ env (onward i outside) (ds₁ ++ h₀.decls) r g.entered' g.names' scopes g.after v depth turns (same ∙ sym F.asks) (omega (arith, g.arrived)) h (rw g.arrived at) (rw g.arrived en) good low (λ t. low_names (sym F.asks ∙ t)) x'
      (ds ∙ simp append_assoc) u' (rw (F.passes, g.arrived) l₃) ready' t)
      (λ rs G.
      let arrived = G.0.arrived in
      let came = g.arrived in
      let grown = G.1 in
      let same : fields_rows (Rules.◌before◌ y.0 (y.1.0 ▸ rs.0)) ++ (Close ∷ []) ≡ (heads_rows y.0 ++ item_rows y.1.0) ++ (fields_rows rs.0 ++ (Close ∷ [])) = rw (before_rows y.0 y.1.0 rs.0) (simp append_assoc) in (
        record {
          state = G.0.state;
          entered' = G.0.entered';
          names' = G.0.names';
          after = G.0.after;
          is = G.0.is;
          arrived = omega arith;
          fresh = G.0.fresh;
          wrote = G.0.wrote ∙ sym (ap (put_all out s.to) same ∙ put_then_lem out s.to (heads_rows y.0 ++ item_rows y.1.0) (fields_rows rs.0 ++ (Close ∷ [])) v.to g.after g.wrote);
          room = G.0.room;
          size = G.0.size;
          kept = (rw used at G.0.kept) ∙ g.kept;
        },
        omega arith,
      ))

  pub fields_from : (i : Item) (fs : Fields) → ItemGoes rules sizes rows ends i → FieldsGo rules sizes rows ends fs → FieldsGo rules sizes rows ends (i ▸ fs)
  unfolding fields_walk_t pick heights deep Ends fields_slots if_ok wrote_then₃ later_says
  fields_from i fs item later allowed kind b k here₀ env outside before X entered names scopes out s depth zero same at_row h at en good low low_names x ds u l ready t = absurd (omega arith)
  fields_from i fs item later allowed kind b k here₀ env outside before X entered names scopes out s depth (suc turns) same at_row h at en good low low_names x ds u l ready t =
      let c = fields_made here₀ outside b i fs X x in
      let e = c.0 in
      let h₀ = head_of i in
      let at' : At rows s.at (item_rows i ++ (fields_rows fs ++ (Close ∷ []))) = unfold flatten in (rw append_assoc at at) in
      let code : code_at rows s.at ≡ 1 = code_is rows s.at _ (at_head rows s.at _ _ (rw (item_rows_lem i) at (at_left rows s.at (item_rows i) (fields_rows fs ++ (Close ∷ [])) at'))) in
      let behind = at_right rows s.at (item_rows i) (fields_rows fs ++ (Close ∷ [])) at' in
      let size = fields_size i fs in
      let isize = item_size i in
      let some-row = some_rows i in
      let deep-left = ready.deep in
      let slots-left = ready.slots in
      let numbers-left = ready.numbers in
      let spaces = good_spaces rules (i ▸ fs) kind heap good in
      let ds₁ = before ++ heads_decls e.inserted in
      let slots₁ = fields_slots here₀ (onward i outside) (ds₁ ++ h₀.decls) e.k (s.at + length (item_rows i)) fs in
      let l' : Left names (past_of (innermost_t scopes depth)) s.next (head_slots here₀ outside before b s.at h₀ ++ (decl_slots ds₁ (s.at + 1) h₀.decls ++ slots₁)) = rw c.2 at l in
      let ds' : table_of env ≡ before ++ (heads_decls e.inserted ++ (h₀.decls ++ decls_in c.1.0)) = ds ∙ ap (λ (y : List Declaration). before ++ y) c.4 in
      let ready₁ : Ready sizes entered names scopes (begun_t s depth) (opened env outside) (height_item i) (inner i) k =
      record { room = ready.room; size = ready.size; depths = ready.depths; envs = ready.envs; below = ready.below; deep = omega arith; slots = omega arith; numbers = omega arith; fresh = ready.fresh; earlier = ready.earlier } in
      rw (code, fields_says i fs here₀ env outside b k e c.2)
      (says_then₃ (item_says i env outside k e) (later_says fs here₀ env (onward i outside) e.k) _ _ (field_walk_t rows ends (scope_walk_t rows ends allowed) entered names scopes out (begun_t s depth)) _
      (item allowed kind b k here₀ env outside before (decls_in c.1.0) e slots₁ entered names scopes out (begun_t s depth) same at_row (omega arith) (at_left rows s.at (item_rows i) (fields_rows fs ++ (Close ∷ [])) at') (next_code fs (s.at + length (item_rows i)) behind)
      en.0 en.1 good.0 spaces.0 low.1 (λ t. (low_names t).0) (λ t. (low_names t).1) c.2 l' (λ r g g'. fields_apart here₀ (onward i outside) r (ds₁ ++ h₀.decls) e.k (s.at + length (item_rows i)) fs (omega arith)) ds' u refl refl ready₁)
      (λ y q F. rw F.0.gone.is
      (fields_later i fs later allowed kind b k here₀ env outside before e c.1 entered names scopes out s depth turns y _ F.0 F.1 same at_row (omega arith) behind en.2 good.1 low.0 low.2 (λ t. (low_names t).2) c.2 c.3 ds' u l' ready (omega arith))))
