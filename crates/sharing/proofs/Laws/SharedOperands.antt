-- Condition 4 of the checker holds of the form that the planner proposes: a later reference has the number of the alias that the
-- first one has, and that reaches the declaration.
use Rattle.std.specs.Prelude.{◌≡◌, refl, true, List, [], ◌∷◌, map, ℕ, suc, ◌≤◌}
use Rattle.std.proofs.Common.{ap, sym, ◌∙◌, subst, arith}
use Rattle.std.proofs.Math.Option.{none}
use Rattle.rules.specs.Versions.{RuleSet}
use Rattle.rules.specs.Tree.{Declaration, Head, Scope, scope, Fields, end, ◌▸◌, Item, plain, holds, head_of}
use Rattle.rules.specs.Shapes.{here_only}
use Rattle.rules.specs.Good.{GoodScope, GoodFields, GoodItem}
use Rattle.rules.specs.Rules.{ok, Env, Before, Outside, at_root, onward, inward, declarations, resolve_scope, resolve_fields, resolve_item, resolve}
use Rattle.rules.specs.Readings.{standings}
use Rattle.checking.specs.Check
use Rattle.checking.specs.Check.{scope_operands, fields_operands, item_operands, condition4}
use Rattle.sharing.specs.Sharing.{Served, mark_scope, mark_fields, mark_item, mark}
use Rattle.rules.specs.Laws.ToolLaws.{all_map, All, done}
use Rattle.rules.specs.Laws.Meaning.Names.{LowDecls, LowScope, LowFields, LowItem}
use Rattle.rules.proofs.Laws.Meaning.Runs
use Rattle.rules.proofs.Laws.Meaning.Runs.{seeing, ran_end}
use Rattle.rules.proofs.Laws.Output.Well.{own_good}
use Rattle.checking.proofs.Laws.OwnOperands
use Rattle.checking.proofs.Laws.OwnOperands.{Closed}
use Rattle.checking.proofs.Laws.Plainly.{plain_of}
use Rattle.sharing.proofs.Laws.Planned.{Under, under_opened, under_root, Late, late_head, Known, now, item, others, marked_next, marked_ran, marked_good, marked_head, marked_end, head_decls, here_only_same, item_grows, field_justified, plain_shared, holds_shared, plain_next, holds_next, holds_good, inside, marks, scope_marks_lem, enter}
use Rattle.sharing.proofs.Laws.OneAlias.{DistinctScope, DistinctFields, DistinctItem, before_distinct, level_distinct, AskedScope, AskedFields, AskedItem, before_asked, level_asked, plain_covered, outer_keys, Key, covered, asked}
use Rattle.rules.proofs.Laws.Meaning.Agree

-- ---- the whole walk

-- the scopes around, as the checker sees them
abbrev beyond : Outside → List Env
beyond outside = map plain_of outside.scopes

asked_beyond : (outside : Outside) (ds : List Declaration) (fs : Fields) (ks : List Key) → All (λ key. covered outside.scopes (asked ds fs) key ≡ true) ks → All (λ key. covered (beyond outside) (asked ds fs) key ≡ true) ks
asked_beyond outside ds fs ks a = all_map ks (λ k c. plain_covered outside.scopes (asked ds fs) k ∙ c) a

module _ (rules : RuleSet) where
  mutual
    unfolding head_of

    pub scope_right : (s : Scope) (outside : Outside) (k : ℕ) (q : Scope × ℕ) → LowScope s → GoodScope rules (mark_scope s k).0 → Under k outside.scopes → resolve_scope (mark_scope s k).0 outside k ≡ ok q
        → (q.1 ≡ (mark_scope s k).1) × ((n : ℕ) → scope_operands n q.0 (beyond outside) s ≡ none) × DistinctScope q.0 × AskedScope q.0 (beyond outside) s
    scope_right (scope kind name fs) outside k q low g under eq =
        let X = enter kind name fs outside k q low.1 under eq in
        let good : GoodFields rules (marks fs k).0 kind = subst (λ (x : Scope × ℕ). GoodScope rules x.0) (scope_marks_lem kind name fs k) g in
        let T = fields_right fs X.E outside.before k under kind [] k (inside fs k) (X.out', X.k'') 0 low.1 good done (omega arith) X.around done X.resolves (λ space j s l e. e) in (
          X.last ∙ (T.0 ∙ ap (λ (x : Scope × ℕ). x.1) (sym (scope_marks_lem kind name fs k))),
          λ n. subst (λ (x : Scope). scope_operands n x (beyond outside) (scope kind name fs) ≡ none) X.is (OwnOperands.scope_item X.E outside.before rules kind n fs name (T.1 (suc n))),
          subst DistinctScope X.is (level_distinct outside k under (declarations fs) X.here outside.before fs k k (inside fs k) (inside fs k) (X.out', X.k'') low.1 (omega arith) X.resolves, T.2),
          subst (λ (x : Scope). AskedScope x (beyond outside) (scope kind name fs)) X.is
              (asked_beyond outside (declarations fs) fs (outer_keys X.out') (level_asked outside k under (declarations fs) X.here outside.before fs k k (inside fs k) (inside fs k) (X.out', X.k'') low.1 (omega arith) X.resolves), subst (λ (x : Env). AskedFields X.out' (x ∷ beyond outside) fs) (sym (OwnOperands.table_is X.E outside.before kind)) T.3),
        )

    fields_right : (gs : Fields) {fs : Fields} {outside : Outside} {here : Env} {out' : Fields} (E : Closed fs outside here out') (past : Before) (start : ℕ) (under : Under start outside.scopes) (kind : ℕ) (seen : List Served) (b k : ℕ) (res : Fields × ℕ) (m : ℕ)
        → LowFields gs → GoodFields rules (mark_fields gs (declarations fs) seen b k).0 kind → Late start seen → start ≤ b → Under k (here ∷ outside.scopes) → All (Known E start under) seen
        → resolve_fields (mark_fields gs (declarations fs) seen b k).0 (declarations fs) here (seeing outside past) b k ≡ ok res → OwnOperands.Lifts E past b (standings m res.0)
        → (res.1 ≡ (mark_fields gs (declarations fs) seen b k).1) × ((n : ℕ) → fields_operands n res.0 (OwnOperands.c E past kind) (beyond outside) gs ≡ none) × DistinctFields res.0 × AskedFields res.0 (plain_of here ∷ beyond outside) gs
    fields_right end {fs} {outside} {here} E past start under kind seen b k res m low g late h around known eq f =
        let e : (end, k) ≡ res = ran_end (declarations fs) here (seeing outside past) b k res (subst (λ (x : Fields × ℕ). resolve_fields x.0 (declarations fs) here (seeing outside past) b k ≡ ok res) (marked_end (declarations fs) seen b k) eq) in (
          ap (λ (x : Fields × ℕ). x.1) (sym e) ∙ ap (λ (x : Fields × ℕ). x.1) (sym (marked_end (declarations fs) seen b k)),
          λ n. subst (λ (x : Fields × ℕ). fields_operands n x.0 (OwnOperands.c E past kind) (beyond outside) end ≡ none) e (OwnOperands.no_fields E past rules kind n end),
          subst (λ (x : Fields × ℕ). DistinctFields x.0) e tt,
          subst (λ (x : Fields × ℕ). AskedFields x.0 (plain_of here ∷ beyond outside) end) e tt,
        )
    fields_right (i ▸ gs) {fs} {outside} {here} E past start under kind seen b k res m low g late h around known eq f =
        let N = now i gs (declarations fs) seen b k in
        let I = item i gs (declarations fs) seen b k in
        let R = marked_ran i gs (declarations fs) seen b k here (seeing outside past) b k res eq in
        let J = field_justified E start under past i gs seen b b k k res low.0 late h refl R in
        let L = late_head start (declarations fs) seen b (head_of i) late h in
        let G = marked_good i gs (declarations fs) seen b k rules kind g in
        let same : head_of I.0 ≡ N.now = marked_head i N.now k in
        let lows : LowDecls (head_of I.0).decls = subst LowDecls (sym (ap (λ (x : Head). x.decls) same ∙ head_decls (declarations fs) seen b (head_of i))) low.0.decls in
        let S = J.served (OwnOperands.placed_new E past rules kind R lows m f) known in
        let own : (n : ℕ) → Check.head_operands (OwnOperands.c E past kind) (beyond outside) n R.h (head_of i) ≡ none =
        λ n. OwnOperands.ran_right E past rules kind R lows m f n (head_of i)
        (subst (λ (x : Head). OwnOperands.AllAs E (head_of i).operands x.operands) (sym same) S.0)
        (subst (λ (x : Head). here_only x.code ≡ true → (head_of i).operands ≡ x.operands) (sym same) (here_only_same (declarations fs) seen b (head_of i)))
        (own_good rules kind I.0 G.0) in
        let Q = item_right i E past kind N.now R.h k R.q low.1 G.0 around own R.items in
        let goes : resolve_fields (others i gs (declarations fs) seen b k).0 (declarations fs) here (onward I.0 (seeing outside past)) N.k I.1 ≡ ok R.rs =
        subst (λ (x : ℕ). resolve_fields (others i gs (declarations fs) seen b k).0 (declarations fs) here (onward I.0 (seeing outside past)) N.k x ≡ ok R.rs) Q.0
        (subst (λ (x : ℕ). resolve_fields (others i gs (declarations fs) seen b k).0 (declarations fs) here (onward I.0 (seeing outside past)) x R.q.1 ≡ ok R.rs) J.next R.goes_on_lem) in
        let T = fields_right gs E (onward I.0 (seeing outside past)).before start under kind N.seen N.k I.1 R.rs (suc m) low.2 G.1 L.0 L.1
        (λ d space j l. around d space j (omega (arith, item_grows i N.now k))) S.1 goes
        (subst (λ (x : ℕ). OwnOperands.Lifts E past x (standings (suc m) R.rs.0)) J.next (OwnOperands.lifts_on E past rules kind R lows m f)) in (
          ap (λ (x : Fields × ℕ). x.1) (sym R.result) ∙ (T.0 ∙ ap (λ (x : Fields × ℕ). x.1) (sym (marked_next i gs (declarations fs) seen b k))),
          λ n. OwnOperands.field_right E past rules kind R lows i gs Q.1 T.1 n,
          subst (λ (x : Fields × ℕ). DistinctFields x.0) R.result (before_distinct R.new (R.q.0 ▸ R.rs.0) (Q.2, T.2)),
          subst (λ (x : Fields × ℕ). AskedFields x.0 (plain_of here ∷ beyond outside) (i ▸ gs)) R.result (before_asked b R.e.k R.new R.q.0 i R.rs.0 gs (plain_of here ∷ beyond outside) (Runs.ran_new R) (Agree.stays_original R lows) Q.3 T.3),
        )

    item_right : (i : Item) {fs : Fields} {outside : Outside} {here : Env} {out' : Fields} (E : Closed fs outside here out') (past : Before) (kind : ℕ) (H h : Head) (k : ℕ) (q : Item × ℕ)
        → LowItem i → GoodItem rules (mark_item i H k).0 kind → Under k (here ∷ outside.scopes) → ((n : ℕ) → Check.head_operands (OwnOperands.c E past kind) (beyond outside) n h (head_of i) ≡ none)
        → resolve_item (mark_item i H k).0 h here (seeing outside past) k ≡ ok q → (q.1 ≡ (mark_item i H k).1) × ((n : ℕ) → item_operands n q.0 (OwnOperands.c E past kind) (beyond outside) i ≡ none) × DistinctItem q.0 × AskedItem q.0 (plain_of here ∷ beyond outside) i
    item_right (plain h₀) {outside = outside} {here = here} E past kind H h k q low g around e eq =
        let is = plain_shared h₀ H h here (seeing outside past) k q eq in (
          ap (λ (x : Item × ℕ). x.1) (sym is) ∙ sym (plain_next h₀ H k),
          λ n. subst (λ (x : Item × ℕ). item_operands n x.0 (OwnOperands.c E past kind) (beyond outside) (plain h₀) ≡ none) is (OwnOperands.plain_item E past rules kind n h h₀ (e n)),
          subst (λ (x : Item × ℕ). DistinctItem x.0) is tt,
          subst (λ (x : Item × ℕ). AskedItem x.0 (plain_of here ∷ beyond outside) (plain h₀)) is tt,
        )
    item_right (holds h₀ s) {outside = outside} {here = here} E past kind H h k q low g around e eq =
        let X = holds_shared h₀ H h s here (seeing outside past) k q eq in
        let T = scope_right s (inward H here (seeing outside past)) k X.0 low (holds_good rules kind h₀ H s k g) (under_opened k here (seeing outside past) around) X.1 in (
          ap (λ (x : Item × ℕ). x.1) (sym X.2) ∙ (T.0 ∙ sym (holds_next h₀ H s k)),
          λ n. subst (λ (x : Item × ℕ). item_operands n x.0 (OwnOperands.c E past kind) (beyond outside) (holds h₀ s) ≡ none) X.2 (OwnOperands.holds_item E past rules kind n h h₀ X.0.0 s (e n) T.1),
          subst (λ (x : Item × ℕ). DistinctItem x.0) X.2 T.2,
          subst (λ (x : Item × ℕ). AskedItem x.0 (plain_of here ∷ beyond outside) (holds h₀ s)) X.2 T.3,
        )

  pub shared_4 : (s : Scope) (q : Scope × ℕ) → LowScope s → GoodScope rules (mark s) → resolve rules (mark s) ≡ ok q → condition4 s q.0 ≡ none
  unfolding condition4 resolve mark
  shared_4 s q low g e = (scope_right s (at_root rules []) 0 q low g under_root e).1 0

  -- in every scope of it no two inserted outer aliases denote the same
  pub shared_distinct : (s : Scope) (q : Scope × ℕ) → LowScope s → GoodScope rules (mark s) → resolve rules (mark s) ≡ ok q → DistinctScope q.0
  unfolding resolve mark
  shared_distinct s q low g e = (scope_right s (at_root rules []) 0 q low g under_root e).2

  -- and each of them is asked for by a walked name of that scope
  pub shared_asked : (s : Scope) (q : Scope × ℕ) → LowScope s → GoodScope rules (mark s) → resolve rules (mark s) ≡ ok q → AskedScope q.0 [] s
  unfolding resolve mark
  shared_asked s q low g e = (scope_right s (at_root rules []) 0 q low g under_root e).3
