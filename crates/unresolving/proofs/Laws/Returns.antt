-- What `unresolve` gives for the output of an accepted run resolves to that output.
-- Its references may stand in other rows than those of the input; the steps do not look at rows.
use Rattle.std.specs.Prelude.{◌≡◌, true, false, eqb, length}
use Rattle.std.proofs.Math.Path.{refl, ap, sym}
use Rattle.std.proofs.Common.{◌∙◌, subst}
use mathlib.Core.List.{List, [], ◌∷◌, ◌++◌, append-nil}
use Prim.Native.Nat.{ℕ, suc, ◌+◌}
use Rattle.rules.specs.Tools.{when◌then◌else◌}
use Rattle.rules.specs.Tree.{Declaration, Head, Scope, scope, Fields, end, ◌▸◌, Item, plain, holds, head_of, with_operands}
use Rattle.rules.specs.Versions.{RuleSet}
use Rattle.rules.specs.Good.{GoodScope, GoodFields, GoodItem}
use Rattle.rules.specs.Rules
use Rattle.rules.specs.Rules.{Result, ok, Entry, decls_in, Env, table_of, Outside, at_root, onward, inward, heads_decls, declarations, expand_head, entered, inserted_entries, expand_fields, ◌before◌, prepare, resolve_inserted, resolve_head, resolve_scope, resolve_fields, resolve_item, resolve}
use Rattle.rules.specs.Readings.{is_inserted}
use Rattle.unresolving.specs.Back.{restored_head, unresolve_scope, unresolve_fields, unresolve_item, unresolve}
use Rattle.rules.specs.Laws.ToolLaws.{snoc_append}
use Rattle.rules.specs.Laws.Entries
use Rattle.rules.specs.Laws.Results.{holds_of, bind_inv, bind_known, ok_then, ok_same}
use Rattle.rules.specs.Laws.Meaning.Names.{LowDecls, LowHead, LowScope, LowFields, LowItem}
use Rattle.rules.proofs.Laws.Meaning.Runs
use Rattle.rules.proofs.Laws.Meaning.Runs.{AllNew, Ran, ran, ran_end, ran_new, ran_head, ran_decls, table_is_output, distinct_same}
use Rattle.rules.proofs.Laws.Meaning.Lookups
use Rattle.rules.proofs.Laws.Output.Well.{own_good}
use Rattle.unresolving.proofs.Laws.Reached.{tables}
use Rattle.unresolving.proofs.Laws.Forgotten.{forget_env, forget, same_entries, expands_alike, head_alike, inserted_alike, onward_alike, inward_alike}
use Rattle.unresolving.proofs.Laws.Tables.{MayPath, head_may}
use Rattle.unresolving.proofs.Laws.Restored.{HeadBack, HeadMade, head_made, head_back}

-- ---- inserted fields are collected, and go to the field that they stand before

module _ (here : List Declaration) (outside : List (List Declaration)) where
  pub unresolve_own : (j : Item) (fs : Fields) (waiting : List Head) → is_inserted (head_of j) ≡ false
      → unresolve_fields (j ▸ fs) here outside waiting ≡ unresolve_item j here outside waiting ▸ unresolve_fields fs here outside []
  unfolding unresolve_scope when◌then◌else◌
  unresolve_own j fs waiting e = rw e

  pub unresolve_inserted : (h : Head) (fs : Fields) (waiting : List Head) → is_inserted h ≡ true
      → unresolve_fields (plain h ▸ fs) here outside waiting ≡ unresolve_fields fs here outside (waiting ++ (h ∷ []))
  unfolding unresolve_scope head_of when◌then◌else◌
  unresolve_inserted h fs waiting e = rw e

  pub unresolve_before : (lo hi : ℕ) (hs : List Head) (j : Item) (fs : Fields) (waiting : List Head) → AllNew lo hi hs → is_inserted (head_of j) ≡ false
      → unresolve_fields (◌before◌ hs (j ▸ fs)) here outside waiting ≡ unresolve_item j here outside (waiting ++ hs) ▸ unresolve_fields fs here outside []
  unfolding ◌before◌
  unresolve_before lo hi [] j fs waiting n e =
      unresolve_own j fs waiting e ∙ ap (λ (w : List Head). unresolve_item j here outside w ▸ unresolve_fields fs here outside []) (sym (append-nil waiting))
  unresolve_before lo hi (h ∷ hs) j fs waiting n e =
      unresolve_inserted h (◌before◌ hs (j ▸ fs)) waiting (Lookups.new_inserted lo hi h n.0)
      ∙ (unresolve_before lo hi hs j fs (waiting ++ (h ∷ [])) n.1 e
      ∙ ap (λ (w : List Head). unresolve_item j here outside w ▸ unresolve_fields fs here outside []) (snoc_append waiting h hs))

  restored_decls : (hs : List Head) (h : Head) → (restored_head here outside hs h).decls ≡ h.decls
  unfolding restored_head with_operands
  restored_decls hs h = refl

-- ---- what is shown of fields and of a field

-- the fields `u` have the table `t`, in other rows
record SameTable (ds : List Declaration) (outside : Outside) (b : ℕ) (u : Fields) (t : List Entry × ℕ) : Type 0 where
  t₂ : List Entry × ℕ
  expands : expand_fields ds outside b u ≡ ok t₂
  table : decls_in t₂.0 ≡ decls_in t.0
  last : t₂.1 ≡ t.1

record FieldsBack (fs : Fields) (ds : List Declaration) (here : Env) (outside : Outside) (b k : ℕ) (r : Fields × ℕ) (u : Fields) : Type 0 where
  decls : declarations u ≡ declarations fs
  expands : (o₂ : Outside) → forget o₂ ≡ forget outside → (t : List Entry × ℕ) → expand_fields ds outside b fs ≡ ok t → SameTable ds o₂ b u t
  resolves : (here₂ : Env) (o₂ : Outside) → forget_env here₂ ≡ forget_env here → forget o₂ ≡ forget outside → resolve_fields u ds here₂ o₂ b k ≡ ok r

record ItemBack (h : Head) (here : Env) (outside : Outside) (k : ℕ) (q : Item × ℕ) : Type 0 where
  head : (hs : List Head) → head_of (unresolve_item q.0 (table_of here) (tables outside) hs) ≡ restored_head (table_of here) (tables outside) hs h
  resolves : (hs : List Head) (here₂ : Env) (o₂ : Outside) → forget_env here₂ ≡ forget_env here → forget o₂ ≡ forget outside
      → resolve_item (unresolve_item q.0 (table_of here) (tables outside) hs) h here₂ o₂ k ≡ ok q

plain_back : (h : Head) (here : Env) (outside : Outside) (k : ℕ) → ItemBack h here outside k (plain h, k)
unfolding unresolve_scope resolve_scope head_of
plain_back h here outside k = record { head = λ hs. refl; resolves = λ hs here₂ o₂ a e. refl }

holds_back : (h₀ h : Head) (here : Env) (outside : Outside) (k : ℕ) (r : Scope × ℕ)
    → ((o₂ : Outside) → forget o₂ ≡ forget (inward h₀ here outside) → resolve_scope (unresolve_scope r.0 (tables (inward h₀ here outside))) o₂ k ≡ ok r)
    → ItemBack h here outside k (holds h r.0, r.1)
unfolding unresolve_scope resolve_scope head_of
holds_back h₀ h here outside k r below =
    record {
      head = λ hs. refl;
      resolves = λ hs here₂ o₂ a e. ok_then _ _ r _ (below (inward (restored_head (table_of here) (tables outside) hs h) here₂ o₂) (inward_alike h₀ (restored_head (table_of here) (tables outside) hs h) here here₂ outside o₂ a e)) refl;
    }

end_back : (ds : List Declaration) (here : Env) (outside : Outside) (b k : ℕ) → FieldsBack end ds here outside b k (end, k) (unresolve_fields end (table_of here) (tables outside) [])
unfolding resolve_scope unresolve_scope expand_fields
end_back ds here outside b k =
    record {
      decls = refl;
      expands = λ o₂ a t e. record { t₂ = t; expands = e; table = refl; last = refl };
      resolves = λ here₂ o₂ a e. refl;
    }

three_same : (x x' y y' z z' : List Declaration) → x ≡ x' → y ≡ y' → z ≡ z' → x ++ (y ++ z) ≡ x' ++ (y' ++ z')
three_same x x' y y' z z' p q t = rw (p, q, t)

module _ (Q : ℕ → Type 0) (i : Item) (fs : Fields) (ds : List Declaration) (here : Env) (outside : Outside) (b k : ℕ) (r : Fields × ℕ) (R : Ran i fs ds here outside b k r) where
  abbrev back : Head
  back = restored_head (table_of here) (tables outside) R.new R.h

  next_decls : (j : Item) (u : Fields) → (head_of j).decls ≡ (head_of i).decls → declarations u ≡ declarations fs → declarations (j ▸ u) ≡ declarations (i ▸ fs)
  unfolding declarations
  next_decls j u p q = rw (p, q)

  module _ (j : Item) (u : Fields) (H : HeadBack Q ds here outside b R.new R.h R.e.k) (e : head_of j ≡ back) (d : (head_of j).decls ≡ (head_of i).decls) (o₂ : Outside) (a : forget o₂ ≡ forget outside) where
    head_expands : expand_head ds o₂ b (head_of j) ≡ ok H.e
    head_expands = expands_alike ds outside o₂ b (head_of j) a ∙ (ap (expand_head ds outside b) e ∙ H.expands)

    next_expands : ((o₃ : Outside) → forget o₃ ≡ forget (onward i outside) → (t : List Entry × ℕ) → expand_fields ds (onward i outside) R.e.k fs ≡ ok t → SameTable ds o₃ R.e.k u t)
        → (t : List Entry × ℕ) → expand_fields ds outside b (i ▸ fs) ≡ ok t → SameTable ds o₂ b (j ▸ u) t
    unfolding expand_fields
    next_expands below t et =
        let s = bind_inv (expand_fields ds (onward i outside) R.e.k fs) _ t (bind_known (expand_head ds outside b (head_of i)) _ R.e t R.expands et) in
        let B = below (onward j o₂) (onward_alike i j outside o₂ d a) s.0 s.1 in
        let rest : expand_fields ds (onward j o₂) H.e.k u ≡ ok B.t₂ = ap (λ (x : ℕ). expand_fields ds (onward j o₂) x u) H.ends ∙ B.expands in
        let same : heads_decls H.e.inserted ≡ heads_decls R.e.inserted =
        sym (holds_of _ _ R.new (Runs.inserted_decls here outside H.e.inserted) H.adds) ∙ holds_of _ _ R.new (Runs.inserted_decls here outside R.e.inserted) R.adds in
        let row = outside.before.row in
        let row₂ = o₂.before.row in
        let was = Entries.field_decls (row + suc (length (head_of i).decls)) (suc row) R.e.inserted R.e.rows (head_of i).decls s.0.0 in
        let now = Entries.field_decls (row₂ + suc (length (head_of j).decls)) (suc row₂) H.e.inserted H.e.rows (head_of j).decls B.t₂.0 in
        let middle = three_same (heads_decls H.e.inserted) (heads_decls R.e.inserted) (head_of j).decls (head_of i).decls (decls_in B.t₂.0) (decls_in s.0.0) same d B.table in
        let is = ok_same _ t s.2 in
        record {
          t₂ = (inserted_entries (row₂ + suc (length (head_of j).decls)) H.e.inserted H.e.rows ++ (entered (suc row₂) (head_of j).decls ++ B.t₂.0), B.t₂.1);
          expands = ok_then _ _ H.e _ head_expands (ok_then _ _ B.t₂ _ rest refl);
          table = now ∙ (middle ∙ (sym was ∙ ap (λ (x : List Entry × ℕ). decls_in x.0) is));
          last = B.last ∙ ap (λ (x : List Entry × ℕ). x.1) is;
        }

    next_resolves : (here₂ : Env) → forget_env here₂ ≡ forget_env here → resolve_item j R.h here₂ o₂ k ≡ ok R.q
        → resolve_fields u ds here₂ (onward j o₂) R.e.k R.q.1 ≡ ok R.rs → resolve_fields (j ▸ u) ds here₂ o₂ b k ≡ ok r
    unfolding resolve_scope
    next_resolves here₂ c q below =
        let adds : resolve_inserted here₂ o₂ H.e.inserted ≡ ok R.new = inserted_alike here here₂ outside o₂ H.e.inserted c a ∙ H.adds in
        let heads : resolve_head here₂ o₂ H.e.now ≡ ok R.h = head_alike here here₂ outside o₂ H.e.now c a ∙ H.resolves in
        let rest : resolve_fields u ds here₂ (onward j o₂) H.e.k R.q.1 ≡ ok R.rs = ap (λ (x : ℕ). resolve_fields u ds here₂ (onward j o₂) x R.q.1) H.ends ∙ below in
        ok_then _ _ H.e _ head_expands
        (ok_then _ _ R.new _ adds (ok_then _ _ R.h _ heads (ok_then _ _ R.q _ q (ok_then _ _ R.rs _ rest (ap {B = Result (Fields × ℕ)} ok R.result)))))

  next_back : LowDecls (head_of i).decls → HeadMade Q ds here outside b R.e.k (head_of i) R.new R.h → ItemBack R.h here outside k R.q
      → FieldsBack fs ds here (onward i outside) R.e.k R.q.1 R.rs (unresolve_fields R.rs.0 (table_of here) (tables outside) [])
      → FieldsBack (i ▸ fs) ds here outside b k r (unresolve_fields r.0 (table_of here) (tables outside) [])
  next_back low made I below =
      let H = head_back Q ds here outside b R.e.k (head_of i) R.new R.h made in
      let j = unresolve_item R.q.0 (table_of here) (tables outside) R.new in
      let u = unresolve_fields R.rs.0 (table_of here) (tables outside) [] in
      let head = I.head R.new in
      let decls : (head_of j).decls ≡ (head_of i).decls =
      ap (λ (x : Head). x.decls) head ∙ (restored_decls (table_of here) (tables outside) R.new R.h ∙ (sym (ap (λ (x : Head). x.decls) (ran_head R)) ∙ ran_decls R)) in
      let own : is_inserted (head_of R.q.0) ≡ false = Lookups.low_original (head_of R.q.0) (subst LowDecls (sym (ran_decls R)) low) in
      let is : unresolve_fields r.0 (table_of here) (tables outside) [] ≡ j ▸ u =
      ap (λ (x : Fields × ℕ). unresolve_fields x.0 (table_of here) (tables outside) []) (sym R.result)
      ∙ unresolve_before (table_of here) (tables outside) b R.e.k R.new R.q.0 R.rs.0 [] (ran_new R) own in
      subst (FieldsBack (i ▸ fs) ds here outside b k r) (sym is)
      (record {
        decls = next_decls j u decls below.decls;
        expands = λ o₂ a. next_expands j u H head decls o₂ a below.expands;
        resolves = λ here₂ o₂ c a. next_resolves j u H head decls o₂ a here₂ c (I.resolves R.new here₂ o₂ c a) (below.resolves here₂ (onward j o₂) c (onward_alike i j outside o₂ decls a));
      })

-- ---- a scope

-- prepared in other rows
record Prepared (name : ℕ) (u : Fields) (outside : Outside) (k : ℕ) (e : Env × ℕ) : Type 0 where
  e₂ : Env × ℕ
  prepares : prepare name u outside k ≡ ok e₂
  alike : forget_env e₂.0 ≡ forget_env e.0
  last : e₂.1 ≡ e.1

prepared_again : (name : ℕ) (fs u : Fields) (outside o₂ : Outside) (k : ℕ) (e : Env × ℕ) → declarations u ≡ declarations fs
    → ((t : List Entry × ℕ) → expand_fields (declarations fs) outside k fs ≡ ok t → SameTable (declarations fs) o₂ k u t)
    → prepare name fs outside k ≡ ok e → Prepared name u o₂ k e
unfolding prepare
prepared_again name fs u outside o₂ k e d x p =
    let s₁ = bind_inv (Rules.distinct [] (declarations fs)) _ e p in
    let s₂ = bind_inv (expand_fields s₁.0 outside k fs) _ e s₁.2 in
    let same : s₁.0 ≡ declarations fs = holds_of _ _ s₁.0 (distinct_same [] (declarations fs)) s₁.1 in
    let X = x s₂.0 (subst (λ (ds : List Declaration). expand_fields ds outside k fs ≡ ok s₂.0) same s₂.1) in
    let expands : expand_fields s₁.0 o₂ k u ≡ ok X.t₂ = subst (λ (ds : List Declaration). expand_fields ds o₂ k u ≡ ok X.t₂) (sym same) X.expands in
    let is = ok_same _ e s₂.2 in
    record {
      e₂ = (record { name = name; entries = X.t₂.0; before = [] }, X.t₂.1);
      prepares = ok_then _ _ s₁.0 _ (ap (Rules.distinct []) d ∙ s₁.1) (ok_then _ _ X.t₂ _ expands refl);
      alike = ap (λ (l : List Entry). record { name = name; entries = l; before = [] }) (same_entries X.t₂.0 s₂.0.0 X.table) ∙ ap (λ (y : Env × ℕ). forget_env y.0) is;
      last = X.last ∙ ap (λ (y : Env × ℕ). y.1) is;
    }

-- the declarations as step C saw them are read off the output
pub table : (name : ℕ) (fs : Fields) (outside : Outside) (k : ℕ) (e : Env × ℕ) (r : Fields × ℕ) → prepare name fs outside k ≡ ok e → resolve_fields fs (declarations fs) e.0 outside k e.1 ≡ ok r
    → declarations r.0 ≡ table_of e.0
table name fs outside k e r p q =
    let t = Runs.prepared name fs outside k e p in
    table_is_output fs (declarations fs) e.0 outside k e.1 r t.0 q t.1 ∙ ap decls_in (sym t.2)

resolves_again : (kind name : ℕ) (fs u : Fields) (outside o₂ : Outside) (k : ℕ) (e : Env × ℕ) (r : Fields × ℕ) → forget o₂ ≡ forget outside → prepare name fs outside k ≡ ok e
    → FieldsBack fs (declarations fs) e.0 outside k e.1 r u → resolve_scope (scope kind name u) o₂ k ≡ ok (scope kind name r.0, r.1)
unfolding resolve_scope
resolves_again kind name fs u outside o₂ k e r a p F =
    let P = prepared_again name fs u outside o₂ k e F.decls (F.expands o₂ a) p in
    let fields : resolve_fields u (declarations u) P.e₂.0 o₂ k P.e₂.1 ≡ ok r =
    ap (λ (ds : List Declaration). resolve_fields u ds P.e₂.0 o₂ k P.e₂.1) F.decls
    ∙ (ap (λ (x : ℕ). resolve_fields u (declarations fs) P.e₂.0 o₂ k x) P.last ∙ F.resolves P.e₂.0 o₂ P.alike a) in
    ok_then _ _ P.e₂ _ P.prepares (ok_then _ _ r _ fields refl)

scope_step : (kind name : ℕ) (fs : Fields) (outside o₂ : Outside) (k : ℕ) (e : Env × ℕ) (r : Fields × ℕ) → forget o₂ ≡ forget outside → prepare name fs outside k ≡ ok e
    → resolve_fields fs (declarations fs) e.0 outside k e.1 ≡ ok r → FieldsBack fs (declarations fs) e.0 outside k e.1 r (unresolve_fields r.0 (table_of e.0) (tables outside) [])
    → resolve_scope (unresolve_scope (scope kind name r.0) (tables outside)) o₂ k ≡ ok (scope kind name r.0, r.1)
unfolding unresolve_scope
scope_step kind name fs outside o₂ k e r a p q F =
    subst (λ (x : List Declaration). resolve_scope (scope kind name (unresolve_fields r.0 x (tables outside) [])) o₂ k ≡ ok (scope kind name r.0, r.1)) (sym (table name fs outside k e r p q))
    (resolves_again kind name fs _ outside o₂ k e r a p F)

-- ---- the whole walk

module _ (rules : RuleSet) (heap : eqb 0 rules.heap ≡ false) where
  pub ran_made : (kind : ℕ) (i : Item) (fs : Fields) (ds : List Declaration) (here : Env) (outside : Outside) (b k : ℕ) (r : Fields × ℕ) (R : Ran i fs ds here outside b k r)
      → GoodItem rules i kind → LowHead (head_of i) → HeadMade (MayPath rules (head_of i)) ds here outside b R.e.k (head_of i) R.new R.h
  ran_made kind i fs ds here outside b k r R good low =
      head_made (MayPath rules (head_of i)) ds here outside b (head_of i) R.e R.new R.h (head_may rules heap kind (head_of i) (own_good rules kind i good) low) low.operands R.expands R.adds R.resolves

  mutual
    unfolding resolve_scope

    scope_back : (s : Scope) (outside : Outside) (k : ℕ) (r : Scope × ℕ) → GoodScope rules s → LowScope s → resolve_scope s outside k ≡ ok r
        → (o₂ : Outside) → forget o₂ ≡ forget outside → resolve_scope (unresolve_scope r.0 (tables outside)) o₂ k ≡ ok r
    scope_back (scope kind name fs) outside k r good low e o₂ a =
        let s₁ = bind_inv (prepare name fs outside k) _ r e in
        let s₂ = bind_inv (resolve_fields fs (declarations fs) s₁.0.0 outside k s₁.0.1) _ r s₁.2 in
        subst (λ (x : Scope × ℕ). resolve_scope (unresolve_scope x.0 (tables outside)) o₂ k ≡ ok x) (ok_same _ r s₂.2)
        (scope_step kind name fs outside o₂ k s₁.0 s₂.0 a s₁.1 s₂.1 (fields_back kind fs (declarations fs) s₁.0.0 outside k s₁.0.1 s₂.0 good low.1 s₂.1))

    fields_back : (kind : ℕ) (fs : Fields) (ds : List Declaration) (here : Env) (outside : Outside) (b k : ℕ) (r : Fields × ℕ) → GoodFields rules fs kind → LowFields fs → resolve_fields fs ds here outside b k ≡ ok r
        → FieldsBack fs ds here outside b k r (unresolve_fields r.0 (table_of here) (tables outside) [])
    fields_back kind end ds here outside b k r good low e =
        subst (λ (x : Fields × ℕ). FieldsBack end ds here outside b k x (unresolve_fields x.0 (table_of here) (tables outside) [])) (ran_end ds here outside b k r e) (end_back ds here outside b k)
    fields_back kind (i ▸ fs) ds here outside b k r good low e =
        let R = ran i fs ds here outside b k r e in
        next_back (MayPath rules (head_of i)) i fs ds here outside b k r R low.0.decls (ran_made kind i fs ds here outside b k r R good.0 low.0) (item_back kind i R.h here outside k R.q good.0 low.1 R.items)
        (fields_back kind fs ds here (onward i outside) R.e.k R.q.1 R.rs good.1 low.2 R.goes_on_lem)

    item_back : (kind : ℕ) (i : Item) (h : Head) (here : Env) (outside : Outside) (k : ℕ) (q : Item × ℕ) → GoodItem rules i kind → LowItem i → resolve_item i h here outside k ≡ ok q → ItemBack h here outside k q
    item_back kind (plain h₀) h here outside k q good low e = subst (ItemBack h here outside k) (ok_same _ q e) (plain_back h here outside k)
    item_back kind (holds h₀ s) h here outside k q good low e =
        let t = bind_inv (resolve_scope s (inward h₀ here outside) k) _ q e in
        subst (ItemBack h here outside k) (ok_same _ q t.2) (holds_back h₀ h here outside k t.0 (λ o₂ a. scope_back s (inward h₀ here outside) k t.0 good.3 low t.1 o₂ a))

  -- What `unresolve` gives for the output of an accepted run is accepted, with that output and as many insertions.
  pub returns : (s : Scope) (r : Scope × ℕ) → GoodScope rules s → LowScope s → resolve rules s ≡ ok r → resolve rules (unresolve r.0) ≡ ok r
  unfolding resolve unresolve
  returns s r good low e = scope_back s (at_root rules []) 0 r good low e (at_root rules []) refl
