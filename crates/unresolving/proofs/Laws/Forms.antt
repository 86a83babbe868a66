-- What `unresolve` gives for the output of an accepted form is a form, and its rows can be written as an input's.
use Rattle.std.specs.Prelude.{◌≡◌, false, ℕ, ◌≤◌, eqb}
use Rattle.std.proofs.Math.Path.{refl, ap, subst}
use Rattle.std.proofs.Common.{sym, ◌∙◌}
use Rattle.std.proofs.Math.Option.{Option, none, some}
use mathlib.Core.List.{List, [], ◌∷◌}
use Rattle.rules.specs.Versions.{RuleSet, top_name}
use Rattle.rules.specs.Rows.{Open, Close}
use Rattle.rules.specs.Tree.{Declaration, Head, Scope, scope, Fields, end, ◌▸◌, Item, plain, holds, head_of, with_operands, head_rows, flatten, fields_rows, item_rows}
use Rattle.rules.specs.Shapes.{opens, first_name}
use Rattle.rules.specs.Good.{GoodHead, kind_of, name_of, GoodScope, GoodFields, GoodItem}
use Rattle.rules.specs.Rules.{ok, Env, table_of, Outside, at_root, onward, inward, declarations, ◌before◌, prepare, resolve_scope, resolve_fields, resolve_item, resolve}
use Rattle.rules.specs.Readings.{is_inserted}
use Rattle.unresolving.specs.Back.{restored_head, unresolve_scope, unresolve_fields, unresolve_item, unresolve}
use Rattle.rules.specs.Laws.ToolLaws.{All, done, ◌&◌, all_append, all_left, all_right}
use Rattle.rules.specs.Laws.RowLaws.{Written}
use Rattle.rules.specs.Laws.Results.{bind_inv, ok_same}
use Rattle.rules.specs.Laws.Meaning.Names.{LowDecls, LowScope, LowFields, LowItem}
use Rattle.rules.proofs.Laws.Meaning.Runs.{Ran, ran, ran_end, ran_new, ran_head, ran_decls}
use Rattle.rules.proofs.Laws.Meaning.Lookups
use Rattle.rules.proofs.Laws.Output.Well.{own_good}
use Rattle.rules.proofs.Laws.Output.OutFits.{out_name}
use Rattle.unresolving.proofs.Laws.Reached.{tables}
use Rattle.unresolving.proofs.Laws.Fits.{HeadsFit, Fine, restored_fine}
use Rattle.unresolving.proofs.Laws.Returns.{unresolve_before, table, ran_made}

-- ---- the fields that stand behind inserted ones

module _ (rules : RuleSet) where
  good_behind : (kind : ℕ) (hs : List Head) (fs : Fields) → GoodFields rules (◌before◌ hs fs) kind → GoodFields rules fs kind
  unfolding ◌before◌
  good_behind kind [] fs g = g
  good_behind kind (h ∷ hs) fs g = good_behind kind hs fs g.1

record RowsBehind (hs : List Head) (fs : Fields) : Type 0 where
  heads : HeadsFit hs
  fields : All (Written out_name) (fields_rows fs)

rows_behind : (hs : List Head) (fs : Fields) → All (Written out_name) (fields_rows (◌before◌ hs fs)) → RowsBehind hs fs
unfolding ◌before◌ flatten
rows_behind [] fs a = record { heads = tt; fields = a }
rows_behind (h ∷ hs) fs a =
    let B = rows_behind hs fs (all_right (head_rows h) (fields_rows (◌before◌ hs fs)) a) in
    record { heads = (all_left (head_rows h) (fields_rows (◌before◌ hs fs)) a, B.heads); fields = B.fields }

record RowsOf (j : Item) (fs : Fields) : Type 0 where
  item : All (Written out_name) (item_rows j)
  fields : All (Written out_name) (fields_rows fs)

rows_of : (j : Item) (fs : Fields) → All (Written out_name) (fields_rows (j ▸ fs)) → RowsOf j fs
unfolding flatten
rows_of j fs a = record { item = all_left (item_rows j) (fields_rows fs) a; fields = all_right (item_rows j) (fields_rows fs) a }

own_rows_lem : (j : Item) → All (Written out_name) (item_rows j) → All (Written out_name) (head_rows (head_of j))
unfolding flatten head_of
own_rows_lem (plain h) a = a
own_rows_lem (holds h s) a = all_left (head_rows h) (flatten s) a

inner_rows_lem : (h : Head) (s : Scope) → All (Written out_name) (item_rows (holds h s)) → All (Written out_name) (flatten s)
unfolding flatten
inner_rows_lem h s a = all_right (head_rows h) (flatten s) a

-- ---- what is shown

module _ (rules : RuleSet) where
  record FieldsFine (kind : ℕ) (u : Fields) : Type 0 where
    good : GoodFields rules u kind
    rows : All (Written top_name) (fields_rows u)

  record ItemFine (kind : ℕ) (j : Item) : Type 0 where
    good : GoodItem rules j kind
    rows : All (Written top_name) (item_rows j)

  pub record ScopeFine (s u : Scope) : Type 0 where
    pub kind : kind_of u ≡ kind_of s
    pub name : name_of u ≡ name_of s
    pub good : GoodScope rules u
    pub rows : All (Written top_name) (flatten u)

  end_fine : (kind : ℕ) (here : List Declaration) (outside : List (List Declaration)) → FieldsFine kind (unresolve_fields end here outside [])
  unfolding unresolve_scope flatten
  end_fine kind here outside = record { good = tt; rows = done }

  next_fine : (kind : ℕ) (j : Item) (u : Fields) → ItemFine kind j → FieldsFine kind u → FieldsFine kind (j ▸ u)
  unfolding flatten
  next_fine kind j u I F = record { good = (I.good, F.good); rows = all_append (item_rows j) (fields_rows u) I.rows F.rows }

  code_kept : (here : List Declaration) (outside : List (List Declaration)) (hs : List Head) (h : Head) → (restored_head here outside hs h).code ≡ h.code
  unfolding restored_head with_operands
  code_kept here outside hs h = refl

  decls_kept : (here : List Declaration) (outside : List (List Declaration)) (hs : List Head) (h : Head) → (restored_head here outside hs h).decls ≡ h.decls
  unfolding restored_head with_operands
  decls_kept here outside hs h = refl

  plain_fine : (kind : ℕ) (h : Head) (here : List Declaration) (outside : List (List Declaration)) (hs : List Head) → Fine rules kind (restored_head here outside hs h) → opens h.code ≡ none
      → ItemFine kind (unresolve_item (plain h) here outside hs)
  unfolding unresolve_scope flatten
  plain_fine kind h here outside hs F o = record { good = (F.good, ap opens (code_kept here outside hs h) ∙ o); rows = F.rows }

  holds_fine : (kind : ℕ) (h : Head) (s : Scope) (here : List Declaration) (outside : List (List Declaration)) (hs : List Head) → Fine rules kind (restored_head here outside hs h) → opens h.code ≡ some (kind_of s)
      → name_of s ≡ first_name h.decls → ScopeFine s (unresolve_scope s (here ∷ outside)) → ItemFine kind (unresolve_item (holds h s) here outside hs)
  unfolding unresolve_scope flatten
  holds_fine kind h s here outside hs F o n S =
      record {
        good = (F.good, ap opens (code_kept here outside hs h) ∙ (o ∙ ap {B = Option ℕ} some (sym S.kind)), S.name ∙ (n ∙ ap first_name (sym (decls_kept here outside hs h))), S.good);
        rows = all_append (head_rows (restored_head here outside hs h)) _ F.rows S.rows;
      }

  record ScopeRows (kind name : ℕ) (fs : Fields) : Type 0 where
    open_row : Written out_name (Open kind name)
    fields : All (Written out_name) (fields_rows fs)
    close_row : Written out_name Close

  scope_rows : (kind name : ℕ) (fs : Fields) → All (Written out_name) (flatten (scope kind name fs)) → ScopeRows kind name fs
  unfolding flatten
  scope_rows kind name fs (o & a) = record { open_row = o; fields = all_left (fields_rows fs) (Close ∷ []) a; close_row = last (all_right (fields_rows fs) (Close ∷ []) a) }
    where
      last : All (Written out_name) (Close ∷ []) → Written out_name Close
      last (c & done) = c

  scope_again : (kind name : ℕ) (fs u : Fields) → name ≤ top_name → ScopeRows kind name fs → FieldsFine kind u → ScopeFine (scope kind name fs) (scope kind name u)
  unfolding flatten
  scope_again kind name fs u l R F =
      record {
        kind = refl;
        name = refl;
        good = F.good;
        rows = record { fits = R.open_row.fits; legal = l } & all_append (fields_rows u) (Close ∷ []) F.rows (record { fits = R.close_row.fits; legal = tt } & done);
      }

  scope_step : (kind name : ℕ) (fs : Fields) (outside : Outside) (k : ℕ) (e : Env × ℕ) (r : Fields × ℕ) → prepare name fs outside k ≡ ok e
      → resolve_fields fs (declarations fs) e.0 outside k e.1 ≡ ok r → name ≤ top_name → All (Written out_name) (flatten (scope kind name r.0))
      → FieldsFine kind (unresolve_fields r.0 (table_of e.0) (tables outside) []) → ScopeFine (scope kind name r.0) (unresolve_scope (scope kind name r.0) (tables outside))
  unfolding unresolve_scope
  scope_step kind name fs outside k e r p q l a F =
      subst (λ (x : List Declaration). ScopeFine (scope kind name r.0) (scope kind name (unresolve_fields r.0 x (tables outside) []))) (sym (table name fs outside k e r p q))
      (scope_again kind name r.0 _ l (scope_rows kind name r.0 a) F)

  module _ (heap : eqb 0 rules.heap ≡ false) where
    module _ (kind : ℕ) (i : Item) (fs : Fields) (ds : List Declaration) (here : Env) (outside : Outside) (b k : ℕ) (r : Fields × ℕ) (R : Ran i fs ds here outside b k r) where
      -- what the output says of this field and those behind it
      record Parts : Type 0 where
        own_good : GoodItem rules R.q.0 kind
        rest_good : GoodFields rules R.rs.0 kind
        heads : HeadsFit R.new
        own_rows_lem : All (Written out_name) (item_rows R.q.0)
        rest_rows_lem : All (Written out_name) (fields_rows R.rs.0)

      parts : GoodFields rules r.0 kind → All (Written out_name) (fields_rows r.0) → Parts
      parts g a =
          let g' = good_behind rules kind R.new (R.q.0 ▸ R.rs.0) (subst (λ (x : Fields × ℕ). GoodFields rules x.0 kind) (sym R.result) g) in
          let B = rows_behind R.new (R.q.0 ▸ R.rs.0) (subst (λ (x : Fields × ℕ). All (Written out_name) (fields_rows x.0)) (sym R.result) a) in
          let O = rows_of R.q.0 R.rs.0 B.fields in
          record { own_good = g'.0; rest_good = g'.1; heads = B.heads; own_rows_lem = O.item; rest_rows_lem = O.fields }

      field_fine : GoodItem rules i kind → LowFields (i ▸ fs) → Parts → Fine rules kind (restored_head (table_of here) (tables outside) R.new R.h)
      field_fine g low P =
          restored_fine rules kind ds here outside b R.e.k (head_of i) R.new R.h (ran_made rules heap kind i fs ds here outside b k r R g low.0)
          (own_good rules kind i g) (subst (GoodHead rules kind) (ran_head R) (own_good rules kind R.q.0 P.own_good)) low.0.decls P.heads
          (subst (λ (h : Head). All (Written out_name) (head_rows h)) (ran_head R) (own_rows_lem R.q.0 P.own_rows_lem))

      fields_next : LowDecls (head_of i).decls → ItemFine kind (unresolve_item R.q.0 (table_of here) (tables outside) R.new) → FieldsFine kind (unresolve_fields R.rs.0 (table_of here) (tables outside) [])
          → FieldsFine kind (unresolve_fields r.0 (table_of here) (tables outside) [])
      fields_next low I F =
          let own : is_inserted (head_of R.q.0) ≡ false = Lookups.low_original (head_of R.q.0) (subst LowDecls (sym (ran_decls R)) low) in
          let is : unresolve_fields r.0 (table_of here) (tables outside) [] ≡ unresolve_item R.q.0 (table_of here) (tables outside) R.new ▸ unresolve_fields R.rs.0 (table_of here) (tables outside) [] =
          ap (λ (x : Fields × ℕ). unresolve_fields x.0 (table_of here) (tables outside) []) (sym R.result) ∙ unresolve_before (table_of here) (tables outside) b R.e.k R.new R.q.0 R.rs.0 [] (ran_new R) own in
          subst (FieldsFine kind) (sym is) (next_fine kind _ _ I F)

    mutual
      unfolding resolve_scope

      scope_fine : (s : Scope) (outside : Outside) (k : ℕ) (r : Scope × ℕ) → GoodScope rules s → LowScope s → GoodScope rules r.0 → All (Written out_name) (flatten r.0)
          → resolve_scope s outside k ≡ ok r → ScopeFine r.0 (unresolve_scope r.0 (tables outside))
      scope_fine (scope kind name fs) outside k r good low g a e =
          let s₁ = bind_inv (prepare name fs outside k) _ r e in
          let s₂ = bind_inv (resolve_fields fs (declarations fs) s₁.0.0 outside k s₁.0.1) _ r s₁.2 in
          let same = ok_same _ r s₂.2 in
          let a' = subst (λ (x : Scope × ℕ). All (Written out_name) (flatten x.0)) (sym same) a in
          let g' = subst (λ (x : Scope × ℕ). GoodScope rules x.0) (sym same) g in
          subst (λ (x : Scope × ℕ). ScopeFine x.0 (unresolve_scope x.0 (tables outside))) same
          (scope_step kind name fs outside k s₁.0 s₂.0 s₁.1 s₂.1 low.0 a'
          (fields_fine kind fs (declarations fs) s₁.0.0 outside k s₁.0.1 s₂.0 good low.1 g' (scope_rows kind name s₂.0.0 a').fields s₂.1))

      fields_fine : (kind : ℕ) (fs : Fields) (ds : List Declaration) (here : Env) (outside : Outside) (b k : ℕ) (r : Fields × ℕ) → GoodFields rules fs kind → LowFields fs
          → GoodFields rules r.0 kind → All (Written out_name) (fields_rows r.0) → resolve_fields fs ds here outside b k ≡ ok r → FieldsFine kind (unresolve_fields r.0 (table_of here) (tables outside) [])
      fields_fine kind end ds here outside b k r good low g a e =
          subst (λ (x : Fields × ℕ). FieldsFine kind (unresolve_fields x.0 (table_of here) (tables outside) [])) (ran_end ds here outside b k r e) (end_fine kind (table_of here) (tables outside))
      fields_fine kind (i ▸ fs) ds here outside b k r good low g a e =
          let R = ran i fs ds here outside b k r e in
          let P = parts kind i fs ds here outside b k r R g a in
          let F = field_fine kind i fs ds here outside b k r R good.0 low P in
          fields_next kind i fs ds here outside b k r R low.0.decls
          (item_fine kind i R.h here outside k R.q R.new good.0 low.1 P.own_good P.own_rows_lem F R.items)
          (fields_fine kind fs ds here (onward i outside) R.e.k R.q.1 R.rs good.1 low.2 P.rest_good P.rest_rows_lem R.goes_on_lem)

      item_fine : (kind : ℕ) (i : Item) (h : Head) (here : Env) (outside : Outside) (k : ℕ) (q : Item × ℕ) (hs : List Head) → GoodItem rules i kind → LowItem i
          → GoodItem rules q.0 kind → All (Written out_name) (item_rows q.0) → Fine rules kind (restored_head (table_of here) (tables outside) hs h) → resolve_item i h here outside k ≡ ok q
          → ItemFine kind (unresolve_item q.0 (table_of here) (tables outside) hs)
      item_fine kind (plain h₀) h here outside k q hs good low g a F e =
          let same = ok_same _ q e in
          let g' = subst (λ (x : Item × ℕ). GoodItem rules x.0 kind) (sym same) g in
          subst (λ (x : Item × ℕ). ItemFine kind (unresolve_item x.0 (table_of here) (tables outside) hs)) same (plain_fine kind h (table_of here) (tables outside) hs F g'.1)
      item_fine kind (holds h₀ s) h here outside k q hs good low g a F e =
          let t = bind_inv (resolve_scope s (inward h₀ here outside) k) _ q e in
          let same = ok_same _ q t.2 in
          let g' = subst (λ (x : Item × ℕ). GoodItem rules x.0 kind) (sym same) g in
          let a' = inner_rows_lem h t.0.0 (subst (λ (x : Item × ℕ). All (Written out_name) (item_rows x.0)) (sym same) a) in
          subst (λ (x : Item × ℕ). ItemFine kind (unresolve_item x.0 (table_of here) (tables outside) hs)) same
          (holds_fine kind h t.0.0 (table_of here) (tables outside) hs F g'.1 g'.2 (scope_fine s (inward h₀ here outside) k t.0 good.3 low g'.3 a' t.1))

    -- For the output of an accepted form, of which all rows can be written, `unresolve` gives a form of its kind and name; its rows can be
    -- written as an input's.
    pub returned_form : (s : Scope) (r : Scope × ℕ) → GoodScope rules s → LowScope s → GoodScope rules r.0 → All (Written out_name) (flatten r.0) → resolve rules s ≡ ok r
        → ScopeFine r.0 (unresolve r.0)
    unfolding resolve unresolve
    returned_form s r good low g a e = scope_fine s (at_root rules []) 0 r good low g a e
