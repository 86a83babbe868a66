-- An output has no more declarations than its input has rows: every insertion uses up a row.
use Rattle.std.specs.Prelude.{◌≡◌, refl, List, [], ◌∷◌, ◌++◌, ℕ, suc, ◌+◌, ◌≤◌}
use Rattle.std.proofs.Math.Path.{subst}
use Rattle.std.proofs.Common.{arith, length-append}
use Rattle.std.proofs.Math.ListN.{length}
use Rattle.rules.specs.Versions.{RuleSet}
use Rattle.rules.specs.Tree.{Declaration, Head, Scope, scope, Fields, end, ◌▸◌, Item, plain, holds, head_of, head_rows, flatten, fields_rows, item_rows}
use Rattle.rules.specs.Rules.{ok, Env, Outside, at_root, onward, inward, declarations, heads_decls, prepare, resolve_inserted, ◌before◌, resolve_scope, resolve_fields, resolve_item, resolve}
use Rattle.rules.specs.Laws.Results.{holds_of, bind_inv, ok_same}
use Rattle.rules.proofs.Laws.Meaning.Runs
use Rattle.rules.proofs.Laws.Meaning.Runs.{Ran, ran, ran_end, ran_decls}
use Rattle.rules.proofs.Laws.Output.FourTimes.{inner, item_size, fields_size}
use Rattle.rules.proofs.Laws.Output.Counts.{head_counts, HeadCounts}
use Rattle.claim_laws.specs.RowParts.{scope_size}
use Rattle.names.specs.Table.{Slot}
use Rattle.back_laws.specs.Entered.{decl_slots, scope_slots, fields_slots, item_slots}

-- ---- how many there are

unfoldable mutual
  pub decls_scope : Scope → ℕ
  decls_scope (scope kind name fs) = decls_fields fs

  pub decls_fields : Fields → ℕ
  decls_fields end = 0
  decls_fields (i ▸ fs) = length (head_of i).decls + (decls_item i + decls_fields fs)

  pub decls_item : Item → ℕ
  decls_item (plain h) = 0
  decls_item (holds h s) = decls_scope s

slots_decls : (k : ℕ) (past ds : List Declaration) → length (decl_slots k past ds) ≡ length ds
unfolding decl_slots
slots_decls k past [] = refl
slots_decls k past (d ∷ ds) = let e = slots_decls k (past ++ (d ∷ [])) ds in omega arith

slots_fields : (n k : ℕ) (past : List Declaration) (i : Item) (fs : Fields) → length (item_slots (n + length (head_rows (head_of i))) i) ≡ decls_item i
    → length (fields_slots (n + length (item_rows i)) k (past ++ (head_of i).decls) fs) ≡ decls_fields fs → length (fields_slots n k past (i ▸ fs)) ≡ decls_fields (i ▸ fs)
unfolding scope_slots decls_scope
slots_fields n k past i fs p q =
    let D = decl_slots k past (head_of i).decls in
    let I = item_slots (n + length (head_rows (head_of i))) i in
    let F = fields_slots (n + length (item_rows i)) k (past ++ (head_of i).decls) fs in
    omega (arith, length-append D (I ++ F), length-append I F, slots_decls k past (head_of i).decls)

mutual
  unfolding scope_slots decls_scope

  pub slots_count : (t : Scope) (n : ℕ) → length (scope_slots n t) ≡ decls_scope t
  slots_count (scope kind name fs) n = fields_count fs (suc n) n []

  fields_count : (fs : Fields) (n k : ℕ) (past : List Declaration) → length (fields_slots n k past fs) ≡ decls_fields fs
  fields_count end n k past = refl
  fields_count (i ▸ fs) n k past = slots_fields n k past i fs (item_count i (n + length (head_rows (head_of i)))) (fields_count fs (n + length (item_rows i)) k (past ++ (head_of i).decls))

  item_count : (i : Item) (n : ℕ) → length (item_slots n i) ≡ decls_item i
  item_count (plain h) n = refl
  item_count (holds h s) n = slots_count s n

-- ---- of a run

before_decls : (hs : List Head) (fs : Fields) → decls_fields (◌before◌ hs fs) ≡ length (heads_decls hs) + decls_fields fs
unfolding ◌before◌ decls_scope heads_decls head_of
before_decls [] fs = omega arith
before_decls (h ∷ hs) fs = omega (arith, before_decls hs fs, length-append h.decls (heads_decls hs))

next_few : (i : Item) (fs : Fields) (ds : List Declaration) (here : Env) (outside : Outside) (b k : ℕ) (r : Fields × ℕ) (R : Ran i fs ds here outside b k r) → decls_item R.q.0 ≤ inner i
    → decls_fields R.rs.0 ≤ length (fields_rows fs) → decls_fields r.0 ≤ length (fields_rows (i ▸ fs))
next_few i fs ds here outside b k r R p q =
    let C : HeadCounts ds outside b (head_of i) R.e = holds_of _ _ R.e (head_counts ds outside b (head_of i)) R.expands in
    let counted = C.decls in
    let news : heads_decls R.new ≡ heads_decls R.e.inserted = holds_of _ _ R.new (Runs.inserted_decls here outside R.e.inserted) R.adds in
    let split = before_decls R.new (R.q.0 ▸ R.rs.0) in
    let first : decls_fields (R.q.0 ▸ R.rs.0) ≡ length (head_of i).decls + (decls_item R.q.0 + decls_fields R.rs.0) = unfold decls_scope in rw (ran_decls R) in
    let few : decls_fields (◌before◌ R.new (R.q.0 ▸ R.rs.0)) ≤ length (fields_rows (i ▸ fs)) = rw (split, first, news) (omega (arith, fields_size i fs, item_size i)) in
    subst (λ (x : Fields × ℕ). decls_fields x.0 ≤ length (fields_rows (i ▸ fs))) R.result few

mutual
  unfolding resolve_scope decls_scope inner

  scope_few : (s : Scope) (outside : Outside) (k : ℕ) (r : Scope × ℕ) → resolve_scope s outside k ≡ ok r → decls_scope r.0 ≤ length (flatten s)
  scope_few (scope kind name fs) outside k r e =
      let s₁ = bind_inv (prepare name fs outside k) _ r e in
      let s₂ = bind_inv (resolve_fields fs (declarations fs) s₁.0.0 outside k s₁.0.1) _ r s₁.2 in
      let f = fields_few fs (declarations fs) s₁.0.0 outside k s₁.0.1 s₂.0 s₂.1 in
      subst (λ (x : Scope × ℕ). decls_scope x.0 ≤ length (flatten (scope kind name fs))) (ok_same _ r s₂.2) (omega (arith, scope_size kind name fs))

  fields_few : (fs : Fields) (ds : List Declaration) (here : Env) (outside : Outside) (b k : ℕ) (r : Fields × ℕ) → resolve_fields fs ds here outside b k ≡ ok r → decls_fields r.0 ≤ length (fields_rows fs)
  fields_few end ds here outside b k r e = subst (λ (x : Fields × ℕ). decls_fields x.0 ≤ length (fields_rows end)) (ran_end ds here outside b k r e) (omega arith)
  fields_few (i ▸ fs) ds here outside b k r e =
      let R = ran i fs ds here outside b k r e in
      next_few i fs ds here outside b k r R (item_few i R.h here outside k R.q R.items) (fields_few fs ds here (onward i outside) R.e.k R.q.1 R.rs R.goes_on_lem)

  item_few : (i : Item) (h : Head) (here : Env) (outside : Outside) (k : ℕ) (q : Item × ℕ) → resolve_item i h here outside k ≡ ok q → decls_item q.0 ≤ inner i
  item_few (plain h₀) h here outside k q e = subst (λ (x : Item × ℕ). decls_item x.0 ≤ inner (plain h₀)) (ok_same _ q e) (omega arith)
  item_few (holds h₀ s) h here outside k q e =
      let t = bind_inv (resolve_scope s (inward h₀ here outside) k) _ q e in
      subst (λ (x : Item × ℕ). decls_item x.0 ≤ inner (holds h₀ s)) (ok_same _ q t.2) (scope_few s (inward h₀ here outside) k t.0 t.1)

pub few_declared : (rules : RuleSet) (s : Scope) (r : Scope × ℕ) → resolve rules s ≡ ok r → decls_scope r.0 ≤ length (flatten s)
unfolding resolve
few_declared rules s r e = scope_few s (at_root rules []) 0 r e
