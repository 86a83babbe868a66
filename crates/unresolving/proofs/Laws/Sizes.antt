-- An output tells how many rows its input had: the rows of its own fields, and one PATH for each inserted alias of an export.
use Rattle.std.specs.Prelude.{◌≡◌, false, ℕ, suc, ◌+◌, length}
use Rattle.std.proofs.Math.Path.{refl}
use Rattle.std.proofs.Common.{sym, ◌∙◌, subst, arith}
use Rattle.std.proofs.Math.Option.{Option, none, some}
use mathlib.Core.List.{List, [], ◌∷◌, ◌++◌}
use Rattle.std.proofs.Math.ListN.{length-append}
use Rattle.rules.specs.Tools.{when◌then◌else◌}
use Rattle.rules.specs.Versions.{RuleSet}
use Rattle.rules.specs.Rows.{Index, Num, Id}
use Rattle.rules.specs.Tree.{Declaration, Operand, ref, outer, case, Head, Scope, scope, Fields, end, ◌▸◌, Item, plain, holds, head_of, with_operands, path_rows, operand_row, operand_rows, export_rows, head_rows, flatten, fields_rows}
use Rattle.rules.specs.Rules
use Rattle.rules.specs.Rules.{ok, Env, Outside, at_root, onward, inward, Expanded, expand_operand, expand_operands, expand_head, path_aliases, export_alias, outer_alias, ◌before◌, resolve_head, resolve_inserted, resolve_scope, resolve_fields, resolve_item, resolve}
use Rattle.rules.specs.Readings.{is_inserted}
use Rattle.rules.specs.Laws.Results.{OkR, bind_ok, bind_any, bind_eq, if_both, holds_of}
use Rattle.rules.specs.Laws.Meaning.Names.{LowDecls, LowScope, LowFields, LowItem}
use Rattle.rules.proofs.Laws.Meaning.Runs
use Rattle.rules.proofs.Laws.Meaning.Runs.{AllNew}
use Rattle.rules.proofs.Laws.Meaning.Lookups
use Rattle.rules.proofs.Laws.Output.FourTimes.{paths_length, head_length, head_same, inner, item_size, fields_size}

-- ---- what is counted

-- the PATHs that inserted fields stand for
paths : List Head → ℕ
paths [] = 0
paths (h ∷ hs) = length (export_rows h.export) + paths hs

own_size : Head → ℕ
own_size h = when is_inserted h then length (export_rows h.export) else length (head_rows h)

mutual
  pub input_size : Scope → ℕ
  input_size (scope kind name fs) = 2 + input_sizes fs

  pub input_sizes : Fields → ℕ
  input_sizes end = 0
  input_sizes (i ▸ fs) = input_size_item i + input_sizes fs

  pub input_size_item : Item → ℕ
  input_size_item (plain h) = own_size h
  input_size_item (holds h s) = own_size h + input_size s

-- ---- step B

paths_append : (xs ys : List Head) → paths (xs ++ ys) ≡ paths xs + paths ys
unfolding paths
paths_append [] ys = omega arith
paths_append (x ∷ xs) ys = rw (paths_append xs ys) (omega arith)

aliases_paths : (space : ℕ) (at : Index) (p : ℕ) (ps : List ℕ) (z k : ℕ) → paths (path_aliases space at p ps z k) ≡ suc (length ps)
unfolding paths path_aliases export_alias export_rows
aliases_paths space at p [] z k = if_both (λ (h : Head). paths (h ∷ []) ≡ 1) _ _ _ refl refl
aliases_paths space at p (q ∷ ps) z k = rw (aliases_paths space (Id (Rules.fresh k)) q ps z (suc k)) (omega arith)

abbrev Told : Operand → Expanded Operand → Type 0
Told o e = length (operand_row o) ≡ length (operand_row e.now) + paths e.inserted

same_told : (o : Operand) (k : ℕ) → Told o (Rules.as_it_is o k)
unfolding Rules.as_it_is paths
same_told o k = omega arith

found_told : (space name z k : ℕ) (o : Option (ℕ × ℕ)) → OkR (Told (ref space (Id name) [] z)) (Rules.found_at space name z k o)
unfolding Rules.found_at Rules.through outer_alias paths operand_row path_rows export_rows
found_told space name z k none = same_told _ k
found_told space name z k (some at) = if_both (OkR (Told (ref space (Id name) [] z))) _ _ _ refl tt

module _ (ds : List Declaration) (outside : Outside) where
  operand_told : (k : ℕ) (o : Operand) → OkR (Told o) (expand_operand ds outside k o)
  unfolding expand_operand Rules.through operand_row path_rows
  operand_told k (ref space (Num n) [] z) = same_told _ k
  operand_told k (ref space (Id name) [] z) = bind_any _ _ _ (λ u. if_both (OkR _) _ _ _ (same_told _ k) (found_told space name z k _))
  operand_told k (ref space at (p ∷ ps) z) = if_both (OkR _) _ _ _ tt (omega (arith, aliases_paths space at p ps z k, paths_length ps))
  operand_told k (outer space up at z) = same_told _ k
  operand_told k (case name z) = same_told _ k

  operands_told : (k : ℕ) (os : List Operand) → OkR (λ e. length (operand_rows os) ≡ length (operand_rows e.now) + paths e.inserted) (expand_operands ds outside k os)
  unfolding expand_operands operand_rows Rules.as_it_is paths
  operands_told k [] = refl
  operands_told k (o ∷ os) = bind_ok _ _ _ _ (operand_told k o) (λ e f. bind_ok _ _ _ _ (operands_told e.k os) (λ es g.
      omega (arith, paths_append e.inserted es.inserted, length-append (operand_row e.now) (operand_rows es.now), length-append (operand_row o) (operand_rows os))))

  head_told : (k : ℕ) (h : Head) → OkR (λ e. length (head_rows h) ≡ length (head_rows e.now) + paths e.inserted) (expand_head ds outside k h)
  unfolding expand_head with_operands Rules.as_it_is paths
  head_told k h =
      if_both (OkR _) _ _ _ (omega arith) (bind_ok _ _ _ _ (operands_told k h.operands) (λ e f. omega (arith, head_length h, head_length (with_operands h e.now))))

-- ---- step C

module _ (here : Env) (outside : Outside) where
  export_same : (h : Head) → OkR (λ h'. h'.export ≡ h.export) (resolve_head here outside h)
  unfolding resolve_head with_operands
  export_same h = bind_any _ _ _ (λ os. refl)

  inserted_told : (hs : List Head) → OkR (λ hs'. paths hs' ≡ paths hs) (resolve_inserted here outside hs)
  unfolding resolve_inserted paths
  inserted_told [] = refl
  inserted_told (h ∷ hs) = bind_any _ _ _ (λ u. bind_ok (λ (h' : Head). h'.export ≡ h.export) _ _ _ (export_same h) (λ h' e. bind_ok (λ (hs' : List Head). paths hs' ≡ paths hs) _ _ _ (inserted_told hs) (λ hs' es. rw (e, es))))

-- ---- the walk

before_told : (lo hi : ℕ) (hs : List Head) (fs : Fields) → AllNew lo hi hs → input_sizes (◌before◌ hs fs) ≡ paths hs + input_sizes fs
unfolding ◌before◌ paths input_size own_size when◌then◌else◌
before_told lo hi [] fs n = omega arith
before_told lo hi (h ∷ hs) fs n = rw (Lookups.new_inserted lo hi h n.0, before_told lo hi hs fs n.1) (omega arith)

fields_told : (j : Item) (fs : Fields) → input_sizes (j ▸ fs) ≡ input_size_item j + input_sizes fs
unfolding input_size
fields_told j fs = refl

own_told : (h : Head) → is_inserted h ≡ false → own_size h ≡ length (head_rows h)
unfolding own_size when◌then◌else◌
own_told h e = rw e

scope_told : (kind name : ℕ) (fs out : Fields) → length (fields_rows fs) ≡ input_sizes out → length (flatten (scope kind name fs)) ≡ input_size (scope kind name out)
unfolding flatten input_size
scope_told kind name fs out e = simp length-append (omega arith)

end_told : length (fields_rows end) ≡ input_sizes end
unfolding flatten input_size
end_told = refl

plain_told : (h₀ h : Head) → is_inserted h ≡ false → input_size_item (plain h) ≡ length (head_rows h) + inner (plain h₀)
unfolding input_size inner
plain_told h₀ h e = rw (own_told h e) (omega arith)

holds_told : (h₀ h : Head) (s s' : Scope) → is_inserted h ≡ false → length (flatten s) ≡ input_size s' → input_size_item (holds h s') ≡ length (head_rows h) + inner (holds h₀ s)
unfolding input_size inner
holds_told h₀ h s s' e q = rw (own_told h e, q)

still_original : (ds : List Declaration) (here : Env) (outside : Outside) (b : ℕ) (h₀ : Head) (e : Expanded Head) (h : Head) → LowDecls h₀.decls → expand_head ds outside b h₀ ≡ ok e
    → resolve_head here outside e.now ≡ ok h → is_inserted h ≡ false
still_original ds here outside b h₀ e h low ee eh =
    let now : h.decls ≡ e.now.decls = (holds_of (Runs.SameDecls e.now) _ h (Runs.head_same here outside e.now) eh).0 in
    let was : e.now.decls ≡ h₀.decls = (holds_of (λ (x : Expanded Head). Runs.SameDecls h₀ x.now) _ e (Runs.expanded_same ds outside b h₀) ee).0 in
    Lookups.low_original h (subst LowDecls (sym (now ∙ was)) low)

mutual
  unfolding resolve_scope

  scope_rows : (s : Scope) (outside : Outside) (k : ℕ) → LowScope s → OkR (λ r. length (flatten s) ≡ input_size r.0) (resolve_scope s outside k)
  scope_rows (scope kind name fs) outside k low =
      bind_any _ _ _ (λ e. bind_ok _ _ _ _ (fields_rows_lem fs _ e.0 outside k e.1 low.1) (λ r f. scope_told kind name fs r.0 f))

  fields_rows_lem : (fs : Fields) (ds : List Declaration) (here : Env) (outside : Outside) (b k : ℕ) → LowFields fs
      → OkR (λ r. length (fields_rows fs) ≡ input_sizes r.0) (resolve_fields fs ds here outside b k)
  fields_rows_lem end ds here outside b k low = end_told
  fields_rows_lem (i ▸ fs) ds here outside b k low =
      bind_eq _ _ _ (λ e ee.
      bind_eq _ _ _ (λ new en.
      bind_eq _ _ _ (λ h eh.
      let told = holds_of _ _ e (head_told ds outside b (head_of i)) ee in
      let news = holds_of _ _ new (inserted_told here outside e.inserted) en in
      let same = holds_of _ _ h (head_same here outside e.now) eh in
      let grown : Runs.Grown b e = holds_of _ _ e (Runs.head_grown ds outside b (head_of i)) ee in
      let new-ones : AllNew b e.k new = holds_of _ _ new (Runs.inserted_new here outside b e.k e.inserted grown.1) en in
      let own = still_original ds here outside b (head_of i) e h low.0.decls ee eh in
      bind_ok _ _ _ _ (item_rows_lem i h here outside k low.1 own) (λ q f.
      bind_ok _ _ _ _ (fields_rows_lem fs ds here (onward i outside) e.k q.1 low.2) (λ rs g.
      omega (arith, told, news, same, f, g, before_told b e.k new (q.0 ▸ rs.0) new-ones, fields_told q.0 rs.0, fields_size i fs, item_size i))))))

  item_rows_lem : (i : Item) (h : Head) (here : Env) (outside : Outside) (k : ℕ) → LowItem i → is_inserted h ≡ false
      → OkR (λ q. input_size_item q.0 ≡ length (head_rows h) + inner i) (resolve_item i h here outside k)
  item_rows_lem (plain h₀) h here outside k low e = plain_told h₀ h e
  item_rows_lem (holds h₀ s) h here outside k low e = bind_ok _ _ _ _ (scope_rows s (inward h₀ here outside) k low) (λ r f. holds_told h₀ h s r.0 e f)

-- Inputs with the same output have the same number of rows.
pub same_rows : (rules : RuleSet) (s u : Scope) (r : Scope × ℕ) → LowScope s → LowScope u → resolve rules s ≡ ok r → resolve rules u ≡ ok r → length (flatten u) ≡ length (flatten s)
unfolding resolve
same_rows rules s u r low low' e e' =
    holds_of (λ (x : Scope × ℕ). length (flatten u) ≡ input_size x.0) _ r (scope_rows u (at_root rules []) 0 low') e'
    ∙ sym (holds_of (λ (x : Scope × ℕ). length (flatten s) ≡ input_size x.0) _ r (scope_rows s (at_root rules []) 0 low) e)
