-- Condition 3 of the checker holds of what the resolver writes: the names that it inserts rise, so that each is new.
use Rattle.std.specs.Prelude.{◌≡◌, Bool, true, false, ℕ, suc, ◌+◌, ◌<◌, eqb, length}
use Rattle.std.proofs.Math.Path.{refl}
use Rattle.std.proofs.Common.{ap, sym, ◌∙◌, subst, arith}
use Rattle.std.proofs.Math.Option.{Option, none, some, map}
use mathlib.Core.List.{List, [], ◌∷◌, ◌++◌}
use Rattle.rules.specs.Tools.{when◌then◌else◌, ◌or_else◌}
use Rattle.rules.specs.Versions.{RuleSet}
use Rattle.rules.specs.Rows.{Index, Num, Id}
use Rattle.rules.specs.Tree.{Declaration, Operand, ref, outer, case, Head, Scope, scope, Fields, end, ◌▸◌, Item, plain, holds, head_of, head_rows, item_rows}
use Rattle.rules.specs.Rules
use Rattle.rules.specs.Rules.{ok, Env, Outside, at_root, onward, inward, find, fresh, Expanded, expand_operand, expand_operands, expand_head, path_aliases, resolve_inserted, resolve_scope, resolve_fields, resolve_item, ◌before◌, resolve}
use Rattle.rules.specs.Readings.{is_inserted, fields_of}
use Rattle.checking.specs.Check
use Rattle.checking.specs.Check.{has_numbers, not_new, not_number, no_alias, scope_added, fields_added, item_added, condition3}
use Rattle.rules.specs.Laws.ToolLaws.{eqb-false}
use Rattle.rules.specs.Laws.Results.{OkR, bind_ok, bind_any, bind_eq, if_both, holds_of}
use Rattle.rules.specs.Laws.Meaning.Names.{LowDecls, DeclScope, DeclFields, DeclItem}
use Rattle.rules.proofs.Laws.Meaning.Runs
use Rattle.rules.proofs.Laws.Meaning.Lookups
use Rattle.rules.proofs.Laws.Output.Kept.{Alias, AliasesScope, AliasesFields, AliasesItem}
use Rattle.rules.proofs.Laws.Output.Numbers.{AllNumbered, NumberedScope, NumberedFields, NumberedItem}

-- ---- names that rise

-- one declaration, of this fresh name
pub record Named (k : ℕ) (h : Head) : Type 0 where
  pub decl : Declaration
  pub alone : h.decls ≡ decl ∷ []
  pub named : decl.name ≡ fresh k

-- the fields are named from `lo` on, and `hi` is the next
abbrev pub Rising : (lo : ℕ) → List Head → (hi : ℕ) → Type 0
Rising lo [] hi = lo ≡ hi
Rising lo (h ∷ hs) hi = Named lo h × Rising (suc lo) hs hi

rising_append : (lo mid hi : ℕ) (xs ys : List Head) → Rising lo xs mid → Rising mid ys hi → Rising lo (xs ++ ys) hi
rising_append lo mid hi [] ys p q = subst (λ (k : ℕ). Rising k ys hi) (sym p) q
rising_append lo mid hi (x ∷ xs) ys p q = (p.0, rising_append (suc lo) mid hi xs ys p.1 q)

paths_rising : (space : ℕ) (at : Index) (p : ℕ) (ps : List ℕ) (z k : ℕ) → Rising k (path_aliases space at p ps z k) (suc (k + length ps))
unfolding path_aliases Rules.export_alias
paths_rising space at p [] z k = (if_both (Named k) _ _ _ (record { decl = _; alone = refl; named = refl }) (record { decl = _; alone = refl; named = refl }), omega arith)
paths_rising space at p (q ∷ ps) z k = (
  record { decl = _; alone = refl; named = refl },
  subst (Rising (suc k) (path_aliases space (Id (fresh k)) q ps z (suc k))) (omega arith) (paths_rising space (Id (fresh k)) q ps z (suc k)),
)

abbrev Rises : {A : Type 0} → ℕ → Expanded A → Type 0
Rises k e = Rising k e.inserted e.k

found_rising : (space name z k : ℕ) (o : Option (ℕ × ℕ)) → OkR (Rises k) (Rules.found_at space name z k o)
unfolding Rules.found_at Rules.through Rules.outer_alias Rules.as_it_is
found_rising space name z k none = refl
found_rising space name z k (some at) = if_both (OkR (Rises k)) _ _ _ (record { decl = _; alone = refl; named = refl }, refl) tt

module _ (ds : List Declaration) (outside : Outside) where
  pub operand_rising : (k : ℕ) (o : Operand) → OkR (Rises k) (expand_operand ds outside k o)
  unfolding expand_operand Rules.through Rules.as_it_is
  operand_rising k (ref space (Num n) [] z) = refl
  operand_rising k (ref space (Id name) [] z) = bind_any _ _ _ (λ u. if_both (OkR (Rises k)) _ _ _ refl (found_rising space name z k _))
  operand_rising k (ref space at (p ∷ ps) z) = if_both (OkR (Rises k)) _ _ _ tt (paths_rising space at p ps z k)
  operand_rising k (outer space up at z) = refl
  operand_rising k (case name z) = refl

  pub operands_rising : (k : ℕ) (os : List Operand) → OkR (Rises k) (expand_operands ds outside k os)
  unfolding expand_operands Rules.as_it_is
  operands_rising k [] = refl
  operands_rising k (o ∷ os) =
      bind_ok _ _ _ _ (operand_rising k o) (λ e p. bind_ok _ _ _ _ (operands_rising e.k os) (λ es q. rising_append k e.k es.k e.inserted es.inserted p q))

  pub head_rising : (k : ℕ) (h : Head) → OkR (Rises k) (expand_head ds outside k h)
  unfolding expand_head Rules.as_it_is
  head_rising k h = if_both (OkR (Rises k)) _ _ _ refl (bind_ok _ _ _ _ (operands_rising k h.operands) (λ e p. p))

pub inserted_rising : (here : Env) (outside : Outside) (lo hi : ℕ) (hs : List Head) → Rising lo hs hi → OkR (λ new. Rising lo new hi) (resolve_inserted here outside hs)
unfolding resolve_inserted
inserted_rising here outside lo hi [] p = p
inserted_rising here outside lo hi (h ∷ hs) p =
    bind_any _ _ _ (λ u. bind_ok _ _ _ _ (Runs.head_same here outside h) (λ h' s. bind_ok _ _ _ _ (inserted_rising here outside (suc lo) hi hs p.1)
    (λ hs' q. (record { decl = p.0.decl; alone = s.0 ∙ p.0.alone; named = p.0.named }, q))))

-- ---- a scope whose inserted names rise

mutual
  data Fresh : ℕ → Fields → Type 0 where
    stop : {lo : ℕ} → Fresh lo end
    new : {lo : ℕ} {h : Head} {fs : Fields} → Named lo h → Fresh (suc lo) fs → Fresh lo (plain h ▸ fs)
    own : {lo : ℕ} {i : Item} {fs : Fields} → LowDecls (head_of i).decls → FreshItem i → Fresh lo fs → Fresh lo (i ▸ fs)

  data FreshItem : Item → Type 0 where
    leaf : {h : Head} → FreshItem (plain h)
    inner : {h : Head} {s : Scope} (lo : ℕ) → Fresh lo (fields_of s) → FreshItem (holds h s)

before_fresh : (lo hi : ℕ) (hs : List Head) (fs : Fields) → Rising lo hs hi → Fresh hi fs → Fresh lo (◌before◌ hs fs)
unfolding ◌before◌
before_fresh lo hi [] fs p f = subst (λ (k : ℕ). Fresh k fs) (sym p) f
before_fresh lo hi (h ∷ hs) fs p f = new p.0 (before_fresh (suc lo) hi hs fs p.1 f)

abbrev FreshScope : Scope → Type 0
FreshScope s = (lo : ℕ) × Fresh lo (fields_of s)

mutual
  unfolding resolve_scope

  scope_fresh : (s : Scope) (outside : Outside) (k : ℕ) → DeclScope s → OkR (λ r. FreshScope r.0) (resolve_scope s outside k)
  scope_fresh (scope kind name fs) outside k low =
      bind_any _ _ _ (λ e. bind_ok _ _ _ _ (fields_fresh fs _ e.0 outside k e.1 low) (λ r f. (k, f)))

  fields_fresh : (fs : Fields) (ds : List Declaration) (here : Env) (outside : Outside) (b k : ℕ) → DeclFields fs → OkR (λ r. Fresh b r.0) (resolve_fields fs ds here outside b k)
  fields_fresh end ds here outside b k low = stop
  fields_fresh (i ▸ fs) ds here outside b k low =
      bind_eq _ _ _ (λ e ee.
      bind_ok _ _ _ _ (inserted_rising here outside b e.k e.inserted (holds_of _ _ e (head_rising ds outside b (head_of i)) ee)) (λ news p.
      bind_eq _ _ _ (λ h eh.
      let same : h.decls ≡ (head_of i).decls = (holds_of (Runs.SameDecls e.now) _ h (Runs.head_same here outside e.now) eh).0
      ∙ (holds_of (λ (x : Expanded Head). Runs.SameDecls (head_of i) x.now) _ e (Runs.expanded_same ds outside b (head_of i)) ee).0 in
      bind_eq _ _ _ (λ q eq.
      let head : head_of q.0 ≡ h = holds_of _ _ q (Runs.item_head here outside i h k) eq in
      let lows : LowDecls (head_of q.0).decls = subst LowDecls (sym (ap (λ (x : Head). x.decls) head ∙ same)) low.0 in
      bind_ok _ _ _ _ (fields_fresh fs ds here (onward i outside) e.k q.1 low.2) (λ rs f.
      before_fresh b e.k news (q.0 ▸ rs.0) p (own lows (holds_of _ _ q (item_fresh i h here outside k low.1) eq) f))))))

  item_fresh : (i : Item) (h : Head) (here : Env) (outside : Outside) (k : ℕ) → DeclItem i → OkR (λ q. FreshItem q.0) (resolve_item i h here outside k)
  item_fresh (plain h₀) h here outside k low = leaf
  item_fresh (holds h₀ s) h here outside k low = bind_ok _ _ _ _ (scope_fresh s (inward h₀ here outside) k low) (λ r f. inner f.0 f.1)

-- ---- so condition 3 holds

-- the names are below this fresh one
abbrev Below : ℕ → List Declaration → Type 0
Below k [] = Unit {0}
Below k (d ∷ ds) = (d.name < fresh k) × Below k ds

below_append : (k : ℕ) (xs ys : List Declaration) → Below k xs → Below k ys → Below k (xs ++ ys)
below_append k [] ys p q = q
below_append k (x ∷ xs) ys p q = (p.0, below_append k xs ys p.1 q)

below_wider : (k : ℕ) (ds : List Declaration) → Below k ds → Below (suc k) ds
unfolding fresh
below_wider k [] p = tt
below_wider k (d ∷ ds) p = (omega (arith, p.0), below_wider k ds p.1)

low_below : (k : ℕ) (ds : List Declaration) → LowDecls ds → Below k ds
unfolding fresh
low_below k [] p = tt
low_below k (d ∷ ds) p = (omega (arith, p.0), low_below k ds p.1)

not_found : (a : Bool) (o : Option ℕ) → o ≡ none → (when a then when false then some 0 else map suc o else o) ≡ none
unfolding when◌then◌else◌
not_found true o e = rw e
not_found false o e = e

below_new : (k : ℕ) (ds : List Declaration) (space : ℕ) → Below k ds → find ds space (fresh k) ≡ none
unfolding find
below_new k [] space p = refl
below_new k (d ∷ ds) space p =
    let other : eqb d.name (fresh k) ≡ false = eqb-false d.name (fresh k) (λ e. omega (arith, p.0)) in
    rw other (not_found (eqb d.space space) (find ds space (fresh k)) (below_new k ds space p.1))

numbers_pass : (n : ℕ) (os : List Operand) → AllNumbered os → not_number n os ≡ none
unfolding not_number has_numbers Check.is_number when◌then◌else◌
numbers_pass n [] a = refl
numbers_pass n (ref space (Num m) [] z ∷ os) a = numbers_pass (suc n) os a.1
numbers_pass n (ref space (Num m) (p ∷ ps) z ∷ os) a = absurd a.0
numbers_pass n (ref space (Id name) paths z ∷ os) a = absurd a.0
numbers_pass n (outer space (Num d) (Num m) z ∷ os) a = numbers_pass (suc n) os a.1
numbers_pass n (outer space (Num d) (Id name) z ∷ os) a = absurd a.0
numbers_pass n (outer space (Id name) at z ∷ os) a = absurd a.0
numbers_pass n (case name z ∷ os) a = numbers_pass (suc n) os a.1

-- an added field with the next fresh name
alias_passes : (n k : ℕ) (ds : List Declaration) (h : Head) → Below k ds → Named k h → Alias h → AllNumbered h.operands → no_alias n ds h ≡ none
unfolding no_alias not_new when◌then◌else◌ ◌or_else◌
alias_passes n k ds h b m a o =
    rw (a.code, m.alone, m.named, below_new k ds m.decl.space b) (numbers_pass _ h.operands o)

named_inserted : (k : ℕ) (h : Head) → Named k h → is_inserted h ≡ true
named_inserted k h m = Lookups.new_inserted k (suc k) h (record { decl = m.decl; alone = m.alone; number = k; named = m.named; low = omega arith; high = omega arith })

added_next : (n : ℕ) (past : List Declaration) (i : Item) (fs : Fields) → (when is_inserted (head_of i) then no_alias n past (head_of i) else none) ≡ none
    → item_added (n + length (head_rows (head_of i))) i ≡ none → fields_added (n + length (item_rows i)) (past ++ (head_of i).decls) fs ≡ none → fields_added n past (i ▸ fs) ≡ none
unfolding scope_added ◌or_else◌
added_next n past i fs p q r = rw (p, q, r)

plain_passes : (n : ℕ) (h : Head) → item_added n (plain h) ≡ none
unfolding scope_added
plain_passes n h = refl

holds_passes : (n : ℕ) (h : Head) (s : Scope) → scope_added n s ≡ none → item_added n (holds h s) ≡ none
unfolding scope_added
holds_passes n h s e = e

inside_passes : (n kind name : ℕ) (fs : Fields) → fields_added (suc n) [] fs ≡ none → scope_added n (scope kind name fs) ≡ none
unfolding scope_added
inside_passes n kind name fs e = e

end_passes : (n : ℕ) (past : List Declaration) → fields_added n past end ≡ none
unfolding scope_added
end_passes n past = refl

if_true : (n : ℕ) (past : List Declaration) (h : Head) → is_inserted h ≡ true → no_alias n past h ≡ none → (when is_inserted h then no_alias n past h else none) ≡ none
unfolding when◌then◌else◌
if_true n past h e p = rw e p

if_false : (n : ℕ) (past : List Declaration) (h : Head) → is_inserted h ≡ false → (when is_inserted h then no_alias n past h else none) ≡ none
unfolding when◌then◌else◌
if_false n past h e = rw e

numbered_own : (i : Item) → NumberedItem i → AllNumbered (head_of i).operands
unfolding head_of
numbered_own (plain h) n = n
numbered_own (holds h s) n = n.0

named_below : (k : ℕ) (h : Head) → Named k h → Below (suc k) h.decls
unfolding fresh
named_below k h m = rw (m.alone, m.named) (omega arith, tt)

mutual
  unfolding head_of

  scope_passes : (n : ℕ) (s : Scope) → FreshScope s → AliasesScope s → NumberedScope s → scope_added n s ≡ none
  scope_passes n (scope kind name fs) f a m = inside_passes n kind name fs (fields_pass f.0 (suc n) [] fs f.1 tt a m)

  fields_pass : (lo n : ℕ) (past : List Declaration) (fs : Fields) → Fresh lo fs → Below lo past → AliasesFields fs → NumberedFields fs → fields_added n past fs ≡ none
  fields_pass lo n past end stop b a m = end_passes n past
  fields_pass lo n past (plain h ▸ fs) (new x f) b a m =
      let t = named_inserted lo h x in
      added_next n past (plain h) fs (if_true n past h t (alias_passes n lo past h b x (a.0 t) m.0)) (plain_passes _ h)
      (fields_pass (suc lo) _ (past ++ h.decls) fs f (below_append (suc lo) past h.decls (below_wider lo past b) (named_below lo h x)) a.2 m.1)
  fields_pass lo n past (i ▸ fs) (own l x f) b a m =
      added_next n past i fs (if_false n past (head_of i) (Lookups.low_original (head_of i) l)) (item_passes _ i x a.1 m.0)
      (fields_pass lo _ (past ++ (head_of i).decls) fs f (below_append lo past (head_of i).decls b (low_below lo (head_of i).decls l)) a.2 m.1)

  item_passes : (n : ℕ) (i : Item) → FreshItem i → AliasesItem i → NumberedItem i → item_added n i ≡ none
  item_passes n (plain h) leaf a m = plain_passes n h
  item_passes n (holds h s) (inner lo f) a m = holds_passes n h s (scope_passes n s (lo, f) a m.1)

pub passes_3 : (rules : RuleSet) (s : Scope) (r : Scope × ℕ) → DeclScope s → resolve rules s ≡ ok r → AliasesScope r.0 → NumberedScope r.0 → condition3 r.0 ≡ none
unfolding condition3 resolve
passes_3 rules s r low e a m = scope_passes 0 r.0 (holds_of (λ (x : Scope × ℕ). FreshScope x.0) _ r (scope_fresh s (at_root rules []) 0 low) e) a m
