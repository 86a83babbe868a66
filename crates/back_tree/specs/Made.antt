-- What an accepted run leaves: before the input's own fields stand inserted ones, and the names of a scope's follow one another.
use Rattle.std.specs.Prelude.{◌≡◌, refl, Bool, ℕ, suc, ◌+◌, ◌<◌, eqb}
use Rattle.std.proofs.Common.{sym, subst, arith}
use Rattle.std.proofs.Math.Bool.{true, false}
use mathlib.Core.List.{List, [], ◌∷◌}
use Rattle.std.proofs.Math.ListN.{length}
use Rattle.rules.specs.Tools.{when◌then◌else◌, is_in}
use Rattle.rules.specs.Versions.{RuleSet}
use Rattle.rules.specs.Rows.{Num}
use Rattle.rules.specs.Tree.{Declaration, Head, Scope, scope, Fields, end, ◌▸◌, Item, plain, holds, head_of, with_operands}
use Rattle.rules.specs.Shapes.{FOUR, here_only}
use Rattle.rules.specs.Good.{GoodScope, GoodFields, GoodItem}
use Rattle.rules.specs.Rules
use Rattle.rules.specs.Rules.{ok, ◌>>=◌, Env, Outside, at_root, onward, inward, fresh, declarations, Expanded, outer_alias, expand_operands, expand_head, prepare, resolve_operands, resolve_head, resolve_inserted, ◌before◌, resolve_scope, resolve_fields, resolve_item, resolve}
use Rattle.rules.specs.Laws.ToolLaws.{or_cases, or-false, eqb-true}
use Rattle.rules.specs.Laws.Results.{bind_inv, ok_same}
use Rattle.rules.specs.Laws.Meaning.Names.{LowDecls, LowHead, LowScope, LowFields, LowItem}
use Rattle.rules.proofs.Laws.Meaning.Runs.{Ran, ran, ran_end, ran_decls}
use Rattle.rules.proofs.Laws.Output.Well.{own_good}
use Rattle.unresolving.proofs.Laws.Shaped.{AllMay}
use Rattle.unresolving.proofs.Laws.Tables.{MayPath, head_may}
use Rattle.unresolving.proofs.Laws.Aliases.{path_alias, Alias, outward, exported, Aliases}
use Rattle.unresolving.proofs.Laws.Divided.{divided}

-- ---- what is said

-- insertion number k of the run
pub data Shape (k : ℕ) (a : Head) : Type 0 where
  leads : (space d n z : ℕ) → space < 13 → a ≡ outer_alias space (fresh k) d n z → Shape k a
  exports : (space n p z : ℕ) → a ≡ path_alias space (fresh k) (Num n) p z → Shape k a

-- those of one field, from number k on
abbrev pub InOrder : (k : ℕ) → List Head → Type 0
InOrder k [] = Unit {0}
InOrder k (a ∷ hs) = Shape k a × InOrder (suc k) hs

-- b is the number of the next insertion
mutual
  pub data MadeScope : Scope → Type 0 where
    with_fields : {kind name : ℕ} {fs : Fields} (b : ℕ) → MadeFields b fs → MadeScope (scope kind name fs)

  pub data MadeFields : ℕ → Fields → Type 0 where
    no_more : {b : ℕ} → MadeFields b end
    inserted : {b : ℕ} {h : Head} {fs : Fields} → Shape b h → MadeFields (suc b) fs → MadeFields b (plain h ▸ fs)
    own : {b : ℕ} {i : Item} {fs : Fields} → LowDecls (head_of i).decls → MadeItem i → MadeFields b fs → MadeFields b (i ▸ fs)

  pub data MadeItem : Item → Type 0 where
    simple : {h : Head} → MadeItem (plain h)
    nested : {h : Head} {s : Scope} → MadeScope s → MadeItem (holds h s)

-- ---- one field of a run

before_made : (b : ℕ) (hs : List Head) (fs : Fields) → InOrder b hs → MadeFields (b + length hs) fs → MadeFields b (◌before◌ hs fs)
unfolding ◌before◌
before_made b [] fs s m = subst (λ (x : ℕ). MadeFields x fs) (omega arith) m
before_made b (h ∷ hs) fs s m = inserted s.0 (before_made (suc b) hs fs s.1 (subst (λ (x : ℕ). MadeFields x fs) (omega arith) m))

four_below : (space : ℕ) → is_in space FOUR ≡ true → space < 13
four_below space e =
    or_cases (eqb space 4) _ e (λ t. let q = eqb-true space 4 t in omega arith)
    (λ e₁. or_cases (eqb space 7) _ e₁ (λ t. let q = eqb-true space 7 t in omega arith)
    (λ e₂. or_cases (eqb space 9) _ e₂ (λ t. let q = eqb-true space 9 t in omega arith)
    (λ e₃. let q = eqb-true space 11 (or-false (eqb space 11) e₃) in omega arith)))

module _ (Q : ℕ → Type 0) (ds : List Declaration) (here : Env) (outside : Outside) where
  shape : (k : ℕ) (a : Head) → Alias Q ds outside k a → Shape k a
  shape k a (outward space name z at l four t f w i) = leads space at.0 at.1 z (four_below space four) i
  shape k a (exported space n p z may s i) = exports space n p z i

  in_order : (k : ℕ) (hs : List Head) → Aliases Q ds outside k hs → InOrder k hs
  in_order k [] a = tt
  in_order k (h ∷ hs) a = (shape k h a.0, in_order (suc k) hs a.1)

  -- what was inserted before it
  head_order : (b : ℕ) (h : Head) (e : Expanded Head) (hs : List Head) (h' : Head) → AllMay Q h.operands → expand_head ds outside b h ≡ ok e → resolve_inserted here outside e.inserted ≡ ok hs
      → resolve_head here outside e.now ≡ ok h' → InOrder b hs × (e.k ≡ b + length hs)
  unfolding expand_head resolve_head resolve_inserted with_operands Rules.as_it_is when◌then◌else◌
  head_order b h e hs h' may x a r = go (here_only h.code) x
    where
      go : (t : Bool)
          → (when t then ok (Rules.as_it_is h b) else (expand_operands ds outside b h.operands >>= λ e. ok (record { inserted = e.inserted; rows = e.rows; now = with_operands h e.now; k = e.k }))) ≡ ok e
          → InOrder b hs × (e.k ≡ b + length hs)
      go true x =
          let same = ok_same _ e x in
          let none_made : [] ≡ hs = ok_same [] hs (rw (← same) at a) in
          rw (← none_made, ← same) (tt, omega arith)
      go false x =
          let s₁ = bind_inv (expand_operands ds outside b h.operands) _ e x in
          let same = ok_same _ e s₁.2 in
          let s₂ = bind_inv (resolve_operands here outside h.z [] s₁.0.now) (λ os. ok (with_operands (with_operands h s₁.0.now) os)) h' (rw (← same) at r) in
          let D = divided Q ds here outside h.z b [] h.operands s₁.0 hs s₂.0 may s₁.1 (rw (← same) at a) s₂.1 in
          let count : e.k ≡ b + length hs = rw (← same) D.count in
          (in_order b hs D.aliases, count)

-- ---- the whole walk

module _ (rules : RuleSet) (heap : eqb 0 rules.heap ≡ false) where
  mutual
    unfolding resolve_scope

    scope_made : (s : Scope) (outside : Outside) (k : ℕ) (r : Scope × ℕ) → GoodScope rules s → LowScope s → resolve_scope s outside k ≡ ok r → MadeScope r.0
    scope_made (scope kind name fs) outside k r good low e =
        let s₁ = bind_inv (prepare name fs outside k) _ r e in
        let s₂ = bind_inv (resolve_fields fs (declarations fs) s₁.0.0 outside k s₁.0.1) _ r s₁.2 in
        subst (λ (x : Scope × ℕ). MadeScope x.0) (ok_same _ r s₂.2)
        (with_fields k (fields_made kind fs (declarations fs) s₁.0.0 outside k s₁.0.1 s₂.0 good low.1 s₂.1))

    fields_made : (kind : ℕ) (fs : Fields) (ds : List Declaration) (here : Env) (outside : Outside) (b k : ℕ) (r : Fields × ℕ) → GoodFields rules fs kind → LowFields fs
        → resolve_fields fs ds here outside b k ≡ ok r → MadeFields b r.0
    fields_made kind end ds here outside b k r good low e = subst (λ (x : Fields × ℕ). MadeFields b x.0) (ran_end ds here outside b k r e) no_more
    fields_made kind (i ▸ fs) ds here outside b k r good low e =
        let R = ran i fs ds here outside b k r e in
        let H = head_order (MayPath rules (head_of i)) ds here outside b (head_of i) R.e R.new R.h (head_may rules heap kind (head_of i) (own_good rules kind i good.0) low.0) R.expands R.adds R.resolves in
        let later = fields_made kind fs ds here (onward i outside) R.e.k R.q.1 R.rs good.1 low.2 R.goes_on_lem in
        let first = item_made kind i R.h here outside k R.q good.0 low.1 R.items in
        subst (λ (x : Fields × ℕ). MadeFields b x.0) R.result
        (before_made b R.new (R.q.0 ▸ R.rs.0) H.0
        (subst (λ (x : ℕ). MadeFields x (R.q.0 ▸ R.rs.0)) H.1 (own (subst LowDecls (sym (ran_decls R)) low.0.decls) first later)))

    item_made : (kind : ℕ) (i : Item) (h : Head) (here : Env) (outside : Outside) (k : ℕ) (q : Item × ℕ) → GoodItem rules i kind → LowItem i → resolve_item i h here outside k ≡ ok q → MadeItem q.0
    item_made kind (plain h₀) h here outside k q good low e = subst (λ (x : Item × ℕ). MadeItem x.0) (ok_same _ q e) simple
    item_made kind (holds h₀ s) h here outside k q good low e =
        let t = bind_inv (resolve_scope s (inward h₀ here outside) k) _ q e in
        subst (λ (x : Item × ℕ). MadeItem x.0) (ok_same _ q t.2) (nested (scope_made s (inward h₀ here outside) k t.0 good.3 low t.1))

  -- THE OUTPUT of an accepted form
  pub made : (s : Scope) (r : Scope × ℕ) → GoodScope rules s → LowScope s → resolve rules s ≡ ok r → MadeScope r.0
  unfolding resolve
  made s r good low e = scope_made s (at_root rules []) 0 r good low e
