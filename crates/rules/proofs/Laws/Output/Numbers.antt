-- In the output of an accepted run every name is a number and no PATH is left.
use Rattle.std.specs.Prelude.{◌≡◌, refl, Bool, false, ◌&&◌, ℕ, suc, length}
use Rattle.std.proofs.Math.Bool.{true}
use Rattle.std.proofs.Math.Option.{Option, none, some}
use mathlib.Core.List.{List, [], ◌∷◌, ◌++◌}
use native.Mathlib.Omega.{arith}
use Rattle.std.proofs.Math.Dec.{eqb}
use Rattle.rules.specs.Tools.{is_in}
use Rattle.rules.specs.Versions.{RuleSet}
use Rattle.rules.specs.Rows.{Index, Num, Id}
use Rattle.rules.specs.Tree.{Declaration, Operand, ref, outer, case, Head, Scope, scope, Fields, end, ◌▸◌, Item, plain, holds, head_of, with_operands}
use Rattle.rules.specs.Shapes.{Want, r, p, out, cas, Part, one, opt, any, cases, variants, typed, here_only, parts, fits_ref, next}
use Rattle.rules.specs.Good.{after_operand, after_operands, GoodHead, GoodScope, GoodFields, GoodItem}
use Rattle.rules.specs.Rules
use Rattle.rules.specs.Rules.{opened, ok, Env, Outside, onward, at_root, inward, expand_operand, expand_operands, expand_head, path_aliases, export_alias, outer_alias, resolve_operands, resolve_head, resolve_inserted, resolve_scope, resolve_fields, resolve_item, ◌before◌, resolve_inside}
use Rattle.rules.specs.Laws.ToolLaws.{Ok, ok_at, only_ok, if_ok_lem, and_left, and_right, or_cases, false_not, eqb-true, then_some}
use Rattle.rules.proofs.Laws.Output.Well.{own_good}
use Rattle.rules.specs.Laws.Results.{OkR, bind_ok, bind_any, if_both, holds_of}

-- ---- what is said

abbrev pub Numbered : Operand → Type 0
Numbered (ref space (Num n) [] z) = Unit {0}
Numbered (ref space (Num n) (m ∷ ms) z) = ⊥
Numbered (ref space (Id name) paths z) = ⊥
Numbered (outer space (Num d) (Num n) z) = Unit {0}
Numbered (outer space (Num d) (Id name) z) = ⊥
Numbered (outer space (Id name) at z) = ⊥
Numbered (case name z) = Unit {0}

abbrev pub AllNumbered : List Operand → Type 0
AllNumbered [] = Unit {0}
AllNumbered (o ∷ os) = Numbered o × AllNumbered os

abbrev mutual
  pub NumberedScope : Scope → Type 0
  NumberedScope (scope kind name fs) = NumberedFields fs

  pub NumberedFields : Fields → Type 0
  NumberedFields end = Unit {0}
  NumberedFields (i ▸ fs) = NumberedItem i × NumberedFields fs

  pub NumberedItem : Item → Type 0
  NumberedItem (plain h) = AllNumbered h.operands
  NumberedItem (holds h s) = AllNumbered h.operands × NumberedScope s

-- ---- fields 4, 5 and 24 have no PATHs to begin with

bare : Want → Bool
bare (r spaces) = false
bare (p spaces) = true
bare (out s) = true
bare cas = true

pub pathless : List Part → Bool
pathless [] = true
pathless (one w ∷ ps) = bare w && pathless ps
pathless (opt w ∷ ps) = bare w && pathless ps
pathless (any w ∷ ps) = bare w && pathless ps
pathless (cases ∷ ps) = pathless ps
pathless (variants ∷ ps) = pathless ps
pathless (typed s ∷ ps) = false

pub here_only_parts : (rules : RuleSet) (code builtin : ℕ) (ds : List Declaration) → here_only code ≡ true → pathless (parts rules code builtin ds) ≡ true
unfolding here_only parts pathless bare
here_only_parts rules code builtin ds e =
    or_cases (eqb code 4) _ e (λ t. rw (eqb-true code 4 t))
    (λ e₁. or_cases (eqb code 5) _ e₁ (λ t. rw (eqb-true code 5 t) (if_both (λ (ps : List Part). pathless ps ≡ true) _ _ _ refl refl))
    (λ e₂. or_cases (eqb code 24) _ e₂ (λ t. rw (eqb-true code 24 t)) (λ e₃. false_not e₃)))

pathless_next : (fits : Want → Bool) (ps : List Part) → pathless ps ≡ true → Ok (λ q. pathless q ≡ true) (next fits ps)
unfolding pathless next bare
pathless_next fits [] e = tt
pathless_next fits (one w ∷ ps) e = only_ok _ _ _ (λ t. and_right (bare w) (pathless ps) e)
pathless_next fits (opt w ∷ ps) e = if_both (Ok _) _ _ _ (and_right (bare w) (pathless ps) e) (pathless_next fits ps (and_right (bare w) (pathless ps) e))
pathless_next fits (any w ∷ ps) e = if_both (Ok _) _ _ _ e (pathless_next fits ps (and_right (bare w) (pathless ps) e))
pathless_next fits (cases ∷ ps) e = if_both (Ok _) _ _ _ e (pathless_next fits ps e)
pathless_next fits (variants ∷ ps) e = if_both (Ok _) _ _ _ e (if_both (Ok _) _ _ _ e (pathless_next fits ps e))
pathless_next fits (typed s ∷ ps) e = false_not e

module _ (space n : ℕ) where
  not_bare : (w : Want) → bare w ≡ true → fits_ref w space (suc n) ≡ true → ⊥
  unfolding bare fits_ref
  not_bare (r spaces) b e = false_not b
  not_bare (p spaces) b e =
      let z : eqb (suc n) 0 ≡ true = and_right (is_in space spaces) _ e in
      let s = eqb-true (suc n) 0 z in omega arith
  not_bare (out s) b e = false_not e
  not_bare cas b e = false_not e

  no_paths : (ps : List Part) → pathless ps ≡ true → Ok (λ q. ⊥) (next (λ w. fits_ref w space (suc n)) ps)
  unfolding pathless next
  no_paths [] e = tt
  no_paths (one w ∷ ps) e = only_ok _ _ _ (λ t. not_bare w (and_left (bare w) (pathless ps) e) t)
  no_paths (opt w ∷ ps) e = if_ok_lem (Ok _) _ _ _ (λ t. not_bare w (and_left (bare w) (pathless ps) e) t) (λ f. no_paths ps (and_right (bare w) (pathless ps) e))
  no_paths (any w ∷ ps) e = if_ok_lem (Ok _) _ _ _ (λ t. not_bare w (and_left (bare w) (pathless ps) e) t) (λ f. no_paths ps (and_right (bare w) (pathless ps) e))
  no_paths (cases ∷ ps) e = if_ok_lem (Ok _) _ _ _ (λ t. not_bare cas (unfold bare in refl) t) (λ f. no_paths ps e)
  no_paths (variants ∷ ps) e =
      if_ok_lem (Ok _) _ _ _ (λ t. not_bare cas (unfold bare in refl) t)
      (λ f. if_ok_lem (Ok _) _ _ _ (λ t. not_bare (p (9 ∷ [])) (unfold bare in refl) t) (λ f'. no_paths ps e))
  no_paths (typed s ∷ ps) e = false_not e

-- ---- step B leaves no PATHs

abbrev pub Bare : Operand → Type 0
Bare (ref space at [] z) = Unit {0}
Bare (ref space at (m ∷ ms) z) = ⊥
Bare (outer space up at z) = Unit {0}
Bare (case name z) = Unit {0}

abbrev pub AllBare : List Operand → Type 0
AllBare [] = Unit {0}
AllBare (o ∷ os) = Bare o × AllBare os

abbrev pub HeadsBare : List Head → Type 0
HeadsBare [] = Unit {0}
HeadsBare (h ∷ hs) = AllBare h.operands × HeadsBare hs

pub operands_bare : (os : List Operand) (ps left : List Part) → pathless ps ≡ true → after_operands ps os ≡ some left → AllBare os
unfolding after_operands after_operand
operands_bare [] ps left e u = tt
operands_bare (ref space at [] z ∷ os) ps left e u =
    let T = then_some _ (λ q. after_operands q os) left u in (tt, operands_bare os T.0 left (ok_at _ _ T.0 (pathless_next _ ps e) T.1) T.2)
operands_bare (ref space at (m ∷ paths) z ∷ os) ps left e u =
    let T = then_some _ (λ q. after_operands q os) left u in absurd (ok_at _ _ T.0 (no_paths space (length paths) ps e) T.1)
operands_bare (outer space up at z ∷ os) ps left e u =
    let T = then_some _ (λ q. after_operands q os) left u in (tt, operands_bare os T.0 left (ok_at _ _ T.0 (pathless_next _ ps e) T.1) T.2)
operands_bare (case name z ∷ os) ps left e u =
    let T = then_some _ (λ q. after_operands q os) left u in (tt, operands_bare os T.0 left (ok_at _ _ T.0 (pathless_next _ ps e) T.1) T.2)

heads_append : (xs ys : List Head) → HeadsBare xs → HeadsBare ys → HeadsBare (xs ++ ys)
heads_append [] ys a b = b
heads_append (x ∷ xs) ys a b = (a.0, heads_append xs ys a.1 b)

aliases_bare : (space : ℕ) (at : Index) (m : ℕ) (ms : List ℕ) (z k : ℕ) → HeadsBare (path_aliases space at m ms z k)
unfolding path_aliases export_alias
aliases_bare space at m [] z k = (if_both (λ (h : Head). AllBare h.operands) _ _ _ (tt, tt) (tt, tt), tt)
aliases_bare space at m (q ∷ ms) z k = ((tt, tt), aliases_bare space (Id (Rules.fresh k)) q ms z (suc k))

found_bare : (space name z k : ℕ) (o : Option (ℕ × ℕ)) → OkR (λ e. Bare e.now × HeadsBare e.inserted) (Rules.found_at space name z k o)
unfolding Rules.found_at Rules.through Rules.as_it_is outer_alias
found_bare space name z k none = (tt, tt)
found_bare space name z k (some at) = if_both (OkR _) _ _ _ (tt, ((tt, tt), tt)) tt

module _ (here : List Declaration) (outside : Outside) where
  operand_bare : (k : ℕ) (o : Operand) → OkR (λ e. Bare e.now × HeadsBare e.inserted) (expand_operand here outside k o)
  unfolding expand_operand Rules.through Rules.as_it_is
  operand_bare k (ref space (Num n) [] z) = (tt, tt)
  operand_bare k (ref space (Id name) [] z) = bind_any _ _ _ (λ u. if_both (OkR _) _ _ _ (tt, tt) (found_bare space name z k _))
  operand_bare k (ref space at (m ∷ ms) z) = if_both (OkR _) _ _ _ tt (tt, aliases_bare space at m ms z k)
  operand_bare k (outer space up at z) = (tt, tt)
  operand_bare k (case name z) = (tt, tt)

  pub expanded_bare : (k : ℕ) (os : List Operand) → OkR (λ e. AllBare e.now × HeadsBare e.inserted) (expand_operands here outside k os)
  unfolding expand_operands Rules.as_it_is
  expanded_bare k [] = (tt, tt)
  expanded_bare k (o ∷ os) =
      bind_ok _ _ _ _ (operand_bare k o) (λ e f. bind_ok _ _ _ _ (expanded_bare e.k os) (λ es g.
      ((f.0, g.0), heads_append e.inserted es.inserted f.1 g.1)))

  head_bare : (rules : RuleSet) (kind k : ℕ) (h : Head) → GoodHead rules kind h → OkR (λ e. AllBare e.now.operands × HeadsBare e.inserted) (expand_head here outside k h)
  unfolding expand_head Rules.as_it_is with_operands
  head_bare rules kind k h g =
      if_ok_lem (OkR _) _ _ _ (λ t. (operands_bare h.operands _ g.left (here_only_parts rules h.code h.builtin h.decls t) g.uses, tt))
      (λ f. bind_ok _ _ _ _ (expanded_bare k h.operands) (λ e b. b))

-- ---- step C makes numbers

outer_one : (early : Bool) (es : List Env) (fz space : ℕ) (up at : Index) (z : ℕ) → OkR Numbered (Rules.outer_numbers early es fz space up at z)
unfolding Rules.outer_numbers
outer_one early es fz space up at z = bind_any _ _ _ (λ d. bind_any _ _ _ (λ e. bind_any _ _ _ (λ u. bind_any _ _ _ (λ n. tt))))

outer_numbered : (early : Bool) (es : List Env) (fz space : ℕ) (up at : Index) (z : ℕ) → OkR Numbered (Rules.resolve_outer early es fz space up at z)
unfolding Rules.resolve_outer
outer_numbered early es fz space (Num d) (Num n) z = tt
outer_numbered early es fz space (Num d) (Id name) z = outer_one early es fz space (Num d) (Id name) z
outer_numbered early es fz space (Id name) at z = outer_one early es fz space (Id name) at z

abbrev HeadsNumbered : List Head → Type 0
HeadsNumbered [] = Unit {0}
HeadsNumbered (h ∷ hs) = AllNumbered h.operands × HeadsNumbered hs

module _ (here : Env) (outside : Outside) where
  pub operands_numbered : (fz : ℕ) (seen : List ℕ) (os : List Operand) → AllBare os → OkR AllNumbered (resolve_operands here outside fz seen os)
  unfolding resolve_operands
  operands_numbered fz seen [] b = tt
  operands_numbered fz seen (ref space at [] z ∷ os) b = bind_any _ _ _ (λ n. bind_ok _ _ _ _ (operands_numbered fz seen os b.1) (λ os' c. (tt, c)))
  operands_numbered fz seen (ref space at (m ∷ ms) z ∷ os) b = absurd b.0
  operands_numbered fz seen (outer space up at z ∷ os) b =
      bind_ok _ _ _ _ (outer_numbered outside.early (opened here outside) fz space up at z) (λ o a. bind_ok _ _ _ _ (operands_numbered fz seen os b.1) (λ os' c. (a, c)))
  operands_numbered fz seen (case name z ∷ os) b =
      if_both (OkR _) _ _ _ tt (bind_ok _ _ _ _ (operands_numbered fz (name ∷ seen) os b.1) (λ os' c. (tt, c)))

  head_numbered : (h : Head) → AllBare h.operands → OkR (λ h'. AllNumbered h'.operands) (resolve_head here outside h)
  unfolding resolve_head with_operands
  head_numbered h b = bind_ok _ _ _ _ (operands_numbered h.z [] h.operands b) (λ os c. c)

  inserted_numbered : (hs : List Head) → HeadsBare hs → OkR HeadsNumbered (resolve_inserted here outside hs)
  unfolding resolve_inserted
  inserted_numbered [] b = tt
  inserted_numbered (h ∷ hs) b = bind_any _ _ _ (λ u. bind_ok _ _ _ _ (head_numbered h b.0) (λ h' c. bind_ok _ _ _ _ (inserted_numbered hs b.1) (λ hs' d. (c, d))))

before_numbered : (hs : List Head) (fs : Fields) → HeadsNumbered hs → NumberedFields fs → NumberedFields (◌before◌ hs fs)
unfolding ◌before◌
before_numbered [] fs a b = b
before_numbered (h ∷ hs) fs a b = (a.0, before_numbered hs fs a.1 b)

-- ---- the whole walk

module _ (rules : RuleSet) where
  mutual
    unfolding resolve_scope

    scope_numbered : (s : Scope) (outside : Outside) (k : ℕ) → GoodScope rules s → OkR (λ r. NumberedScope r.0) (resolve_scope s outside k)
    scope_numbered (scope kind name fs) outside k g = bind_any _ _ _ (λ e. bind_ok _ _ _ _ (fields_numbered kind fs _ e.0 outside k e.1 g) (λ r n. n))

    fields_numbered : (kind : ℕ) (fs : Fields) (ds : List Declaration) (here : Env) (outside : Outside) (b k : ℕ) → GoodFields rules fs kind
        → OkR (λ r. NumberedFields r.0) (resolve_fields fs ds here outside b k)
    fields_numbered kind end ds here outside b k g = tt
    fields_numbered kind (i ▸ fs) ds here outside b k g =
        bind_ok _ _ _ _ (head_bare ds outside rules kind b (head_of i) (own_good rules kind i g.0)) (λ e f.
        bind_ok _ _ _ _ (inserted_numbered here outside e.inserted f.1) (λ new gn.
        bind_ok _ _ _ _ (head_numbered here outside e.now f.0) (λ h gh.
        bind_ok _ _ _ _ (item_numbered kind i h here outside k g.0 gh) (λ r w.
        bind_ok _ _ _ _ (fields_numbered kind fs ds here (onward i outside) e.k r.1 g.1) (λ rs ws. before_numbered new (r.0 ▸ rs.0) gn (w, ws))))))

    item_numbered : (kind : ℕ) (i : Item) (h : Head) (here : Env) (outside : Outside) (k : ℕ) → GoodItem rules i kind → AllNumbered h.operands
        → OkR (λ r. NumberedItem r.0) (resolve_item i h here outside k)
    item_numbered kind (plain h₀) h here outside k g n = n
    item_numbered kind (holds h₀ s) h here outside k g n = bind_ok _ _ _ _ (scope_numbered s (inward h₀ here outside) k g.3) (λ r m. (n, m))

  pub numbers : (around : List Env) (s : Scope) (result : Scope × ℕ) → GoodScope rules s → resolve_inside rules around s ≡ ok result → NumberedScope result.0
  numbers around s result g e = holds_of (λ (x : Scope × ℕ). NumberedScope x.0) _ result (scope_numbered s (at_root rules around) 0 g) e
