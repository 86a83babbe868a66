-- Which fields have an OUTER: an outer alias has one and nothing else, and no other field has any.
use Rattle.std.specs.Prelude.{◌≡◌, refl, Bool, true, false, ◌&&◌, ℕ, zero, suc, eqb, get_or}
use Rattle.std.proofs.Common.{ap, sym, ◌∙◌, subst}
use Rattle.std.proofs.Math.Option.{some}
use mathlib.Core.List.{List, [], ◌∷◌}
use Rattle.rules.specs.Tools.{only, ◌then◌}
use Rattle.rules.specs.Versions.{RuleSet}
use Rattle.rules.specs.Rows.{Index}
use Rattle.rules.specs.Tree.{Declaration, Operand, ref, outer, case, Head}
use Rattle.rules.specs.Shapes
use Rattle.rules.specs.Shapes.{Want, r, p, out, cas, Part, one, opt, any, cases, variants, typed, parts, fits_ref, fits_outer, is_case, next, complete}
use Rattle.rules.specs.Good.{after_operand, after_operands, GoodHead}
use Rattle.rules.specs.Laws.ToolLaws.{Ok, ok_at, only_ok, if_ok_lem, then_some, and_left, and_right, false_not, All, done, ◌&◌, get_d_all}
use Rattle.rules.specs.Laws.Results.{no_option, if_both}

infixr 67 ◌also◌
-- ---- where no OUTER is wanted

other : Want → Bool
other (r spaces) = true
other (p spaces) = true
other (out s) = false
other cas = true

outless : List Part → Bool
outless [] = true
outless (one w ∷ ps) = other w && outless ps
outless (opt w ∷ ps) = other w && outless ps
outless (any w ∷ ps) = other w && outless ps
outless (cases ∷ ps) = outless ps
outless (variants ∷ ps) = outless ps
outless (typed s ∷ ps) = outless ps

abbrev Outless : List Part → Type 0
Outless ps = outless ps ≡ true

outless_next : (fits : Want → Bool) (ps : List Part) → Outless ps → Ok Outless (next fits ps)
unfolding outless next other
outless_next fits [] e = tt
outless_next fits (one w ∷ ps) e = only_ok _ _ _ (λ t. and_right (other w) (outless ps) e)
outless_next fits (opt w ∷ ps) e = if_both (Ok _) _ _ _ (and_right (other w) (outless ps) e) (outless_next fits ps (and_right (other w) (outless ps) e))
outless_next fits (any w ∷ ps) e = if_both (Ok _) _ _ _ e (outless_next fits ps (and_right (other w) (outless ps) e))
outless_next fits (cases ∷ ps) e = if_both (Ok _) _ _ _ e (outless_next fits ps e)
outless_next fits (variants ∷ ps) e = if_both (Ok _) _ _ _ e (if_both (Ok _) _ _ _ e (outless_next fits ps e))
outless_next fits (typed s ∷ ps) e = if_both (Ok _) _ _ _ (if_both (λ (x : Part). Outless (x ∷ ps)) _ _ _ e e) (only_ok _ _ _ (λ t. e))

module _ (space : ℕ) where
  not_out : (w : Want) → other w ≡ true → fits_outer w space ≡ true → ⊥
  unfolding other fits_outer
  not_out (r spaces) o e = false_not e
  not_out (p spaces) o e = false_not e
  not_out (out s) o e = false_not o
  not_out cas o e = false_not e

  no_outer : (ps : List Part) → Outless ps → Ok (λ q. ⊥) (next (λ w. fits_outer w space) ps)
  unfolding outless next
  no_outer [] e = tt
  no_outer (one w ∷ ps) e = only_ok _ _ _ (λ t. not_out w (and_left (other w) (outless ps) e) t)
  no_outer (opt w ∷ ps) e = if_ok_lem (Ok _) _ _ _ (λ t. not_out w (and_left (other w) (outless ps) e) t) (λ f. no_outer ps (and_right (other w) (outless ps) e))
  no_outer (any w ∷ ps) e = if_ok_lem (Ok _) _ _ _ (λ t. not_out w (and_left (other w) (outless ps) e) t) (λ f. no_outer ps (and_right (other w) (outless ps) e))
  no_outer (cases ∷ ps) e = if_ok_lem (Ok _) _ _ _ (λ t. not_out cas (unfold other in refl) t) (λ f. no_outer ps e)
  no_outer (variants ∷ ps) e =
      if_ok_lem (Ok _) _ _ _ (λ t. not_out cas (unfold other in refl) t)
      (λ f. if_ok_lem (Ok _) _ _ _ (λ t. not_out (p (9 ∷ [])) (unfold other in refl) t) (λ f'. no_outer ps e))
  no_outer (typed s ∷ ps) e =
      if_ok_lem (Ok _) _ _ _ (λ t. absurd (not_out (p (9 ∷ [])) (unfold other in refl) t)) (λ f. only_ok _ _ _ (λ t. not_out (r (s ∷ [])) (unfold other in refl) t))

-- ---- the tables

-- of every entry but the k-th
data AllBut {A : Type 0} (P : A → Type 0) : ℕ → List A → Type 0 where
  but : {x : A} {xs : List A} → All P xs → AllBut P zero (x ∷ xs)
  ◌also◌ : {k : ℕ} {x : A} {xs : List A} → P x → AllBut P k xs → AllBut P (suc k) (x ∷ xs)

get_d_but : {A : Type 0} (P : A → Type 0) (xs : List A) (k n : ℕ) (d : A) → AllBut P k xs → P d → ¬ (n ≡ k) → P (get_or xs n d)
get_d_but P (x ∷ xs) zero zero d (but a) q e = absurd (e refl)
get_d_but P (x ∷ xs) zero (suc n) d (but a) q e = get_d_all P xs n d a q
get_d_but P (x ∷ xs) (suc k) zero d (h also a) q e = h
get_d_but P (x ∷ xs) (suc k) (suc n) d (h also a) q e = get_d_but P xs k n d a q (λ s. e (ap suc s))
get_d_but {A = A} P [] k n d x3 q e = elim x3 [ ]

signature_outless : (space : ℕ) → Outless (Shapes.signature space)
unfolding Shapes.signature outless other
signature_outless space = if_both Outless _ _ _ refl (if_both Outless _ _ _ refl refl)

ascribed_outless : (space : ℕ) → Outless (Shapes.ascribed space)
unfolding Shapes.ascribed outless other
ascribed_outless space = if_both Outless _ _ _ refl (if_both Outless _ _ _ refl refl)

builtin_outless : (rules : RuleSet) (e : ℕ) → Outless (Shapes.builtin_parts rules e)
unfolding Shapes.builtin_parts outless other
builtin_outless rules e =
    if_both Outless _ _ _ refl
    (if_both Outless _ _ _ refl
    (if_both Outless _ _ _ refl
    (if_both Outless _ _ _ refl
    (if_both Outless _ _ _ refl
    (if_both Outless _ _ _ refl
    (if_both Outless _ _ _ refl
    (if_both Outless _ _ _ refl
    (if_both Outless _ _ _ refl refl))))))))

parts_outless : (rules : RuleSet) (code builtin : ℕ) (ds : List Declaration) → eqb code 11 ≡ false → Outless (parts rules code builtin ds)
unfolding parts outless other
parts_outless rules code builtin ds e =
    get_d_but Outless _ _ code []
    (refl also refl also refl also refl also refl also if_both Outless _ _ _ refl refl also refl also refl also refl also refl also refl
    also but (refl & refl & refl & refl & refl & refl & refl & builtin_outless rules builtin & refl & signature_outless (Shapes.declared ds)
    & if_both Outless _ _ _ refl (ascribed_outless (Shapes.declared ds))
    & signature_outless (Shapes.declared ds) & refl & refl & done))
    refl (λ q. false_not (sym e ∙ ap (λ (c : ℕ). eqb c 11) q))

-- ---- good fields

abbrev pub NoOuter : Operand → Type 0
NoOuter (ref space at paths z) = Unit {0}
NoOuter (outer space up at z) = ⊥
NoOuter (case name z) = Unit {0}

operands_outless : (os : List Operand) (ps left : List Part) → Outless ps → after_operands ps os ≡ some left → All NoOuter os
unfolding after_operands after_operand
operands_outless [] ps left e u = done
operands_outless (ref space at paths z ∷ os) ps left e u =
    let T = then_some _ (λ q. after_operands q os) left u in tt & operands_outless os T.0 left (ok_at _ _ T.0 (outless_next _ ps e) T.1) T.2
operands_outless (outer space up at z ∷ os) ps left e u =
    let T = then_some _ (λ q. after_operands q os) left u in absurd (ok_at _ _ T.0 (no_outer space ps e) T.1)
operands_outless (case name z ∷ os) ps left e u =
    let T = then_some _ (λ q. after_operands q os) left u in tt & operands_outless os T.0 left (ok_at _ _ T.0 (outless_next _ ps e) T.1) T.2

-- just an OUTER
pub record JustOuter (os : List Operand) : Type 0 where
  pub space : ℕ
  pub up : Index
  pub at : Index
  pub z : ℕ
  pub are : os ≡ outer space up at z ∷ []

just_outer : (s : ℕ) (os : List Operand) (left : List Part) → after_operands (one (out s) ∷ []) os ≡ some left → complete left ≡ true → JustOuter os
unfolding after_operands after_operand next fits_ref fits_outer is_case only complete ◌then◌
just_outer s [] left u c = false_not (subst (λ (q : List Part). complete q ≡ true) (some_back left u) c)
  where
    some_back : (left : List Part) → some (one (out s) ∷ []) ≡ some left → left ≡ one (out s) ∷ []
    some_back left e = cc
just_outer s (ref space at paths z ∷ os) left u c = no_option left u
just_outer s (case name z ∷ os) left u c = no_option left u
just_outer s (outer space up at z ∷ []) left u c = record { space = space; up = up; at = at; z = z; are = refl }
just_outer s (outer space up at z ∷ o ∷ os) left u c =
    let T = then_some _ (λ q. after_operands q (o ∷ os)) left u in
    let W = then_some _ (λ q. after_operands q os) left T.2 in
    absurd (nothing_more o T.0 W.0 (only_ends (eqb s space) T.0 T.1) W.1)
  where
    only_ends : (b : Bool) (q : List Part) → only b [] ≡ some q → q ≡ []
    only_ends true q e = cc
    only_ends false q e = no_option q e

    nothing_more : (o : Operand) (q v : List Part) → q ≡ [] → after_operand q o ≡ some v → ⊥
    nothing_more o q v e w = go o (subst (λ (l : List Part). after_operand l o ≡ some v) e w)
      where
        go : (o : Operand) → after_operand [] o ≡ some v → ⊥
        go (ref space at paths z) w = no_option v w
        go (outer space up at z) w = no_option v w
        go (case name z) w = no_option v w

module _ (rules : RuleSet) (h : Head) (kind : ℕ) (g : GoodHead rules kind h) where
  pub alias_outer : h.code ≡ 11 → JustOuter h.operands
  unfolding parts
  alias_outer e = just_outer (Shapes.declared h.decls) h.operands g.left (subst (λ (c : ℕ). after_operands (parts rules c h.builtin h.decls) h.operands ≡ some g.left) e g.uses) g.ends

  pub others_none : eqb h.code 11 ≡ false → All NoOuter h.operands
  others_none e = operands_outless h.operands _ g.left (parts_outless rules h.code h.builtin h.decls e) g.uses
