-- In a form the operands of a field are fit: at most one PATH to a core space, and none where a field looks in its own scope only.
use Rattle.std.specs.Prelude.{◌≡◌, refl, Bool, true, ◌||◌, ℕ, suc, ◌≤◌, ◌<◌, eqb, leb, length}
use Rattle.std.proofs.Math.Option.{some}
use mathlib.Core.List.{List, [], ◌∷◌}
use Rattle.std.proofs.Common.{arith, leb-true, eqb-true}
use Rattle.rules.specs.Tools.{is_in}
use Rattle.rules.specs.Versions.{RuleSet}
use Rattle.rules.specs.Tree.{Declaration, Operand, ref, outer, case, Head, Item, plain, holds, head_of}
use Rattle.rules.specs.Shapes.{Want, r, p, out, cas, Part, one, opt, any, cases, variants, typed, is_empty, parts, paths_ok, fits_ref, fits_outer, is_case, next, here_only}
use Rattle.rules.specs.Good.{after_operand, after_operands, GoodHead, GoodItem}
use Rattle.rules.specs.Laws.ToolLaws.{false_not, and_right, or_cases, or-false, Ok, ok_at, only_ok, if_ok_lem, then_some}
use Rattle.rules.specs.Laws.Results.{if_both}
use Rattle.agree.specs.Fit.Spaces.{SpaceOperand, SpacesOperands, SpacesHead}
use Rattle.agree.specs.StepC.AliasAgrees.{FitOperand, FitOperands}
use Rattle.agree.specs.StepC.NumberAgrees.{NoPaths}
use Rattle.agree.specs.StepC.HeadAgrees.{FitHead}

-- ---- at most one PATH to a core space

module _ (fits : Want → Bool) (Q : Type 0) (f : (w : Want) → fits w ≡ true → Q) where
  -- a row that fits anything
  next_fits : (ps : List Part) → Ok (λ qs. Q) (next fits ps)
  unfolding next
  next_fits [] = tt
  next_fits (one w ∷ ps) = only_ok _ _ _ (λ t. f w t)
  next_fits (opt w ∷ ps) = if_ok_lem (Ok _) _ _ _ (λ t. f w t) (λ t. next_fits ps)
  next_fits (any w ∷ ps) = if_ok_lem (Ok _) _ _ _ (λ t. f w t) (λ t. next_fits ps)
  next_fits (cases ∷ ps) = if_ok_lem (Ok _) _ _ _ (λ t. f cas t) (λ t. next_fits ps)
  next_fits (variants ∷ ps) = if_ok_lem (Ok _) _ _ _ (λ t. f cas t) (λ t. if_ok_lem (Ok _) _ _ _ (λ u. f (p (9 ∷ [])) u) (λ u. next_fits ps))
  next_fits (typed s ∷ ps) = if_ok_lem (Ok _) _ _ _ (λ t. f (p (9 ∷ [])) t) (λ t. only_ok _ _ _ (λ u. f (r (s ∷ [])) u))

ref_far : (space count : ℕ) (w : Want) → fits_ref w space count ≡ true → 1 < count → 7 ≤ space
unfolding fits_ref paths_ok
ref_far space count (r spaces) e h =
    or_cases (leb 7 space) (leb count 1) (and_right (is_in space spaces) (leb 7 space || leb count 1) e) (λ q. leb-true 7 space q) (λ q. let l = leb-true count 1 q in absurd (omega arith))
ref_far space count (p spaces) e h = let l = eqb-true count 0 (and_right (is_in space spaces) (eqb count 0) e) in absurd (omega arith)
ref_far space count (out s) e h = false_not e
ref_far space count cas e h = false_not e

operand_fit : (ps : List Part) (o : Operand) → SpaceOperand o → Ok (λ qs. FitOperand o) (after_operand ps o)
unfolding after_operand
operand_fit ps (ref space at paths z) l = next_fits (λ w. fits_ref w space (length paths)) _ (λ w e. (omega arith, ref_far space (length paths) w e)) ps
operand_fit ps (outer space up at z) l = next_fits (λ w. fits_outer w space) _ (λ w e. tt) ps
operand_fit ps (case name z) l = next_fits is_case _ (λ w e. tt) ps

operands_fit : (ps : List Part) (os : List Operand) (left : List Part) → SpacesOperands os → after_operands ps os ≡ some left → FitOperands os
unfolding after_operands
operands_fit ps [] left l e = tt
operands_fit ps (o ∷ os) left l e =
    let t = then_some (after_operand ps o) (λ qs. after_operands qs os) left e in
    (ok_at (λ qs. FitOperand o) (after_operand ps o) t.0 (operand_fit ps o l.0) t.1, operands_fit t.0 os left l.1 t.2)

-- ---- no PATHs

-- all that is wanted is REFs without PATHs
abbrev Bare : List Part → Type 0
Bare [] = Unit {0}
Bare (one w ∷ ps) = ⊥
Bare (opt w ∷ ps) = ⊥
Bare (any (r spaces) ∷ ps) = ⊥
Bare (any (p spaces) ∷ ps) = Bare ps
Bare (any (out s) ∷ ps) = ⊥
Bare (any cas ∷ ps) = ⊥
Bare (cases ∷ ps) = ⊥
Bare (variants ∷ ps) = ⊥
Bare (typed s ∷ ps) = ⊥

abbrev NoPath : Operand → Type 0
NoPath (ref space at paths z) = paths ≡ []
NoPath (outer space up at z) = Unit {0}
NoPath (case name z) = Unit {0}

none_left : (ps : List ℕ) → eqb (length ps) 0 ≡ true → ps ≡ []
none_left [] e = refl
none_left (x ∷ ps) e = let l = eqb-true (suc (length ps)) 0 e in absurd (omega arith)

module _ (fits : Want → Bool) (Q : Type 0) (f : (spaces : List ℕ) → fits (p spaces) ≡ true → Q) where
  next_bare : (ps : List Part) → Bare ps → Ok (λ qs. Q × Bare qs) (next fits ps)
  unfolding next
  next_bare [] b = tt
  next_bare (one w ∷ ps) b = absurd b
  next_bare (opt w ∷ ps) b = absurd b
  next_bare (any (r spaces) ∷ ps) b = absurd b
  next_bare (any (p spaces) ∷ ps) b = if_ok_lem (Ok _) _ _ _ (λ t. (f spaces t, b)) (λ t. next_bare ps b)
  next_bare (any (out s) ∷ ps) b = absurd b
  next_bare (any cas ∷ ps) b = absurd b
  next_bare (cases ∷ ps) b = absurd b
  next_bare (variants ∷ ps) b = absurd b
  next_bare (typed s ∷ ps) b = absurd b

operand_bare : (ps : List Part) (o : Operand) → Bare ps → Ok (λ qs. NoPath o × Bare qs) (after_operand ps o)
unfolding after_operand fits_ref
operand_bare ps (ref space at paths z) b = next_bare (λ w. fits_ref w space (length paths)) _ (λ spaces e. none_left paths (and_right (is_in space spaces) (eqb (length paths) 0) e)) ps b
operand_bare ps (outer space up at z) b = next_bare (λ w. fits_outer w space) _ (λ spaces e. tt) ps b
operand_bare ps (case name z) b = next_bare is_case _ (λ spaces e. tt) ps b

no_paths_cons : (o : Operand) (os : List Operand) → NoPath o → NoPaths os → NoPaths (o ∷ os)
no_paths_cons (ref space at paths z) os n ns = (n, ns)
no_paths_cons (outer space up at z) os n ns = ns
no_paths_cons (case name z) os n ns = ns

operands_bare : (ps : List Part) (os : List Operand) (left : List Part) → Bare ps → after_operands ps os ≡ some left → NoPaths os
unfolding after_operands
operands_bare ps [] left b e = tt
operands_bare ps (o ∷ os) left b e =
    let t = then_some (after_operand ps o) (λ qs. after_operands qs os) left e in
    let q = ok_at (λ qs. NoPath o × Bare qs) (after_operand ps o) t.0 (operand_bare ps o b) t.1 in
    no_paths_cons o os q.0 (operands_bare t.0 os left q.1 t.2)

parts_bare : (rules : RuleSet) (code builtin : ℕ) (ds : List Declaration) → here_only code ≡ true → Bare (parts rules code builtin ds)
unfolding here_only parts
parts_bare rules code builtin ds h =
    or_cases (eqb code 4) _ h (λ e. rw (eqb-true code 4 e) tt) (λ g.
    or_cases (eqb code 5) _ g (λ e. rw (eqb-true code 5 e) (if_both Bare (is_empty ds) [] (any (p (4 ∷ [])) ∷ []) tt tt)) (λ l. rw (eqb-true code 24 (or-false (eqb code 24) l)) tt))

-- ---- fields

head_fit : (rules : RuleSet) (kind : ℕ) (h : Head) → SpacesHead h → GoodHead rules kind h → FitHead h
head_fit rules kind h s g =
    record {
      fit = operands_fit _ h.operands g.left s.operands g.uses;
      no_paths = λ o. operands_bare _ h.operands g.left (parts_bare rules h.code h.builtin h.decls o) g.uses;
    }

pub item_fit : (rules : RuleSet) (i : Item) (kind : ℕ) → SpacesHead (head_of i) → GoodItem rules i kind → FitHead (head_of i)
unfolding head_of
item_fit rules (plain h) kind s g = head_fit rules kind h s g.0
item_fit rules (holds h t) kind s g = head_fit rules kind h s g.0
