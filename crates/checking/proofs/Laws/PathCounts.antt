-- A reference of a form has no more PATHs than its space may have.
use Rattle.std.specs.Prelude.{◌≡◌, Bool, true, List, [], ◌∷◌, ℕ, leb, length}
use Rattle.std.proofs.Math.Option.{some}
use Rattle.rules.specs.Tools.{is_in}
use Rattle.rules.specs.Tree.{Operand, ref, outer, case}
use Rattle.rules.specs.Shapes.{paths_ok, Want, r, p, out, cas, Part, one, opt, any, cases, variants, typed, fits_ref, next}
use Rattle.rules.specs.Good.{after_operand, after_operands}
use Rattle.rules.specs.Laws.ToolLaws.{Ok, ok_at, only_ok, if_ok_lem, false_not, and_right, or-true, eqb-true, then_some, All, done, ◌&◌}

abbrev pub PathsOk : Operand → Type 0
PathsOk (ref space at paths z) = paths_ok space (length paths) ≡ true
PathsOk (outer space up at z) = Unit {0}
PathsOk (case name z) = Unit {0}

-- what follows wherever it fits follows from a next
fits_somewhere : (fits : Want → Bool) (P : Type 0) → ((w : Want) → fits w ≡ true → P) → (ps : List Part) → Ok (λ q. P) (next fits ps)
unfolding next
fits_somewhere fits P f [] = tt
fits_somewhere fits P f (one w ∷ ps) = only_ok _ _ _ (λ t. f w t)
fits_somewhere fits P f (opt w ∷ ps) = if_ok_lem (Ok _) _ _ _ (λ t. f w t) (λ n. fits_somewhere fits P f ps)
fits_somewhere fits P f (any w ∷ ps) = if_ok_lem (Ok _) _ _ _ (λ t. f w t) (λ n. fits_somewhere fits P f ps)
fits_somewhere fits P f (cases ∷ ps) = if_ok_lem (Ok _) _ _ _ (λ t. f cas t) (λ n. fits_somewhere fits P f ps)
fits_somewhere fits P f (variants ∷ ps) = if_ok_lem (Ok _) _ _ _ (λ t. f cas t) (λ n. if_ok_lem (Ok _) _ _ _ (λ t. f (p (9 ∷ [])) t) (λ m. fits_somewhere fits P f ps))
fits_somewhere fits P f (typed s ∷ ps) = if_ok_lem (Ok _) _ _ _ (λ t. f (p (9 ∷ [])) t) (λ n. only_ok _ _ _ (λ t. f (r (s ∷ [])) t))

fits_paths : (space count : ℕ) (w : Want) → fits_ref w space count ≡ true → paths_ok space count ≡ true
unfolding fits_ref paths_ok
fits_paths space count (r spaces) t = and_right (is_in space spaces) _ t
fits_paths space count (p spaces) t = rw (eqb-true count 0 (and_right (is_in space spaces) _ t)) (or-true (leb 7 space))
fits_paths space count (out s) t = false_not t
fits_paths space count cas t = false_not t

pub operands_paths : (os : List Operand) (ps left : List Part) → after_operands ps os ≡ some left → All PathsOk os
unfolding after_operands after_operand
operands_paths [] ps left e = done
operands_paths (ref space at paths z ∷ os) ps left e =
    let T = then_some (next (λ w. fits_ref w space (length paths)) ps) (λ q. after_operands q os) left e in
    ok_at _ _ T.0 (fits_somewhere _ (paths_ok space (length paths) ≡ true) (fits_paths space (length paths)) ps) T.1 & operands_paths os T.0 left T.2
operands_paths (outer space up at z ∷ os) ps left e =
    let T = then_some (after_operand ps (outer space up at z)) (λ q. after_operands q os) left e in tt & operands_paths os T.0 left T.2
operands_paths (case name z ∷ os) ps left e =
    let T = then_some (after_operand ps (case name z)) (λ q. after_operands q os) left e in tt & operands_paths os T.0 left T.2
