-- A number stays as written: it does not follow the item that it first meant, whatever is inserted before that.
use Rattle.std.specs.Prelude.{◌≡◌, Bool, true, false}
use Rattle.std.proofs.Math.Path.{refl, ap}
use Rattle.std.proofs.Common.{sym, ◌∙◌}
use Rattle.std.proofs.Math.Option.{Option, some}
use mathlib.Core.List.{List, [], ◌∷◌}
use Prim.Native.Nat.{ℕ, zero, suc}
use Rattle.std.proofs.Math.ListN.{get_elem?}
use Rattle.rules.specs.Versions.{RuleSet}
use Rattle.rules.specs.Rows.{Num, Id}
use Rattle.rules.specs.Tree.{Declaration, Operand, ref, outer, case, Head, Scope, scope, head_of, with_operands}
use Rattle.rules.specs.Rules
use Rattle.rules.specs.Rules.{ok, Env, Outside, at_root, expand_operand, expand_operands, expand_head, declarations, resolve_operands, resolve_head, resolve_inside}
use Rattle.rules.specs.Readings
use Rattle.rules.specs.Readings.{Place, Level, level, Use}
use Rattle.rules.proofs.Laws.Meaning.Runs.{seeing}
use Rattle.rules.specs.Laws.ToolLaws.{false_not, then_some}
use Rattle.rules.specs.Laws.Meaning.Names.{LowScope}
use Rattle.rules.proofs.Laws.Meaning.Frames.{Frames}
use Rattle.rules.proofs.Laws.Meaning.Agree
use Rattle.rules.proofs.Laws.Meaning.Agree.{Arrived}
use Rattle.rules.specs.Laws.Results.{if_both, bind_any, bind_eq, bind_ok, OkR, holds_of, ok_same, some_same, no_option}

-- an operand in which there is nothing to resolve: numbers without PATHs, or a CASE
unfoldable pub is_written : Operand → Bool
is_written (ref space (Num n) [] z) = true
is_written (ref space (Num n) (p ∷ ps) z) = false
is_written (ref space (Id name) paths z) = false
is_written (outer space (Num d) (Num n) z) = true
is_written (outer space (Num d) (Id name) z) = false
is_written (outer space (Id name) at z) = false
is_written (case name z) = true

-- ---- what the steps make of it

module _ (ds : List Declaration) (outside : Outside) where
  operand_stays : (k : ℕ) (x : Operand) → is_written x ≡ true → OkR (λ e. e.now ≡ x) (expand_operand ds outside k x)
  unfolding expand_operand Rules.as_it_is is_written
  operand_stays k (ref space (Num n) [] z) w = refl
  operand_stays k (ref space (Num n) (p ∷ ps) z) w = false_not w
  operand_stays k (ref space (Id name) [] z) w = false_not w
  operand_stays k (ref space (Id name) (p ∷ ps) z) w = false_not w
  operand_stays k (outer space up at z) w = refl
  operand_stays k (case name z) w = refl

  operands_stay : (k : ℕ) (os : List Operand) (o : ℕ) (x : Operand) → get_elem? os o ≡ some x → is_written x ≡ true → OkR (λ e. get_elem? e.now o ≡ some x) (expand_operands ds outside k os)
  unfolding expand_operands
  operands_stay k [] o x e w = no_option x e
  operands_stay k (y ∷ os) zero x e w =
      rw (some_same y x e) (bind_ok _ _ _ _ (operand_stays k x w) (λ e p. bind_any _ _ _ (λ es. ap {B = Option Operand} some p)))
  operands_stay k (y ∷ os) (suc o) x e w = bind_any _ _ _ (λ y'. bind_ok _ _ _ _ (operands_stay y'.k os o x e w) (λ es p. p))

  head_stays : (k : ℕ) (h : Head) (o : ℕ) (x : Operand) → get_elem? h.operands o ≡ some x → is_written x ≡ true
      → OkR (λ e. get_elem? e.now.operands o ≡ some x) (expand_head ds outside k h)
  unfolding expand_head Rules.as_it_is with_operands
  head_stays k h o x e w = if_both (OkR _) _ _ _ e (bind_ok _ _ _ _ (operands_stay k h.operands o x e w) (λ es p. p))

module _ (here : Env) (outside : Outside) where
  resolved_stay : (fz : ℕ) (seen : List ℕ) (os : List Operand) (o : ℕ) (x : Operand) → get_elem? os o ≡ some x → is_written x ≡ true
      → OkR (λ os'. get_elem? os' o ≡ some x) (resolve_operands here outside fz seen os)
  unfolding resolve_operands Rules.number_in Rules.resolve_outer is_written
  resolved_stay fz seen [] o x e w = no_option x e
  resolved_stay fz seen (ref space (Num n) paths z ∷ os) zero x e w =
      bind_eq _ _ _ (λ m p. bind_any _ _ _ (λ os'. ap {B = Option Operand} (λ (v : ℕ). some (ref space (Num v) paths z)) (sym (ok_same n m p)) ∙ e))
  resolved_stay fz seen (ref space (Id name) paths z ∷ os) zero x e w = false_not (ap is_written (some_same _ x e) ∙ w)
  resolved_stay fz seen (outer space (Num d) (Num n) z ∷ os) zero x e w =
      bind_eq _ _ _ (λ y p. bind_any _ _ _ (λ os'. ap {B = Option Operand} some (sym (ok_same _ y p)) ∙ e))
  resolved_stay fz seen (outer space (Num d) (Id name) z ∷ os) zero x e w = false_not (ap is_written (some_same _ x e) ∙ w)
  resolved_stay fz seen (outer space (Id name) at z ∷ os) zero x e w = false_not (ap is_written (some_same _ x e) ∙ w)
  resolved_stay fz seen (case name z ∷ os) zero x e w = if_both (OkR _) _ _ _ tt (bind_any _ _ _ (λ os'. e))
  resolved_stay fz seen (ref space at paths z ∷ os) (suc o) x e w = bind_any _ _ _ (λ n. bind_ok _ _ _ _ (resolved_stay fz seen os o x e w) (λ os' p. p))
  resolved_stay fz seen (outer space up at z ∷ os) (suc o) x e w = bind_any _ _ _ (λ y. bind_ok _ _ _ _ (resolved_stay fz seen os o x e w) (λ os' p. p))
  resolved_stay fz seen (case name z ∷ os) (suc o) x e w = if_both (OkR _) _ _ _ tt (bind_ok _ _ _ _ (resolved_stay fz (name ∷ seen) os o x e w) (λ os' p. p))

  head_resolved : (h : Head) (o : ℕ) (x : Operand) → get_elem? h.operands o ≡ some x → is_written x ≡ true → OkR (λ h'. get_elem? h'.operands o ≡ some x) (resolve_head here outside h)
  unfolding resolve_head with_operands
  head_resolved h o x e w = bind_ok _ _ _ _ (resolved_stay h.z [] h.operands o x e w) (λ os p. p)

-- ---- the theorem

-- the use at the same place of the output has the same operand
abbrev Stays : List Level → (f o : ℕ) → Use → Type 0
Stays ls' f o u = (u' : Use) × (Readings.use_in ls' f o ≡ some u') × (u'.operand ≡ u.operand)

stays_at : {ls ls' : List Level} → Arrived ls ls' → (f o : ℕ) (u : Use) → Readings.use_in ls f o ≡ some u → is_written u.operand ≡ true → Stays ls' f o u
stays_at {ls} {ls'} D f o u e w =
    let U = Agree.use_inv (level D.w D.fs) D.ins f o u (ap (λ (v : List Level). Readings.use_in v f o) D.was ∙ e) in
    let A = Agree.at_ended D.ends f U.0 U.1 in
    let now : get_elem? A.e.now.operands o ≡ some u.operand = holds_of _ _ A.e (head_stays (declarations D.fs) (seeing D.outside A.seen) A.b (head_of U.0) o u.operand U.2 w) A.expands in
    let then_at : get_elem? A.h.operands o ≡ some u.operand = holds_of _ _ A.h (head_resolved D.here (seeing D.outside A.seen) A.e.now o u.operand now w) A.resolves in (
      _,
      ap (λ (v : List Level). Readings.use_in v f o) (sym D.now) ∙ Agree.use_there (level D.w D.out) D.outs f o A.q.0 A.h u.operand A.there A.head then_at,
      refl,
    )

-- In an accepted run an operand that holds numbers and no PATHs stands unchanged at the same place of the output.
pub written_stays : (rules : RuleSet) (base : List ℕ) {ins outs : List Level} {around : List Env} → Frames ins outs around → (s : Scope) (r : Scope × ℕ) (p : Place) (u : Use) → LowScope s
    → resolve_inside rules around s ≡ ok r → Readings.use_inside base ins s p ≡ some u → is_written u.operand ≡ true
    → (u' : Use) × (Readings.use_inside base outs r.0 p ≡ some u') × (u'.operand ≡ u.operand)
unfolding Readings.use_inside
written_stays rules base {ins} {outs} {around} Fs (scope kind name fs) r p u low eq eu w =
    let E = Agree.ended kind name fs (at_root rules around) 0 r low.1 eq in
    let s₁ = then_some (Readings.around p.way (level base fs) ins) _ u eu in
    let D = Agree.descend p.way base E.2 Fs s₁.0 s₁.1 in
    let S = stays_at D.2 p.field p.at u s₁.2 w in
    (S.0, Agree.use_is base outs r.0 p D.0 S.0 (ap (λ (t : Scope). Readings.around p.way (level base (Readings.fields_of t)) outs) E.3 ∙ D.1) S.1, S.2)
