-- In an accepted run, under rules that ask for it, every walked name means a declaration that stands earlier.
use Rattle.std.specs.Prelude.{◌≡◌, refl, Bool, true, false, ◌&&◌, not}
use Rattle.std.proofs.Common.{ap, sym, ◌∙◌}
use Rattle.std.proofs.Math.Option.{Option, some}
use mathlib.Core.List.{List, [], ◌∷◌, ◌++◌, append_assoc}
use Prim.Native.Nat.{ℕ, zero, suc}
use Rattle.std.proofs.Math.ListN.{get_elem?}
use Rattle.rules.specs.Tools.{when◌then◌else◌, is_just}
use Rattle.rules.specs.Versions.{RuleSet}
use Rattle.rules.specs.Rows.{Id}
use Rattle.rules.specs.Tree.{Declaration, Operand, ref, Head, Scope, scope, Item, head_of}
use Rattle.rules.specs.Shapes.{here_only}
use Rattle.rules.specs.Rules
use Rattle.rules.specs.Rules.{Before, ok, Env, Outside, Expanded, expand_operand, expand_operands, expand_head, declarations, resolve_inside}
use Rattle.rules.specs.Readings
use Rattle.rules.specs.Readings.{originals, Place, Level, level, outward, place_from}
use Rattle.rules.proofs.Laws.Meaning.Runs.{seeing}
use Rattle.rules.specs.Laws.ToolLaws.{then_some}
use Rattle.rules.specs.Laws.Results.{OkR, holds_of, bind_ok, bind_eq, bind_any, always, no_result, some_same, no_option}
use Rattle.rules.specs.Laws.Meaning.Names.{LowOperand, LowHead, LowScope}
use Rattle.rules.proofs.Laws.Meaning.StepB.{walked_ref, low_operand}
use Rattle.rules.proofs.Laws.Meaning.Turns.{Turn, own, further}
use Rattle.rules.proofs.Laws.Meaning.Agree
use Rattle.rules.proofs.Laws.Meaning.Unknown
use Rattle.rules.proofs.Laws.Meaning.Early
use Rattle.rules.proofs.Laws.Meaning.Early.{firsts, comes_seen, Enters, this}
use Rattle.rules.proofs.Laws.Meaning.EveryTurn.{every_turn}

-- ---- step B passes only what is in time

in_time_lem : (b : Bool) (z : ℕ) (u : Unit {0}) → Rules.in_time b z ≡ ok u → b ≡ false
unfolding Rules.in_time when◌then◌else◌
in_time_lem true z u e = no_result Rules.not_earlier z u e
in_time_lem false z u e = refl

module _ (ds : List Declaration) (outside : Outside) (space name z : ℕ) where
  abbrev InTime : Type 0
  InTime = Rules.late_name ds outside space name ≡ false

  operand_in_time : (k : ℕ) → OkR (λ e. InTime) (expand_operand ds outside k (ref space (Id name) [] z))
  unfolding expand_operand
  operand_in_time k = bind_eq _ _ _ (λ u e. always
      (when is_just (Rules.find ds space name) then ok (Rules.as_it_is (ref space (Id name) [] z) k) else Rules.found_at space name z k (Rules.walk outside.scopes 1 space name))
      (in_time_lem _ z u e))

  operands_in_time : (k : ℕ) (os : List Operand) (o : ℕ) → get_elem? os o ≡ some (ref space (Id name) [] z) → OkR (λ e. InTime) (expand_operands ds outside k os)
  unfolding expand_operands
  operands_in_time k [] o e = no_option _ e
  operands_in_time k (x ∷ os) zero e = rw (some_same x _ e) (bind_ok _ _ _ _ (operand_in_time k) (λ x' t. bind_any _ _ _ (λ xs. t)))
  operands_in_time k (x ∷ os) (suc o) e = bind_any _ _ _ (λ x'. bind_ok _ _ _ _ (operands_in_time x'.k os o e) (λ xs t. t))

  head_in_time : (k : ℕ) (h : Head) (o : ℕ) → here_only h.code ≡ false → get_elem? h.operands o ≡ some (ref space (Id name) [] z) → OkR (λ e. InTime) (expand_head ds outside k h)
  unfolding expand_head when◌then◌else◌
  head_in_time k h o c e = rw c (bind_ok _ _ _ _ (operands_in_time k h.operands o e) (λ es t. t))

-- ---- the scope of an operand at its turn

record Came (s : Scope) (outside : Outside) (way : List ℕ) (f : ℕ) : Type 0 where
  t : Scope
  inner : Outside
  enters : Enters s outside way t inner
  i : Item
  seen : Before
  b : ℕ
  e : Expanded Head
  low_head : LowHead (head_of i)
  there : get_elem? (originals (Readings.fields_of t)) f ≡ some i
  seen_is : seen.decls ≡ inner.before.decls ++ firsts f (Readings.fields_of t)
  expands : expand_head (declarations (Readings.fields_of t)) (seeing inner seen) b (head_of i) ≡ ok e

came : {s : Scope} {outside : Outside} {k : ℕ} {way : List ℕ} {f o : ℕ} {here : Env} {now : Operand} → Turn s outside k way f o here now → LowScope s → Came s outside way f
came (own {kind = kind} {name = name} {fs = fs} {outside = outside} {n = n} {b = b} {i = i} {seen = seen} p e new os ep C ee en eo et) low =
    record { t = scope kind name fs; inner = outside; enters = this; i = i; seen = seen; b = b; e = e; low_head = (Unknown.comes_at C low.1).1; there = (Unknown.comes_at C low.1).0; seen_is = comes_seen C; expands = ee }
came (further {kind = kind} {name = name} {fs = fs} {outside = outside} {k = k} {n = n} {h₀ = h₀} {s = s} {seen = seen} p e new h ep C ee en eh t) low =
    let A = Unknown.comes_at C low.1 in
    let I = came t A.2 in
    record {
      t = I.t;
      inner = I.inner;
      enters = Early.further seen k p ep A.0 (comes_seen C) I.enters;
      i = I.i;
      seen = I.seen;
      b = I.b;
      e = I.e;
      low_head = I.low_head;
      there = I.there;
      seen_is = I.seen_is;
      expands = I.expands;
    }

-- ---- the theorem

not_late : (early late : Bool) → early ≡ true → early && not late ≡ false → late ≡ true
not_late early true e h = refl
not_late true false e h = sym h
not_late false false e h = e

-- An accepted tree has, under such rules, no walked name whose outward reading is a declaration that does not stand earlier.
pub accepted_early : (rules : RuleSet) (base : List ℕ) {ins : List Level} {around : List Env} → Early.TimesAround base ins around
    → (s : Scope) (r : Scope × ℕ) (p : Place) (x : ℕ × ℕ) (d : Place) → LowScope s → rules.early ≡ true → resolve_inside rules around s ≡ ok r
    → Readings.walked_inside base ins s p ≡ some x → Readings.outward_inside base ins s p ≡ some d → Readings.is_earlier d (place_from base p) ≡ true
unfolding Readings.walked_inside Readings.use_inside Readings.is_earlier Early.late_by
accepted_early rules base {ins} {around} Ts s r p x d low early eq w reads =
    let s₁ = then_some (Readings.use_inside base ins s p) _ x w in
    let s₂ = then_some (Readings.around p.way (level base (Readings.fields_of s)) ins) _ s₁.0 s₁.1 in
    let T = every_turn rules base ins around s r p s₁.0 low eq s₁.1 in
    let C = came T.2 low in
    let steps = (base ++ p.way) ++ (p.field ∷ []) in
    let from-base : steps ≡ base ++ (p.way ++ (p.field ∷ [])) = append_assoc base p.way (p.field ∷ []) in
    let En = Early.entered C.enters base ins steps (p.field ∷ []) from-base low refl (Ts steps (p.way ++ (p.field ∷ [])) from-base) in
    let same : s₂.0 ≡ level En.w (Readings.fields_of C.t) ∷ En.around_it = some_same _ _ (sym s₂.1 ∙ En.arrives) in
    let U = Agree.use_inv (level En.w (Readings.fields_of C.t)) En.around_it p.field p.at s₁.0 (ap (λ (v : List Level). Readings.use_in v p.field p.at) (sym same) ∙ s₂.2) in
    let is-i : U.0 ≡ C.i = some_same _ _ (sym U.1 ∙ C.there) in
    let W = walked_ref s₁.0.head s₁.0.operand x s₁.2 in
    let c : here_only (head_of C.i).code ≡ false = ap (λ (j : Item). here_only (head_of j).code) (sym is-i) ∙ (ap (λ (h : Head). here_only h.code) U.3 ∙ W.2) in
    let o : get_elem? (head_of C.i).operands p.at ≡ some (ref x.0 (Id x.1) [] W.0) =
    ap (λ (j : Item). get_elem? (head_of j).operands p.at) (sym is-i) ∙ (U.2 ∙ ap {B = Option Operand} some W.1) in
    let in-time-there = holds_of _ _ C.e (head_in_time (declarations (Readings.fields_of C.t)) (seeing C.inner C.seen) x.0 x.1 W.0 C.b (head_of C.i) p.at c o) C.expands in
    let outward_is : outward (level En.w (Readings.fields_of C.t) ∷ En.around_it) x.0 x.1 ≡ some d =
    ap (λ (v : List Level). outward v x.0 x.1) (sym (Agree.use_levels s₂.0 p.field p.at s₁.0 s₂.2 ∙ same))
    ∙ (sym (Unknown.reading_is base ins s p s₁.0 x s₁.1 s₁.2) ∙ reads) in
    let low-name : LowOperand (ref x.0 (Id x.1) [] W.0) = low_operand (head_of C.i).operands p.at _ C.low_head.operands o in
    not_late rules.early _ early
    (ap (λ (q : Option Place). rules.early && Early.late_by steps q) (sym outward_is)
    ∙ (sym (Early.late_at_lem En C.seen C.seen_is x.0 x.1 low-name.1) ∙ in-time-there))
