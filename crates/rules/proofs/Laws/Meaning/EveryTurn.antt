-- In an accepted run the turn of every operand comes: so `Turn` asks for nothing that a run does not do.
use Rattle.std.specs.Prelude.{◌≡◌, Bool, true, false, ◌&&◌, not, ℕ, zero, suc, eqb, take}
use Rattle.std.proofs.Math.Path.{refl}
use Rattle.std.proofs.Common.{ap, sym, ◌∙◌, subst}
use Rattle.std.proofs.Math.Option.{Option, none, some}
use mathlib.Core.List.{List, [], ◌∷◌, ◌++◌}
use Rattle.std.proofs.Math.ListN.{get_elem?}
use native.Mathlib.Omega.{arith}
use Rattle.rules.specs.Tools
use Rattle.rules.specs.Tools.{when◌then◌else◌, is_in}
use Rattle.rules.specs.Versions.{RuleSet, today}
use Rattle.rules.specs.Rows.{Id}
use Rattle.rules.specs.Tree
use Rattle.rules.specs.Tree.{Declaration, Operand, ref, outer, case, Head, Scope, scope, Fields, end, ◌▸◌, Item, plain, holds, head_of, with_operands}
use Rattle.rules.specs.Shapes
use Rattle.rules.specs.Reader
use Rattle.rules.specs.Rules
use Rattle.rules.specs.Rules.{Before, opened, refused, ok, ◌>>=◌, Env, Outside, onward, at_root, inward, Expanded, expand_operands, expand_head, declarations, prepare, resolve_operands, resolve_head, resolve_scope, resolve_fields, resolve_item, resolve, resolve_inside}
use Rattle.rules.specs.Readings
use Rattle.rules.specs.Readings.{originals, Place, Level, level, Use}
use Rattle.rules.specs.Laws.ToolLaws.{then_some}
use Rattle.rules.specs.Laws.Meaning.Names.{LowScope, LowFields, LowItem}
use Rattle.rules.proofs.Laws.Meaning.Runs.{seeing, Ran, ran}
use Rattle.rules.proofs.Laws.Meaning.Lookups
use Rattle.rules.proofs.Laws.Meaning.Frames.{nowhere}
use Rattle.rules.proofs.Laws.Meaning.Agree
use Rattle.rules.proofs.Laws.Meaning.Unknown.{unknown_exactly}
use Rattle.rules.proofs.Laws.Meaning.Turns.{Comes, at_once, past, Turn, own, further}
use Rattle.rules.specs.Laws.Results.{always, ok_then, if_both, bind_eq, bind_any, OkR, holds_of, bind_ok, bind_inv, some_same, no_option}

-- ---- the field

record Reached (fs : Fields) (n : ℕ) (ds : List Declaration) (here : Env) (outside : Outside) (b k : ℕ) (i : Item) : Type 0 where
  rest : Fields
  b' : ℕ
  k' : ℕ
  q : Fields × ℕ
  seen : Before
  comes : Comes ds here outside fs b k n i rest b' k' seen
  goes_on_lem : resolve_fields (i ▸ rest) ds here (seeing outside seen) b' k' ≡ ok q
  low : LowItem i

reached : (fs : Fields) (n : ℕ) (ds : List Declaration) (here : Env) (outside : Outside) (b k : ℕ) (r : Fields × ℕ) (i : Item)
    → LowFields fs → resolve_fields fs ds here outside b k ≡ ok r → get_elem? (originals fs) n ≡ some i → Reached fs n ds here outside b k i
unfolding originals
reached end n ds here outside b k r i low eq ei = no_option i ei
reached (i₀ ▸ fs) zero ds here outside b k r i low eq ei =
    let e : get_elem? (i₀ ∷ originals fs) 0 ≡ some i = rw (Lookups.originals_original i₀ fs (Lookups.low_original (head_of i₀) low.0.decls)) at ei in
    subst (Reached (i₀ ▸ fs) 0 ds here outside b k) (some_same i₀ i e) (record { rest = fs; b' = b; k' = k; q = r; seen = outside.before; comes = at_once; goes_on_lem = eq; low = low.1 })
reached (i₀ ▸ fs) (suc n) ds here outside b k r i low eq ei =
    let e : get_elem? (originals fs) n ≡ some i = rw (Lookups.originals_original i₀ fs (Lookups.low_original (head_of i₀) low.0.decls)) at ei in
    let R = ran i₀ fs ds here outside b k r eq in
    let I = reached fs n ds here (onward i₀ outside) R.e.k R.q.1 R.rs i low.2 R.goes_on_lem e in
    record {
      rest = I.rest;
      b' = I.b';
      k' = I.k';
      q = I.q;
      seen = I.seen;
      comes = past R.e R.new R.h R.q R.expands R.adds R.resolves R.items I.comes;
      goes_on_lem = I.goes_on_lem;
      low = I.low;
    }

-- ---- the operand

-- step B makes an operand of each
operands_stay : (ds : List Declaration) (outside : Outside) (k : ℕ) (os : List Operand) (o : ℕ) (op : Operand) → get_elem? os o ≡ some op
    → OkR (λ e. (now : Operand) × (get_elem? e.now o ≡ some now)) (expand_operands ds outside k os)
unfolding expand_operands
operands_stay ds outside k [] o op e = no_option op e
operands_stay ds outside k (x ∷ os) zero op e = bind_any _ _ _ (λ x'. bind_any _ _ _ (λ xs. (x'.now, refl)))
operands_stay ds outside k (x ∷ os) (suc o) op e = bind_any _ _ _ (λ x'. bind_ok _ _ _ _ (operands_stay ds outside x'.k os o op e) (λ xs s. s))

head_stays : (ds : List Declaration) (outside : Outside) (k : ℕ) (h : Head) (o : ℕ) (op : Operand) → get_elem? h.operands o ≡ some op
    → OkR (λ e. (now : Operand) × (get_elem? e.now.operands o ≡ some now)) (expand_head ds outside k h)
unfolding expand_head Rules.as_it_is with_operands
head_stays ds outside k h o op e = if_both (OkR _) _ _ _ (op, e) (bind_ok _ _ _ _ (operands_stay ds outside k h.operands o op e) (λ es s. s))

-- the operands before it pass
passed : (here : Env) (outside : Outside) (fz : ℕ) (seen : List ℕ) (os : List Operand) (o : ℕ)
    → OkR (λ os'. (x : List Operand) × (resolve_operands here outside fz seen (take o os) ≡ ok x)) (resolve_operands here outside fz seen os)
unfolding resolve_operands when◌then◌else◌
passed here outside fz seen os zero = always (resolve_operands here outside fz seen os) ([], refl)
passed here outside fz seen [] (suc o) = ([], refl)
passed here outside fz seen (ref space at paths z ∷ os) (suc o) =
    bind_eq _ _ _ (λ n en. bind_ok _ _ _ _ (passed here outside fz seen os o) (λ os' s.
    (_, ok_then (Rules.number_in here.entries space at z) _ n _ en (ok_then (resolve_operands here outside fz seen (take o os)) _ s.0 _ s.1 refl))))
passed here outside fz seen (outer space up at z ∷ os) (suc o) =
    bind_eq _ _ _ (λ n en. bind_ok _ _ _ _ (passed here outside fz seen os o) (λ os' s.
    (_, ok_then (Rules.resolve_outer outside.early (opened here outside) fz space up at z) _ n _ en (ok_then (resolve_operands here outside fz seen (take o os)) _ s.0 _ s.1 refl))))
passed here outside fz seen (case name z ∷ os) (suc o) = go (not (eqb name 0) && is_in name seen) refl (passed here outside fz (name ∷ seen) os o)
  where
    go : (b : Bool) → not (eqb name 0) && is_in name seen ≡ b → OkR (λ os'. (x : List Operand) × (resolve_operands here outside fz (name ∷ seen) (take o os) ≡ ok x)) (resolve_operands here outside fz (name ∷ seen) os)
        → OkR (λ os'. (x : List Operand) × (resolve_operands here outside fz seen (take (suc o) (case name z ∷ os)) ≡ ok x)) (when b then refused Rules.case_twice z else (resolve_operands here outside fz (name ∷ seen) os >>= λ os'. ok (case name z ∷ os')))
    go true eb f = tt
    go false eb f = bind_ok _ _ _ _ f (λ os' s. (case name z ∷ s.0, rw eb (ok_then (resolve_operands here outside fz (name ∷ seen) (take o os)) _ s.0 _ s.1 refl)))

head_passed : (here : Env) (outside : Outside) (h : Head) (o : ℕ) → OkR (λ h'. (x : List Operand) × (resolve_operands here outside h.z [] (take o h.operands) ≡ ok x)) (resolve_head here outside h)
unfolding resolve_head
head_passed here outside h o = bind_ok _ _ _ _ (passed here outside h.z [] h.operands o) (λ os s. s)

-- ---- the scope

held_inv : (i : Item) (gs : Fields) → Readings.held i ≡ some gs → (h : Head) × (s : Scope) × (i ≡ holds h s) × (Readings.fields_of s ≡ gs)
unfolding Readings.held
held_inv (plain h) gs e = no_option gs e
held_inv (holds h s) gs e = (h, s, refl, some_same (Readings.fields_of s) gs e)

-- a scope that has passed: what steps A and B gave, and step C
record Passed (name : ℕ) (fs : Fields) (outside : Outside) (k : ℕ) : Type 0 where
  p : Env × ℕ
  r : Fields × ℕ
  prepares : prepare name fs outside k ≡ ok p
  resolves : resolve_fields fs (declarations fs) p.0 outside k p.1 ≡ ok r

scope_passed : (kind name : ℕ) (fs : Fields) (outside : Outside) (k : ℕ) (q : Scope × ℕ) → resolve_scope (scope kind name fs) outside k ≡ ok q → Passed name fs outside k
unfolding resolve_scope
scope_passed kind name fs outside k q eq =
    let s₁ = bind_inv (prepare name fs outside k) _ q eq in
    let s₂ = bind_inv (resolve_fields fs (declarations fs) s₁.0.0 outside k s₁.0.1) _ q s₁.2 in
    record { p = s₁.0; r = s₂.0; prepares = s₁.1; resolves = s₂.1 }

module _ (kind name : ℕ) (fs : Fields) (outside : Outside) (k : ℕ) (W : Passed name fs outside k) (n : ℕ) (i : Item)
    (R : Reached fs n (declarations fs) W.p.0 outside k W.p.1 i) (A : Ran i R.rest (declarations fs) W.p.0 (seeing outside R.seen) R.b' R.k' R.q) where
  own_turn : (o : ℕ) (op : Operand) → get_elem? (head_of i).operands o ≡ some op → (now : Operand) × Turn (scope kind name fs) outside k [] n o W.p.0 now
  own_turn o op e =
      let N = holds_of (λ (x : Expanded Head). (now : Operand) × (get_elem? x.now.operands o ≡ some now)) _ A.e (head_stays (declarations fs) (seeing outside R.seen) R.b' (head_of i) o op e) A.expands in
      let P = holds_of (λ (h : Head). (x : List Operand) × (resolve_operands W.p.0 (seeing outside R.seen) A.e.now.z [] (take o A.e.now.operands) ≡ ok x)) _ A.h (head_passed W.p.0 (seeing outside R.seen) A.e.now o) A.resolves in
      (N.0, own W.p A.e A.new P.0 W.prepares R.comes A.expands A.adds P.1 N.1)

inner_passed : (h₀ : Head) (s : Scope) (h : Head) (here : Env) (outside : Outside) (k : ℕ) (q : Item × ℕ) → resolve_item (holds h₀ s) h here outside k ≡ ok q
    → (r : Scope × ℕ) × (resolve_scope s (inward h₀ here outside) k ≡ ok r)
unfolding resolve_scope
inner_passed h₀ s h here outside k q e =
    let s₁ = bind_inv (resolve_scope s (inward h₀ here outside) k) _ q e in
    (s₁.0, s₁.1)

further_turn : (kind name : ℕ) (fs : Fields) (outside : Outside) (k : ℕ) (W : Passed name fs outside k) (n : ℕ) (h₀ : Head) (s : Scope)
    (R : Reached fs n (declarations fs) W.p.0 outside k W.p.1 (holds h₀ s)) (A : Ran (holds h₀ s) R.rest (declarations fs) W.p.0 (seeing outside R.seen) R.b' R.k' R.q)
    (way : List ℕ) (f o : ℕ) → (here : Env) × (now : Operand) × Turn s (inward h₀ W.p.0 (seeing outside R.seen)) R.k' way f o here now
    → (here : Env) × (now : Operand) × Turn (scope kind name fs) outside k (n ∷ way) f o here now
unfolding head_of
further_turn kind name fs outside k W n h₀ s R A way f o t =
    (t.0, t.1, further W.p A.e A.new A.h W.prepares R.comes A.expands A.adds A.resolves t.2)

turns : (way : List ℕ) (s : Scope) (outside : Outside) (k : ℕ) (r : Scope × ℕ) (w : List ℕ) (ins ls : List Level) (f o : ℕ) (u : Use) → LowScope s → resolve_scope s outside k ≡ ok r
    → Readings.around way (level w (Readings.fields_of s)) ins ≡ some ls → Readings.use_in ls f o ≡ some u
    → (here : Env) × (now : Operand) × Turn s outside k way f o here now
unfolding Readings.around
turns [] (scope kind name fs) outside k r w ins ls f o u low eq ea eu =
    let W = scope_passed kind name fs outside k r eq in
    let same : (level w fs ∷ ins) ≡ ls = some_same _ ls ea in
    let U = Agree.use_inv (level w fs) ins f o u (ap (λ (v : List Level). Readings.use_in v f o) same ∙ eu) in
    let R = reached fs f (declarations fs) W.p.0 outside k W.p.1 W.r U.0 low.1 W.resolves U.1 in
    let T = own_turn kind name fs outside k W f U.0 R (ran U.0 R.rest (declarations fs) W.p.0 (seeing outside R.seen) R.b' R.k' R.q R.goes_on_lem) o u.operand U.2 in
    (W.p.0, T.0, T.1)
turns (n ∷ way) (scope kind name fs) outside k r w ins ls f o u low eq ea eu =
    let W = scope_passed kind name fs outside k r eq in
    let s₃ = then_some (get_elem? (originals fs) n) _ ls ea in
    let s₄ = then_some (Readings.held s₃.0) _ ls s₃.2 in
    let H = held_inv s₃.0 s₄.0 s₄.1 in
    let R = reached fs n (declarations fs) W.p.0 outside k W.p.1 W.r (holds H.0 H.1) low.1 W.resolves (s₃.1 ∙ ap {B = Option Item} some H.2) in
    let A = ran (holds H.0 H.1) R.rest (declarations fs) W.p.0 (seeing outside R.seen) R.b' R.k' R.q R.goes_on_lem in
    let I = inner_passed H.0 H.1 A.h W.p.0 (seeing outside R.seen) R.k' A.q A.items in
    further_turn kind name fs outside k W n H.0 H.1 R A way f o
    (turns way H.1 (inward H.0 W.p.0 (seeing outside R.seen)) R.k' I.0 (w ++ (n ∷ [])) (level w fs ∷ ins) ls f o u R.low I.1
    (subst (λ (gs : Fields). Readings.around way (level (w ++ (n ∷ [])) gs) (level w fs ∷ ins) ≡ some ls) (sym H.3) s₄.2) eu)

pub every_turn : (rules : RuleSet) (base : List ℕ) (ins : List Level) (around : List Env) (s : Scope) (r : Scope × ℕ) (p : Place) (u : Use) → LowScope s → resolve_inside rules around s ≡ ok r
    → Readings.use_inside base ins s p ≡ some u → (here : Env) × (now : Operand) × Turn s (at_root rules around) 0 p.way p.field p.at here now
unfolding Readings.use_inside
every_turn rules base ins around s r p u low eq eu =
    let s₁ = then_some (Readings.around p.way (level base (Readings.fields_of s)) ins) _ u eu in
    turns p.way s (at_root rules around) 0 r base ins s₁.0 p.field p.at u low eq s₁.1 s₁.2

-- ---- and the turn of a name that nothing declares comes too

only_field : Head
only_field = record { code = 12; builtin = 0; z = 0; decls = record { space = 9; name = 1; z = 0 } ∷ []; operands = ref 9 (Id 7) [] 70 ∷ []; export = none }

lonely : Scope
lonely = scope 0 0 (plain only_field ▸ end)

its_turn : Turn lonely (at_root today []) 0 [] 0 0 (record { name = 0; entries = record { decl = record { space = 9; name = 1; z = 0 }; row = 2 } ∷ []; before = [] }) (ref 9 (Id 7) [] 70)
unfolding lonely only_field Tools.computes Tree.computes Shapes.computes Rules.computes Reader.computes
its_turn = own (record { name = 0; entries = record { decl = record { space = 9; name = 1; z = 0 }; row = 2 } ∷ []; before = [] }, 0) (record { inserted = []; rows = []; now = only_field; k = 0 }) [] [] refl at_once refl refl refl refl

its_use : Readings.use_at lonely (record { way = []; field = 0; at = 0 }) ≡ some (record { levels = Readings.root lonely ∷ []; head = only_field; operand = ref 9 (Id 7) [] 70 })
unfolding lonely only_field Tools.computes Tree.computes Readings.computes
its_use = refl

lonely_refused : resolve today lonely ≡ refused (Rules.unknown 9) 70
unfolding lonely only_field Tools.computes Tree.computes Shapes.computes Readings.computes
lonely_refused = unfold resolve in (unknown_exactly today [] nowhere lonely (record { way = []; field = 0; at = 0 }) _ (9, 7) _ _ (omega arith, (record { decls = (omega arith, tt); operands = ((omega arith, omega arith), tt) }, tt, tt)) its_use refl its_turn).1 refl
