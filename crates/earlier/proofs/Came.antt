-- In an accepted run: what the steps did at a field on the way to an operand, and what they let pass there.
use Rattle.std.specs.Prelude.{◌≡◌, Bool, true, leb}
use Rattle.std.proofs.Math.Path.{refl, ap}
use Rattle.std.proofs.Common.{sym, ◌∙◌, subst}
use Rattle.std.proofs.Math.Bool.{false}
use Rattle.std.proofs.Math.Option.{Option, some}
use mathlib.Core.List.{List, [], ◌∷◌, ◌++◌, append_assoc, append-nil}
use Prim.Native.Nat.{ℕ, zero, suc}
use Rattle.std.proofs.Math.ListN.{get_elem?}
use Rattle.rules.specs.Tools.{when◌then◌else◌}
use Rattle.rules.specs.Rows.{Index, Id}
use Rattle.rules.specs.Tree.{Declaration, Operand, ref, outer, case, Head, Scope, scope, Fields, end, ◌▸◌, Item, plain, holds, head_of, with_operands}
use Rattle.rules.specs.Shapes.{here_only}
use Rattle.rules.specs.Rules as steps
use Rattle.rules.specs.Rules.{Before, opened, ok, Env, Outside, onward, inward, fresh, Expanded, expand_operand, expand_operands, expand_head, path_aliases, export_alias, declarations, prepare, resolve_operands, resolve_head, resolve_inserted, resolve_scope, resolve_fields, resolve_item}
use Rattle.rules.specs.Readings as readings
use Rattle.rules.specs.Readings.{originals, Level, level, Use}
use Rattle.rules.specs.Laws.ToolLaws.{then_some}
use Rattle.rules.specs.Laws.Results.{OkR, bind_ok, bind_any, bind_eq, bind_inv, if_both, some_same, no_option}
use Rattle.rules.specs.Laws.Meaning.Names.{LowHead, LowScope, LowFields, LowItem}
use Rattle.rules.proofs.Laws.Meaning.Lookups as lookups
use Rattle.rules.proofs.Laws.Meaning.Runs.{seeing, ran}
use Rattle.rules.proofs.Laws.Meaning.Agree as runs
use Rattle.rules.proofs.Laws.Meaning.Origins.{In, first, behind}
use Rattle.rules.proofs.Laws.Meaning.Early.{firsts, Enters, this, further}
use Rattle.earlier.specs.Passing.{in_time_lem}
use Rattle.earlier.specs.Tested.{instance_space}

-- ---- the field

-- field `f` of a scope, `i`, as the steps let it pass: what step B made of it, and step C of that
pub record Passed (fs : Fields) (f : ℕ) (ds : List Declaration) (here : Env) (outside : Outside) (i : Item) : Type 0 where
  pub seen : Before
  pub seen_is : seen.decls ≡ outside.before.decls ++ firsts f fs
  pub b : ℕ
  pub k : ℕ
  pub e : Expanded Head
  pub new : List Head
  pub h : Head
  pub q : Item × ℕ
  pub expands : expand_head ds (seeing outside seen) b (head_of i) ≡ ok e
  pub adds : resolve_inserted here (seeing outside seen) e.inserted ≡ ok new
  pub resolves : resolve_head here (seeing outside seen) e.now ≡ ok h
  pub items : resolve_item i h here (seeing outside seen) k ≡ ok q
  pub low_head : LowHead (head_of i)
  pub low_item : LowItem i

passed : (fs : Fields) (f : ℕ) (ds : List Declaration) (here : Env) (outside : Outside) (b k : ℕ) (r : Fields × ℕ) (i : Item)
    → LowFields fs → resolve_fields fs ds here outside b k ≡ ok r → get_elem? (originals fs) f ≡ some i → Passed fs f ds here outside i
unfolding originals firsts
passed end f ds here outside b k r i low eq ei = no_option i ei
passed (i₀ ▸ fs) zero ds here outside b k r i low eq ei =
    let e : get_elem? (i₀ ∷ originals fs) 0 ≡ some i = rw (lookups.originals_original i₀ fs (lookups.low_original (head_of i₀) low.0.decls)) at ei in
    let R = ran i₀ fs ds here outside b k r eq in
    subst (Passed (i₀ ▸ fs) 0 ds here outside) (some_same i₀ i e)
    (record {
      seen = outside.before;
      seen_is = sym (append-nil outside.before.decls);
      b = b;
      k = k;
      e = R.e;
      new = R.new;
      h = R.h;
      q = R.q;
      expands = R.expands;
      adds = R.adds;
      resolves = R.resolves;
      items = R.items;
      low_head = low.0;
      low_item = low.1;
    })
passed (i₀ ▸ fs) (suc f) ds here outside b k r i low eq ei =
    let e : get_elem? (originals fs) f ≡ some i = rw (lookups.originals_original i₀ fs (lookups.low_original (head_of i₀) low.0.decls)) at ei in
    let R = ran i₀ fs ds here outside b k r eq in
    let P = passed fs f ds here (onward i₀ outside) R.e.k R.q.1 R.rs i low.2 R.goes_on_lem e in
    record {
      seen = P.seen;
      seen_is = P.seen_is ∙ append_assoc outside.before.decls (head_of i₀).decls (firsts f fs);
      b = P.b;
      k = P.k;
      e = P.e;
      new = P.new;
      h = P.h;
      q = P.q;
      expands = P.expands;
      adds = P.adds;
      resolves = P.resolves;
      items = P.items;
      low_head = P.low_head;
      low_item = P.low_item;
    }

-- ---- the scope at the end of a way

-- an operand of an accepted run: the scope at the end of `way` that the run came to, its field `f` and operand `o` there, and what the steps let pass
pub record Came (s : Scope) (outside : Outside) (way : List ℕ) (f o : ℕ) (u : Use) : Type 0 where
  pub kind : ℕ
  pub name : ℕ
  pub fs : Fields
  pub inner : Outside
  pub enters : Enters s outside way (scope kind name fs) inner
  pub k : ℕ
  pub p : Env × ℕ
  pub prepares : prepare name fs inner k ≡ ok p
  pub i : Item
  pub there : get_elem? (originals fs) f ≡ some i
  pub has_it : get_elem? (head_of i).operands o ≡ some u.operand
  pub head_is : head_of i ≡ u.head
  pub passed : Passed fs f (declarations fs) p.0 inner i

held_inv : (i : Item) (gs : Fields) → readings.held i ≡ some gs → (h : Head) × (s : Scope) × (i ≡ holds h s) × (readings.fields_of s ≡ gs)
unfolding readings.held
held_inv (plain h) gs e = no_option gs e
held_inv (holds h s) gs e = (h, s, refl, some_same (readings.fields_of s) gs e)

inner_scope : (h₀ : Head) (s : Scope) (h : Head) (here : Env) (outside : Outside) (k : ℕ) (q : Item × ℕ) → resolve_item (holds h₀ s) h here outside k ≡ ok q → (r : Scope × ℕ) × (resolve_scope s (inward h₀ here outside) k ≡ ok r)
unfolding resolve_scope
inner_scope h₀ s h here outside k q e = let s₁ = bind_inv (resolve_scope s (inward h₀ here outside) k) _ q e in (s₁.0, s₁.1)

came_further : {kind name n : ℕ} {fs : Fields} {outside : Outside} {way : List ℕ} {h₀ : Head} {s : Scope} {f o : ℕ} {u : Use} (k : ℕ) (p : Env × ℕ) (seen : Before) → prepare name fs outside k ≡ ok p
    → get_elem? (originals fs) n ≡ some (holds h₀ s) → seen.decls ≡ outside.before.decls ++ firsts n fs
    → Came s (inward h₀ p.0 (seeing outside seen)) way f o u → Came (scope kind name fs) outside (n ∷ way) f o u
came_further k p seen ep at_n is C =
    record {
      kind = C.kind;
      name = C.name;
      fs = C.fs;
      inner = C.inner;
      enters = further seen k p ep at_n is C.enters;
      k = C.k;
      p = C.p;
      prepares = C.prepares;
      i = C.i;
      there = C.there;
      has_it = C.has_it;
      head_is = C.head_is;
      passed = C.passed;
    }

-- an accepted run came to every operand
pub came : (way : List ℕ) (s : Scope) (outside : Outside) (k : ℕ) (r : Scope × ℕ) (w : List ℕ) (ins ls : List Level) (f o : ℕ) (u : Use) → LowScope s → resolve_scope s outside k ≡ ok r
    → readings.around way (level w (readings.fields_of s)) ins ≡ some ls → readings.use_in ls f o ≡ some u → Came s outside way f o u
unfolding readings.around resolve_scope
came [] (scope kind name fs) outside k r w ins ls f o u low eq ea eu =
    let s₁ = bind_inv (prepare name fs outside k) _ r eq in
    let s₂ = bind_inv (resolve_fields fs (declarations fs) s₁.0.0 outside k s₁.0.1) _ r s₁.2 in
    let same : (level w fs ∷ ins) ≡ ls = some_same _ ls ea in
    let U = runs.use_inv (level w fs) ins f o u (ap (λ (v : List Level). readings.use_in v f o) same ∙ eu) in
    record {
      kind = kind;
      name = name;
      fs = fs;
      inner = outside;
      enters = this;
      k = k;
      p = s₁.0;
      prepares = s₁.1;
      i = U.0;
      there = U.1;
      has_it = U.2;
      head_is = U.3;
      passed = passed fs f (declarations fs) s₁.0.0 outside k s₁.0.1 s₂.0 U.0 low.1 s₂.1 U.1;
    }
came (n ∷ way) (scope kind name fs) outside k r w ins ls f o u low eq ea eu =
    let s₁ = bind_inv (prepare name fs outside k) _ r eq in
    let s₂ = bind_inv (resolve_fields fs (declarations fs) s₁.0.0 outside k s₁.0.1) _ r s₁.2 in
    let s₃ = then_some (get_elem? (originals fs) n) _ ls ea in
    let s₄ = then_some (readings.held s₃.0) _ ls s₃.2 in
    let H = held_inv s₃.0 s₄.0 s₄.1 in
    let at_n : get_elem? (originals fs) n ≡ some (holds H.0 H.1) = s₃.1 ∙ ap {B = Option Item} some H.2 in
    let P = passed fs n (declarations fs) s₁.0.0 outside k s₁.0.1 s₂.0 (holds H.0 H.1) low.1 s₂.1 at_n in
    let I = inner_scope H.0 H.1 P.h s₁.0.0 (seeing outside P.seen) P.k P.q P.items in
    came_further k s₁.0 P.seen s₁.1 at_n P.seen_is
    (came way H.1 (inward H.0 s₁.0.0 (seeing outside P.seen)) P.k I.0 (w ++ (n ∷ [])) (level w fs ∷ ins) ls f o u P.low_item I.1
    (subst (λ (gs : Fields). readings.around way (level (w ++ (n ∷ [])) gs) (level w fs ∷ ins) ≡ some ls) (sym H.3) s₄.2) eu)

-- ---- the instance of a path is looked up and was in time

-- an inserted field stands on the instance as it was written
pub record OnInstance (from name : ℕ) (hs : List Head) : Type 0 where
  pub x : Head
  pub z : ℕ
  pub in_it : In x hs
  pub on : x.operands ≡ ref from (Id name) [] z ∷ []

in_left : {x : Head} {xs : List Head} (ys : List Head) → In x xs → In x (xs ++ ys)
in_left ys first = first
in_left ys (behind p) = behind (in_left ys p)

in_right : {x : Head} (xs : List Head) {ys : List Head} → In x ys → In x (xs ++ ys)
in_right [] p = p
in_right (y ∷ xs) p = behind (in_right xs p)

paths_on : (space name p : ℕ) (ps : List ℕ) (z k : ℕ) → OnInstance (instance_space space ps) name (path_aliases space (Id name) p ps z k)
unfolding path_aliases instance_space export_alias
paths_on space name p [] z k = go (leb space 6)
  where
    go : (b : Bool) → OnInstance (when b then 6 else 10) name ((when b then export_alias 10 space (fresh k) 6 (Id name) p z else export_alias 9 space (fresh k) 10 (Id name) p z) ∷ [])
    go true = unfold when◌then◌else◌ in record { x = _; z = z; in_it = first; on = refl }
    go false = unfold when◌then◌else◌ in record { x = _; z = z; in_it = first; on = refl }
paths_on space name p (q ∷ ps) z k = record { x = _; z = z; in_it = first; on = refl }

module _ (ds : List Declaration) (outside : Outside) (space name p : ℕ) (ps : List ℕ) (z : ℕ) where
  operands_on : (k : ℕ) (os : List Operand) (o : ℕ) → get_elem? os o ≡ some (ref space (Id name) (p ∷ ps) z) → OkR (λ e. OnInstance (instance_space space ps) name e.inserted) (expand_operands ds outside k os)
  unfolding expand_operands
  operands_on k [] o e = no_option _ e
  operands_on k (x ∷ os) zero e = rw (some_same x _ e) (bind_ok _ _ _ _ (operand_on k) (λ x' I. bind_any _ _ _ (λ xs. record { x = I.x; z = I.z; in_it = in_left xs.inserted I.in_it; on = I.on })))
    where
      operand_on : (k : ℕ) → OkR (λ e. OnInstance (instance_space space ps) name e.inserted) (expand_operand ds outside k (ref space (Id name) (p ∷ ps) z))
      operand_on k = unfold expand_operand steps.through in if_both (OkR _) _ _ _ tt (paths_on space name p ps z k)
  operands_on k (x ∷ os) (suc o) e = bind_any _ _ _ (λ x'. bind_ok _ _ _ _ (operands_on x'.k os o e) (λ xs I. record { x = I.x; z = I.z; in_it = in_right x'.inserted I.in_it; on = I.on }))

  -- of a path in a field, the first inserted alias is on the instance that the path begins with
  pub head_on : (k : ℕ) (h : Head) (o : ℕ) → here_only h.code ≡ false → get_elem? h.operands o ≡ some (ref space (Id name) (p ∷ ps) z)
      → OkR (λ e. OnInstance (instance_space space ps) name e.inserted) (expand_head ds outside k h)
  unfolding expand_head when◌then◌else◌
  head_on k h o c e = rw c (bind_ok _ _ _ _ (operands_on k h.operands o e) (λ es I. I))

-- what step C let pass of the instance that a path begins with
pub record InstancePassed (here : Env) (outside : Outside) (os : List Operand) (from name z : ℕ) : Type 0 where
  pub number : ℕ
  pub timely : steps.late_instance here outside os ≡ false
  pub found : steps.number_in here.entries from (Id name) z ≡ ok number

resolved_on : (here : Env) (outside : Outside) (h : Head) (from name z : ℕ) → h.operands ≡ ref from (Id name) [] z ∷ [] → OkR (λ h'. (n : ℕ) × (steps.number_in here.entries from (Id name) z ≡ ok n)) (resolve_head here outside h)
unfolding resolve_head
resolved_on here outside h from name z on = bind_ok _ _ _ _ (subst (λ (os : List Operand). OkR (λ os'. (n : ℕ) × (steps.number_in here.entries from (Id name) z ≡ ok n)) (resolve_operands here outside h.z [] os)) (sym on) first_found) (λ os I. I)
  where
    first_found : OkR (λ os'. (n : ℕ) × (steps.number_in here.entries from (Id name) z ≡ ok n)) (resolve_operands here outside h.z [] (ref from (Id name) [] z ∷ []))
    first_found = unfold resolve_operands in bind_eq _ _ _ (λ n e. bind_any _ (ok []) _ (λ os. (n, e)))

-- step C let that instance pass: it is in the table, and not late
pub instance_passed : (here : Env) (outside : Outside) {x : Head} (from name z : ℕ) (hs : List Head) → In x hs → x.operands ≡ ref from (Id name) [] z ∷ []
    → OkR (λ hs'. InstancePassed here outside x.operands from name z) (resolve_inserted here outside hs)
unfolding resolve_inserted
instance_passed here outside {x} from name z (x₀ ∷ hs) first on =
    bind_eq _ _ _ (λ u e. bind_ok _ _ _ _ (resolved_on here outside x from name z on) (λ x' N. bind_any _ _ _ (λ hs'. record { number = N.0; timely = in_time_lem _ x.z u e; found = N.1 })))
instance_passed here outside from name z (y ∷ hs) (behind p) on = bind_any _ _ _ (λ u. bind_any _ _ _ (λ y'. bind_ok _ _ _ _ (instance_passed here outside from name z hs p on) (λ hs' I. I)))
instance_passed here outside {x = x} from name z [] x3 on = elim x3 [ ]

-- ---- an OUTER is resolved

module _ (space : ℕ) (up at : Index) (z : ℕ) where
  operand_keeps : (ds : List Declaration) (outside : Outside) (k : ℕ) → OkR (λ e. e.now ≡ outer space up at z) (expand_operand ds outside k (outer space up at z))
  unfolding expand_operand steps.as_it_is
  operand_keeps ds outside k = refl

  operands_keep : (ds : List Declaration) (outside : Outside) (k : ℕ) (os : List Operand) (o : ℕ) → get_elem? os o ≡ some (outer space up at z) → OkR (λ e. get_elem? e.now o ≡ some (outer space up at z)) (expand_operands ds outside k os)
  unfolding expand_operands
  operands_keep ds outside k [] o e = no_option _ e
  operands_keep ds outside k (x ∷ os) zero e = rw (some_same x _ e) (bind_ok _ _ _ _ (operand_keeps ds outside k) (λ x' q. bind_any _ _ _ (λ xs. ap {B = Option Operand} some q)))
  operands_keep ds outside k (x ∷ os) (suc o) e = bind_any _ _ _ (λ x'. bind_ok _ _ _ _ (operands_keep ds outside x'.k os o e) (λ xs q. q))

  -- step B leaves an OUTER of a field as it is
  pub head_keeps : (ds : List Declaration) (outside : Outside) (k : ℕ) (h : Head) (o : ℕ) → get_elem? h.operands o ≡ some (outer space up at z) → OkR (λ e. get_elem? e.now.operands o ≡ some (outer space up at z)) (expand_head ds outside k h)
  unfolding expand_head steps.as_it_is with_operands
  head_keeps ds outside k h o e = if_both (OkR _) _ _ _ e (bind_ok _ _ _ _ (operands_keep ds outside k h.operands o e) (λ es q. q))

  -- step C turned the OUTER into numbers
  abbrev pub OuterPassed : (here : Env) (outside : Outside) → Type 0
  OuterPassed here outside = (fz : ℕ) × (x : Operand) × (steps.resolve_outer outside.early (opened here outside) fz space up at z ≡ ok x)

  operands_pass : (here : Env) (outside : Outside) (fz : ℕ) (seen : List ℕ) (os : List Operand) (o : ℕ) → get_elem? os o ≡ some (outer space up at z) → OkR (λ os'. OuterPassed here outside) (resolve_operands here outside fz seen os)
  unfolding resolve_operands
  operands_pass here outside fz seen [] o e = no_option _ e
  operands_pass here outside fz seen (x ∷ os) zero e = rw (some_same x _ e) (bind_eq _ _ _ (λ y q. bind_any _ _ _ (λ os'. (fz, y, q))))
  operands_pass here outside fz seen (ref space₁ at₁ paths z₁ ∷ os) (suc o) e = bind_any _ _ _ (λ n. bind_ok _ _ _ _ (operands_pass here outside fz seen os o e) (λ os' q. q))
  operands_pass here outside fz seen (outer space₁ up₁ at₁ z₁ ∷ os) (suc o) e = bind_any _ _ _ (λ n. bind_ok _ _ _ _ (operands_pass here outside fz seen os o e) (λ os' q. q))
  operands_pass here outside fz seen (case name z₁ ∷ os) (suc o) e = if_both (OkR _) _ _ _ tt (bind_ok _ _ _ _ (operands_pass here outside fz (name ∷ seen) os o e) (λ os' q. q))

  -- so it did with each OUTER of a field
  pub head_passes : (here : Env) (outside : Outside) (h : Head) (o : ℕ) → get_elem? h.operands o ≡ some (outer space up at z) → OkR (λ h'. OuterPassed here outside) (resolve_head here outside h)
  unfolding resolve_head
  head_passes here outside h o e = bind_ok _ _ _ _ (operands_pass here outside h.z [] h.operands o e) (λ os q. q)
