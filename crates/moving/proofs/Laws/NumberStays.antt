-- The number that is counted in the output is the one that stands there: at the same place, with the count of the scope that it names.
use Rattle.std.specs.Prelude.{◌≡◌, Bool, true, false}
use Rattle.std.proofs.Math.Path.{refl, ap}
use Rattle.std.proofs.Common.{sym, ◌∙◌, subst}
use Rattle.std.proofs.Math.Option.{Option, none, some}
use mathlib.Core.List.{List, [], ◌∷◌, ◌++◌, map}
use Prim.Native.Nat.{ℕ, zero, suc}
use Rattle.std.proofs.Math.ListN.{get_elem?}
use Rattle.rules.specs.Tools.{◌then◌}
use Rattle.rules.specs.Versions.{RuleSet}
use Rattle.rules.specs.Rows.{Num, Id}
use Rattle.rules.specs.Tree.{Declaration, Operand, ref, outer, case, Head, Scope, scope, Fields, Item, plain, holds, head_of, with_operands}
use Rattle.rules.specs.Rules
use Rattle.rules.specs.Rules.{Refusal, ok, Env, Outside, at_root, opened, inward, declarations, expand_operand, expand_operands, expand_head, expand_fields, prepare, distinct, resolve_operands, resolve_head, resolve_scope, resolve_item, resolve, outer_numbers, resolve_outer}
use Rattle.rules.specs.Readings
use Rattle.rules.specs.Readings.{originals, Place, Level, level, fields_of, Use, use_at, place, counted, counted_out, meant, counting, counting_reading}
use Rattle.moving.specs.Moved.{held_scope, names_to, nearest_named, Written, written, written_at}
use Rattle.rules.specs.Laws.ToolLaws.{false_not, then_some}
use Rattle.rules.specs.Laws.Results.{OkR, bind_ok, bind_any, bind_eq, bind_inv, if_both, holds_of, no_result, ok_same, some_same, no_option}
use Rattle.rules.specs.Laws.Meaning.Names.{LowScope, LowItem}
use Rattle.rules.proofs.Laws.Meaning.Runs
use Rattle.rules.proofs.Laws.Meaning.Runs.{seeing}
use Rattle.rules.proofs.Laws.Meaning.Frames.{nowhere}
use Rattle.rules.proofs.Laws.Meaning.Written
use Rattle.rules.proofs.Laws.Meaning.Written.{is_written}
use Rattle.rules.proofs.Laws.Meaning.Agree
use Rattle.rules.proofs.Laws.Meaning.Agree.{Ended}
use Rattle.moving.proofs.Laws.Lists.{scope_of}

-- ---- an OUTER that names its scope, through the steps

-- what it becomes in these open scopes
abbrev Becomes : List Env → (space name n z : ℕ) → Operand → Type 0
Becomes envs space name n z o = (d : ℕ) × (Rules.named envs name ≡ some d) × (o ≡ outer space (Num d) (Num n) z)

some_of : (o : Option ℕ) (why : Refusal) (z d : ℕ) → Rules.or_refused o why z ≡ ok d → o ≡ some d
unfolding Rules.or_refused
some_of none why z d e = no_result why z d e
some_of (some m) why z d e = ap {B = Option ℕ} some (ok_same m d e)

module _ (space name n z : ℕ) where
  module _ (ds : List Declaration) (outside : Outside) where
    passed_over : (k : ℕ) → OkR (λ e. e.now ≡ outer space (Id name) (Num n) z) (expand_operand ds outside k (outer space (Id name) (Num n) z))
    unfolding expand_operand Rules.as_it_is
    passed_over k = refl

    expanded_outer : (k : ℕ) (os : List Operand) (o : ℕ) → get_elem? os o ≡ some (outer space (Id name) (Num n) z)
        → OkR (λ e. get_elem? e.now o ≡ some (outer space (Id name) (Num n) z)) (expand_operands ds outside k os)
    unfolding expand_operands
    expanded_outer k [] o e = no_option _ e
    expanded_outer k (x ∷ os) zero e = rw (some_same x _ e) (bind_ok _ _ _ _ (passed_over k) (λ x' p. bind_any _ _ _ (λ es. ap {B = Option Operand} some p)))
    expanded_outer k (x ∷ os) (suc o) e = bind_any _ _ _ (λ x'. bind_ok _ _ _ _ (expanded_outer x'.k os o e) (λ es p. p))

    head_outer : (k : ℕ) (h : Head) (o : ℕ) → get_elem? h.operands o ≡ some (outer space (Id name) (Num n) z)
        → OkR (λ e. get_elem? e.now.operands o ≡ some (outer space (Id name) (Num n) z)) (expand_head ds outside k h)
    unfolding expand_head Rules.as_it_is with_operands
    head_outer k h o e = if_both (OkR _) _ _ _ e (bind_ok _ _ _ _ (expanded_outer k h.operands o e) (λ es p. p))

  module _ (here : Env) (outside : Outside) where
    one_outer : (fz : ℕ) → OkR (Becomes (opened here outside) space name n z) (resolve_outer outside.early (opened here outside) fz space (Id name) (Num n) z)
    unfolding resolve_outer outer_numbers Rules.up_number Rules.number_in
    one_outer fz =
        bind_eq _ _ _ (λ d p. bind_any _ _ _ (λ e. bind_any _ _ _ (λ u. bind_eq _ _ _ (λ m q.
        (d, some_of (Rules.named (opened here outside) name) Rules.no_such_scope fz d p, ap (λ (v : ℕ). outer space (Num d) (Num v) z) (sym (ok_same n m q)))))))

    abbrev BecomesAt : ℕ → List Operand → Type 0
    BecomesAt o os = (x : Operand) × (get_elem? os o ≡ some x) × Becomes (opened here outside) space name n z x

    resolved_outer : (fz : ℕ) (seen : List ℕ) (os : List Operand) (o : ℕ) → get_elem? os o ≡ some (outer space (Id name) (Num n) z) → OkR (BecomesAt o) (resolve_operands here outside fz seen os)
    unfolding resolve_operands
    resolved_outer fz seen [] o e = no_option _ e
    resolved_outer fz seen (x ∷ os) zero e = rw (some_same x _ e) (bind_ok _ _ _ _ (one_outer fz) (λ y b. bind_any _ _ _ (λ os'. (y, refl, b))))
    resolved_outer fz seen (ref space₁ at₁ paths₁ z₁ ∷ os) (suc o) e = bind_any _ _ _ (λ m. bind_ok _ _ _ _ (resolved_outer fz seen os o e) (λ os' b. b))
    resolved_outer fz seen (outer space₁ up at₁ z₁ ∷ os) (suc o) e = bind_any _ _ _ (λ x. bind_ok _ _ _ _ (resolved_outer fz seen os o e) (λ os' b. b))
    resolved_outer fz seen (case name₁ z₁ ∷ os) (suc o) e = if_both (OkR (BecomesAt (suc o))) _ _ _ tt (bind_ok _ _ _ _ (resolved_outer fz (name₁ ∷ seen) os o e) (λ os' b. b))

    head_resolved : (h : Head) (o : ℕ) → get_elem? h.operands o ≡ some (outer space (Id name) (Num n) z) → OkR (λ h'. BecomesAt o h'.operands) (resolve_head here outside h)
    unfolding resolve_head with_operands
    head_resolved h o e = bind_ok _ _ _ _ (resolved_outer h.z [] h.operands o e) (λ os b. b)

-- ---- the names of the open scopes

abbrev names_of : List Env → List ℕ
names_of es = map (λ (e : Env). e.name) es

named_nearest : (es : List Env) (name : ℕ) → Rules.named es name ≡ nearest_named (names_of es) name
unfolding Rules.named nearest_named
named_nearest [] name = refl
named_nearest (e ∷ es) name = rw (named_nearest es name)

prepared_name : (name : ℕ) (fs : Fields) (outside : Outside) (k : ℕ) (p : Env × ℕ) → prepare name fs outside k ≡ ok p → p.0.name ≡ name
unfolding prepare
prepared_name name fs outside k p e =
    let s₁ = bind_inv (distinct [] (declarations fs)) _ p e in
    let s₂ = bind_inv (expand_fields s₁.0 outside k fs) _ p s₁.2 in
    ap (λ (q : Env × ℕ). q.0.name) (sym (ok_same _ p s₂.2))

-- as `ended` says it, with the name
ended_named : (kind name : ℕ) (fs : Fields) (outside : Outside) (k : ℕ) (q : Scope × ℕ) → LowScope (scope kind name fs) → resolve_scope (scope kind name fs) outside k ≡ ok q
    → (here : Env) × (out : Fields) × Ended fs outside here out × (q.0 ≡ scope kind name out) × (here.name ≡ name)
unfolding resolve_scope
ended_named kind name fs outside k q low eq =
    let s₁ = bind_inv (prepare name fs outside k) _ q eq in
    let s₂ = bind_inv (Rules.resolve_fields fs (declarations fs) s₁.0.0 outside k s₁.0.1) _ q s₁.2 in
    let P = Runs.prepared name fs outside k s₁.0 s₁.1 in (
      s₁.0.0,
      s₂.0.0,
      record { low = low.1; t = P.0; k = k; k' = s₁.0.1; k'' = s₂.0.1; expands = P.1; table = P.2; resolves = s₂.1 },
      ap (λ (p : Scope × ℕ). p.0) (sym (ok_same _ q s₂.2)),
      prepared_name name fs outside k s₁.0 s₁.1,
    )

-- the scope that a field holds, and what became of it
record Inside (t : Scope) (outside : Outside) (i' : Item) : Type 0 where
  k : ℕ
  q : Scope × ℕ
  low : LowScope t
  resolves : resolve_scope t outside k ≡ ok q
  holding : Readings.held i' ≡ some (fields_of q.0)

inside : (i : Item) (h : Head) (t : Scope) (here : Env) (outside : Outside) (k : ℕ) (q : Item × ℕ) → LowItem i → held_scope i ≡ some t → resolve_item i h here outside k ≡ ok q → Inside t (inward (head_of i) here outside) q.0
unfolding held_scope resolve_scope Readings.held head_of
inside (plain h₀) h t here outside k q low e eq = no_option t e
inside (holds h₀ s) h t here outside k q low e eq =
    let s₁ = bind_inv (resolve_scope s (inward h₀ here outside) k) _ q eq in
    subst (λ (x : Scope). Inside x (inward h₀ here outside) q.0) (some_same s t e)
    (record { k = k; q = s₁.0; low = low; resolves = s₁.1; holding = ap (λ (p : Item × ℕ). Readings.held p.0) (sym (ok_same _ q s₁.2)) })

held_scope_lem : (i : Item) (t : Scope) → held_scope i ≡ some t → Readings.held i ≡ some (fields_of t)
unfolding held_scope Readings.held
held_scope_lem (plain h) t e = no_option t e
held_scope_lem (holds h s) t e = ap {B = Option Fields} (λ (x : Scope). some (fields_of x)) (some_same s t e)

-- ---- along the way to it

-- the operand at the same place of the output, beside an OUTER of the input
abbrev OuterThere : (names : List ℕ) → List Level → (f o space name n z : ℕ) → Type 0
OuterThere names ls' f o space name n z = (d : ℕ) × (nearest_named names name ≡ some d) × (u' : Use) × (Readings.use_in ls' f o ≡ some u') × (u'.operand ≡ outer space (Num d) (Num n) z)

outer_along : (way : List ℕ) (t : Scope) (outside : Outside) (k : ℕ) (q : Scope × ℕ) (w : List ℕ) (ins outs : List Level) (names : List ℕ) (ls : List Level) (f o : ℕ) (u : Use) (space name n z : ℕ)
    → LowScope t → resolve_scope t outside k ≡ ok q → names_to way t (names_of outside.scopes) ≡ some names → Readings.around way (level w (fields_of t)) ins ≡ some ls
    → Readings.use_in ls f o ≡ some u → u.operand ≡ outer space (Id name) (Num n) z
    → (ls' : List Level) × (Readings.around way (level w (fields_of q.0)) outs ≡ some ls') × OuterThere names ls' f o space name n z
unfolding names_to Readings.around
outer_along [] (scope kind nm fs) outside k q w ins outs names ls f o u space name n z low eq en ea eu ew =
    let E = ended_named kind nm fs outside k q low eq in
    let U = Agree.use_inv (level w fs) ins f o u (ap (λ (v : List Level). Readings.use_in v f o) (some_same _ ls ea) ∙ eu) in
    let A = Agree.at_ended E.2 f U.0 U.1 in
    let now = holds_of _ _ A.e (head_outer space name n z (declarations fs) (seeing outside A.seen) A.b (head_of U.0) o (U.2 ∙ ap {B = Option Operand} some ew)) A.expands in
    let B = holds_of _ _ A.h (head_resolved space name n z E.0 (seeing outside A.seen) A.e.now o now) A.resolves in
    let names_are : names_of (opened E.0 (seeing outside A.seen)) ≡ names = ap {B = List ℕ} (λ (m : ℕ). m ∷ names_of outside.scopes) E.4 ∙ some_same _ names en in (
      _,
      refl,
      (
        B.2.0,
        ap (λ (ns : List ℕ). nearest_named ns name) (sym names_are) ∙ (sym (named_nearest (opened E.0 (seeing outside A.seen)) name) ∙ B.2.1),
        _,
        ap (λ (t : Scope). Readings.use_in (level w (fields_of t) ∷ outs) f o) E.3 ∙ Agree.use_there (level w E.1) outs f o A.q.0 A.h B.0 A.there A.head B.1,
        B.2.2,
      ),
    )
outer_along (m ∷ way) (scope kind nm fs) outside k q w ins outs names ls f o u space name n z low eq en ea eu ew =
    let E = ended_named kind nm fs outside k q low eq in
    let n₁ = then_some (get_elem? (originals fs) m) _ names en in
    let n₂ = then_some (held_scope n₁.0) _ names n₁.2 in
    let a₁ = then_some (get_elem? (originals fs) m) _ ls ea in
    let a₂ = then_some (Readings.held a₁.0) _ ls a₁.2 in
    let same : a₁.0 ≡ n₁.0 = some_same _ _ (sym a₁.1 ∙ n₁.1) in
    let same_fields : a₂.0 ≡ fields_of n₂.0 = some_same _ _ (sym a₂.1 ∙ (ap Readings.held same ∙ held_scope_lem n₁.0 n₂.0 n₂.1)) in
    let A = Agree.at_ended E.2 m n₁.0 n₁.1 in
    let I = inside n₁.0 A.h n₂.0 E.0 (seeing outside A.seen) A.k A.q A.low_item n₂.1 A.items in
    let names_in : names_to way n₂.0 (names_of (opened E.0 (seeing outside A.seen))) ≡ some names = ap (λ (x : ℕ). names_to way n₂.0 (x ∷ names_of outside.scopes)) E.4 ∙ n₂.2 in
    let around-in = subst (λ (x : Fields). Readings.around way (level (w ++ (m ∷ [])) x) (level w fs ∷ ins) ≡ some ls) same_fields a₂.2 in
    let R = outer_along way n₂.0 (inward (head_of n₁.0) E.0 (seeing outside A.seen)) I.k I.q (w ++ (m ∷ [])) (level w fs ∷ ins) (level w E.1 ∷ outs) names ls f o u space name n z I.low I.resolves names_in around-in eu ew in (
      R.0,
      ap (λ (t : Scope). Readings.around (m ∷ way) (level w (fields_of t)) outs) E.3 ∙ Agree.around_step m way (level w E.1) outs A.q.0 (fields_of I.q.0) R.0 A.there I.holding R.1,
      R.2,
    )

-- ---- the number in the output

unfoldable pub without_paths : Operand → Bool
without_paths (ref space at [] z) = true
without_paths (ref space at (p ∷ ps) z) = false
without_paths (outer space up at z) = true
without_paths (case name z) = true

-- a written number as a REF without PATHs, or as an OUTER of two numbers
unfoldable pub as_numbers : Written → Operand → Operand
as_numbers w (ref space at paths z) = ref w.space (Num w.number) [] w.z
as_numbers w (outer space up at z) = outer w.space (Num w.out) (Num w.number) w.z
as_numbers w (case name z) = case name z

-- the operand at that place of the output
abbrev pub Stands : Scope → Place → Operand → Type 0
Stands t p o = (u' : Use) × (use_at t p ≡ some u') × (u'.operand ≡ o)

-- In an accepted run a written number without PATHs stands at the same place of the output, an OUTER with the count of the scope that it names.
pub number_stays : (rules : RuleSet) (s : Scope) (r : Scope × ℕ) (p : Place) (u : Use) (w : Written) → LowScope s → resolve rules s ≡ ok r → use_at s p ≡ some u → written_at s p ≡ some w → without_paths u.operand ≡ true
    → Stands r.0 p (as_numbers w u.operand)
unfolding written_at written without_paths as_numbers is_written resolve Readings.use_inside Readings.root
number_stays rules s r p u w low eq eu ew none_there =
    let s₁ = then_some (use_at s p) _ w ew in
    let s₂ = then_some (names_to p.way s []) _ w s₁.2 in
    let same : s₁.0 ≡ u = some_same _ u (sym s₁.1 ∙ eu) in
    go u.operand refl none_there s₂.0 s₂.1 (subst (λ (x : Use). written s₂.0 x.operand ≡ some w) same s₂.2)
  where
    unchanged : (o : Operand) → u.operand ≡ o → is_written o ≡ true → Stands r.0 p o
    unchanged o e i = let S = Written.written_stays rules [] nowhere s r p u low eq eu (ap is_written e ∙ i) in (S.0, S.1, S.2 ∙ e)

    by_name_lem : (space name n z d : ℕ) (names : List ℕ) → u.operand ≡ outer space (Id name) (Num n) z → names_to p.way s [] ≡ some names → nearest_named names name ≡ some d
        → Stands r.0 p (outer space (Num d) (Num n) z)
    by_name_lem space name n z d names e en ed =
        let a₁ = then_some (Readings.around p.way (Readings.root s) []) _ u eu in
        let R = outer_along p.way s (at_root rules []) 0 r [] [] [] names a₁.0 p.field p.at u space name n z low eq en a₁.1 a₁.2 e in
        let same : R.2.0 ≡ d = some_same _ d (sym R.2.1 ∙ ed) in
        (R.2.2, Agree.use_is [] [] r.0 p R.0 R.2.2 R.1 R.2.3, R.2.4 ∙ ap (λ (x : ℕ). outer space (Num x) (Num n) z) same)

    go : (o : Operand) → u.operand ≡ o → without_paths o ≡ true → (names : List ℕ) → names_to p.way s [] ≡ some names → written names o ≡ some w → Stands r.0 p (as_numbers w o)
    go (ref space (Num n) [] z) e t names en q = subst (λ (x : Written). Stands r.0 p (as_numbers x (ref space (Num n) [] z))) (some_same _ w q) (unchanged (ref space (Num n) [] z) e refl)
    go (ref space (Num n) (x ∷ xs) z) e t names en q = false_not t
    go (ref space (Id name) paths z) e t names en q = no_option w q
    go (outer space (Num d) (Num n) z) e t names en q = subst (λ (x : Written). Stands r.0 p (as_numbers x (outer space (Num d) (Num n) z))) (some_same _ w q) (unchanged (outer space (Num d) (Num n) z) e refl)
    go (outer space (Id name) (Num n) z) e t names en q =
        let m = then_some (nearest_named names name) _ w q in
        subst (λ (x : Written). Stands r.0 p (as_numbers x (outer space (Id name) (Num n) z))) (some_same _ w m.2) (by_name_lem space name n z m.0 names e en m.1)
    go (outer space (Num d) (Id at) z) e t names en q = no_option w q
    go (outer space (Id name) (Id at) z) e t names en q = no_option w q
    go (case name z) e t names en q = no_option w q

-- ---- what it counts to is what the readings say of such an operand

pub use_around : (t : Scope) (p : Place) (u : Use) → use_at t p ≡ some u → Readings.around p.way (Readings.root t) [] ≡ some u.levels
unfolding Readings.use_inside Readings.root
use_around t p u e =
    let s₁ = then_some (Readings.around p.way (Readings.root t) []) _ u e in
    s₁.1 ∙ ap {B = Option (List Level)} some (sym (Agree.use_levels s₁.0 p.field p.at u s₁.2))

-- of an OUTER of two numbers: what these count to
pub reads_outer : (t : Scope) (p : Place) (u : Use) (w : Written) → use_at t p ≡ some u → u.operand ≡ outer w.space (Num w.out) (Num w.number) w.z
    → (scope_of t p w then λ l. counted l w.space w.number then place l) ≡ counted_out u.levels (u.operand ∷ [])
unfolding counted_out ◌then◌
reads_outer t p u w e q = rw (use_around t p u e, q)

-- of a REF without PATHs: what its number counts to, before an inserted alias is followed
pub reads_ref : (t : Scope) (p : Place) (u : Use) (w : Written) → use_at t p ≡ some u → u.operand ≡ ref w.space (Num w.number) [] w.z → w.out ≡ 0
    → (scope_of t p w then λ l. counted l w.space w.number then meant u.levels l) ≡ counting_reading t p
unfolding Readings.counting_inside ◌then◌
reads_ref t p u w e q o = rw (use_around t p u e, o, e, q) (go u.levels)
  where
    go : (ls : List Level) → (get_elem? ls 0 then λ l. counted l w.space w.number then meant ls l) ≡ counting ls (ref w.space (Num w.number) [] w.z)
    go [] = unfold counting in refl
    go (l ∷ ls) = unfold counting in refl
