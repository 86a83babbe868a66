-- The form that the planner proposes has no more rows than the resolver's own output.
-- What step B may add for an operand is said of the input alone. The resolver's output has all of it, the planner's at most all.
use Rattle.std.specs.Prelude.{◌≡◌, Bool, true, ℕ, suc, ◌+◌, ◌*◌, ◌≤◌, length}
use Rattle.std.proofs.Math.Path.{refl}
use Rattle.std.proofs.Common.{ap, sym, ◌∙◌, subst}
use Rattle.std.proofs.Math.Bool.{false}
use Rattle.std.proofs.Math.Option.{Option, none, some}
use mathlib.Core.List.{List, [], ◌∷◌}
use native.Mathlib.Omega.{arith}
use Rattle.std.proofs.Math.ListN.{length-append}
use Rattle.rules.specs.Tools.{when◌then◌else◌, is_just}
use Rattle.rules.specs.Versions.{RuleSet, top_name}
use Rattle.rules.specs.Rows.{Num, Id, Row}
use Rattle.rules.specs.Tree.{Declaration, Operand, ref, outer, case, Head, Scope, scope, Fields, end, ◌▸◌, Item, plain, holds, decl_rows, path_rows, operand_row, operand_rows, export_rows, head_rows, flatten, fields_rows, item_rows, with_operands, head_of}
use Rattle.rules.specs.Shapes.{here_only}
use Rattle.rules.specs.Rules
use Rattle.rules.specs.Rules.{Result, ok, Env, Before, Outside, at_root, onward, inward, find, walk, declarations, Expanded, expand_operand, expand_operands, expand_head, resolve_operands, resolve_head, resolve_scope, resolve_fields, resolve_item, resolve}
use Rattle.sharing.specs.Sharing.{Served, served_by, Marked, mark_outer, mark_operand, mark_operands, mark_head, mark_scope, mark_fields, mark_item, mark, propose}
use Rattle.rules.specs.Laws.Results.{OkR, bind_ok, bind_any, bind_inv, if_both, holds_of, ok_same, no_option}
use Rattle.rules.specs.Laws.Meaning.Names.{LowOperand, LowOperands, LowScope, LowFields, LowItem, low_fields}
use Rattle.rules.proofs.Laws.Meaning.Runs.{seeing, Ran, ran, ran_end}
use Rattle.rules.proofs.Laws.Meaning.StepC.{named_number}
use Rattle.rules.proofs.Laws.Output.FourTimes
use Rattle.rules.proofs.Laws.Output.FourTimes.{sizes, sizes_append, paths_length, head_length, inner, item_size, fields_size, before_size}
use Rattle.checking.proofs.Laws.OwnOperands
use Rattle.checking.proofs.Laws.OwnOperands.{One, one_ref, ones, Closed, entered, plain_resolved, holds_resolved}
use Rattle.sharing.proofs.Laws.Marks
use Rattle.sharing.proofs.Laws.Marks.{LikeScope, scope_like}
use Rattle.sharing.proofs.Laws.Planned
use Rattle.sharing.proofs.Laws.Planned.{now, item, others, marked_ran, marked_head, marked_end, inside, marks, scope_marks_lem}

-- ---- what step B may add

adds : List Declaration → Operand → ℕ
adds ds (ref space (Num n) [] z) = 0
adds ds (ref space (Id name) [] z) = when is_just (find ds space name) then 0 else 3
adds ds (ref space at (p ∷ ps) z) = 3 * suc (length ps)
adds ds (outer space up at z) = 0
adds ds (case name z) = 0

adds_all : List Declaration → List Operand → ℕ
adds_all ds [] = 0
adds_all ds (o ∷ os) = adds ds o + adds_all ds os

adds_head : List Declaration → Head → ℕ
adds_head ds h = when here_only h.code then 0 else adds_all ds h.operands

mutual
  adds_scope : Scope → ℕ
  adds_scope (scope kind name fs) = adds_fields fs (declarations fs)

  adds_fields : Fields → List Declaration → ℕ
  adds_fields end ds = 0
  adds_fields (i ▸ fs) ds = adds_head ds (head_of i) + (adds_item i + adds_fields fs ds)

  adds_item : Item → ℕ
  adds_item (plain h) = 0
  adds_item (holds h s) = adds_scope s

abbrev Grown : {A : Type 0} → (A → List Row) → Expanded A → ℕ
Grown rows e = sizes e.inserted + length (rows e.now)

-- ---- the resolver adds all of it

module _ {fs : Fields} {outside : Outside} {here : Env} {out' : Fields} (E : Closed fs outside here out') (past : Before) where
  abbrev there : Outside
  there = seeing outside past

  abbrev ds : List Declaration
  ds = declarations fs

  abbrev Passed : (fz : ℕ) → Operand → Type 0
  Passed fz o = (now : Operand) × One here there fz o now

  nowhere : {X : Type 0} (fz space name z : ℕ) → name ≤ top_name → find ds space name ≡ none → Passed fz (ref space (Id name) [] z) → X
  nowhere {X} fz space name z low e x = go x.0 x.1
    where
      go : (now : Operand) → One here there fz (ref space (Id name) [] z) now → X
      go now (one_ref n f) = no_option n (sym (OwnOperands.not_here E past 0 space name low e) ∙ named_number here.entries space name z n f)

  found_all : (fz space name z k : ℕ) (o : Option (ℕ × ℕ)) → name ≤ top_name → find ds space name ≡ none → OkR (λ e. Passed fz e.now → 4 ≤ Grown operand_row e) (Rules.found_at space name z k o)
  unfolding Rules.found_at Rules.through Rules.as_it_is Rules.outer_alias sizes head_rows decl_rows operand_rows operand_row path_rows export_rows
  found_all fz space name z k none low e = λ x. nowhere fz space name z low e x
  found_all fz space name z k (some at) low e = if_both (OkR _) _ _ _ (λ x. omega arith) tt

  operand_all : (fz k : ℕ) (o : Operand) → LowOperand o → OkR (λ e. Passed fz e.now → length (operand_row o) + adds ds o ≤ Grown operand_row e) (expand_operand ds there k o)
  unfolding expand_operand adds Rules.as_it_is Rules.through sizes operand_row path_rows
  operand_all fz k (ref space (Num n) [] z) l = λ x. omega arith
  operand_all fz k (ref space (Id name) [] z) l = bind_any _ _ _ (λ u. go (find ds space name) refl)
    where
      go : (o : Option ℕ) → find ds space name ≡ o
          → OkR (λ e. Passed fz e.now → 1 + (when is_just o then 0 else 3) ≤ Grown operand_row e) (when is_just o then ok (Rules.as_it_is (ref space (Id name) [] z) k) else Rules.found_at space name z k (walk outside.scopes 1 space name))
      go none e = unfold when◌then◌else◌ in found_all fz space name z k (walk outside.scopes 1 space name) l.1 e
      go (some n) e = unfold when◌then◌else◌ Rules.as_it_is sizes operand_row path_rows in λ x. omega arith
  operand_all fz k (ref space at (p ∷ ps) z) l = if_both (OkR _) _ _ _ tt (λ x. omega (arith, FourTimes.aliases_size space at p ps z k, paths_length ps))
  operand_all fz k (outer space up at z) l = λ x. omega arith
  operand_all fz k (case name z) l = λ x. omega arith

  operands_all : (fz k : ℕ) (os : List Operand) → LowOperands os
      → OkR (λ e. (cases : List ℕ) (os' : List Operand) → resolve_operands here there fz cases e.now ≡ ok os' → length (operand_rows os) + adds_all ds os ≤ Grown operand_rows e) (expand_operands ds there k os)
  unfolding expand_operands adds_all Rules.as_it_is sizes operand_rows
  operands_all fz k [] l = λ cases os' q. omega arith
  operands_all fz k (o ∷ os) l =
      bind_ok _ _ _ _ (operand_all fz k o l.0) (λ e f. bind_ok _ _ _ _ (operands_all fz e.k os l.1) (λ es g. λ cases os' q.
      let X = ones here there fz cases e.now es.now os' q in
      let a = f (X.now, X.first) in
      let b = g X.seen X.rest X.others in
      omega (arith, a, b, sizes_append e.inserted es.inserted, length-append (operand_row e.now) (operand_rows es.now), length-append (operand_row o) (operand_rows os))))

  head_all : (k : ℕ) (h : Head) → LowOperands h.operands → OkR (λ e. (h' : Head) → resolve_head here there e.now ≡ ok h' → length (head_rows h) + adds_head ds h ≤ Grown head_rows e) (expand_head ds there k h)
  head_all k h l = go (here_only h.code) refl
    where
      go : (b : Bool) → here_only h.code ≡ b → OkR (λ e. (h' : Head) → resolve_head here there e.now ≡ ok h' → length (head_rows h) + adds_head ds h ≤ Grown head_rows e) (expand_head ds there k h)
      go true t = unfold expand_head adds_head when◌then◌else◌ Rules.as_it_is sizes in rw t (λ h' q. omega arith)
      go false t = unfold expand_head adds_head when◌then◌else◌ with_operands in rw t (bind_ok _ _ _ _ (operands_all h.z k h.operands l) (λ es f. λ h' q.
          let a = f [] h'.operands (OwnOperands.resolved_operands E past 0 _ h' q) in
          omega (arith, a, head_length h, head_length (with_operands h es.now))))

-- ---- the planner adds at most all

module _ (here : List Declaration) (outside : Outside) where
  -- a name, whichever it is
  name_most : (k space name z : ℕ) → OkR (λ e. Grown operand_row e ≤ 4) (expand_operand here outside k (ref space (Id name) [] z))
  name_most k space name z = weaken (expand_operand here outside k (ref space (Id name) [] z)) (FourTimes.operand_fits here outside k (ref space (Id name) [] z))
    where
      one : length (operand_row (ref space (Id name) [] z)) ≡ 1
      one = unfold operand_row path_rows in refl

      weaken : (r : Result (Expanded Operand)) → OkR (FourTimes.Fits operand_row (ref space (Id name) [] z)) r → OkR (λ e. Grown operand_row e ≤ 4) r
      weaken (Result.refused n p) h = tt
      weaken (ok e) h = omega (arith, h, one)

  outer_most : (seen : List Served) (k k' space name z : ℕ) (o : Option ℕ) → OkR (λ e. Grown operand_row e ≤ 4) (expand_operand here outside k (mark_outer seen k' space name z o).now)
  unfolding mark_outer
  outer_most seen k k' space name z none = name_most k space name z
  outer_most seen k k' space name z (some j) = name_most k space (Rules.fresh j) z

  operand_most : (seen : List Served) (k k' : ℕ) (o : Operand) → OkR (λ e. Grown operand_row e ≤ length (operand_row o) + adds here o) (expand_operand here outside k (mark_operand here seen k' o).now)
  unfolding mark_operand expand_operand adds Rules.as_it_is Rules.through sizes operand_row path_rows
  operand_most seen k k' (ref space (Num n) [] z) = omega arith
  operand_most seen k k' (ref space (Id name) [] z) = go (find here space name) refl
    where
      go : (o : Option ℕ) → find here space name ≡ o
          → OkR (λ e. Grown operand_row e ≤ 1 + (when is_just o then 0 else 3))
          (expand_operand here outside k (when◌then◌else◌ {A = Marked Operand} (is_just o) (record { now = ref space (Id name) [] z; seen = seen; k = k' }) (mark_outer seen k' space name z (served_by seen space name))).now)
      go none e = unfold when◌then◌else◌ in outer_most seen k k' space name z (served_by seen space name)
      go (some n) e = unfold when◌then◌else◌ expand_operand Rules.as_it_is sizes operand_row path_rows in bind_any _ _ _ (λ u. rw e (omega arith))
  operand_most seen k k' (ref space at (p ∷ ps) z) = if_both (OkR _) _ _ _ tt (omega (arith, FourTimes.aliases_size space at p ps z k, paths_length ps))
  operand_most seen k k' (outer space up at z) = omega arith
  operand_most seen k k' (case name z) = omega arith

  operands_most : (seen : List Served) (k k' : ℕ) (os : List Operand) → OkR (λ e. Grown operand_rows e ≤ length (operand_rows os) + adds_all here os) (expand_operands here outside k (mark_operands here seen k' os).now)
  unfolding mark_operands expand_operands adds_all Rules.as_it_is sizes operand_rows
  operands_most seen k k' [] = omega arith
  operands_most seen k k' (o ∷ os) =
      bind_ok _ _ _ _ (operand_most seen k k' o) (λ e a. bind_ok _ _ _ _ (operands_most (mark_operand here seen k' o).seen e.k (mark_operand here seen k' o).k os) (λ es b.
      omega (arith, a, b, sizes_append e.inserted es.inserted, length-append (operand_row e.now) (operand_rows es.now), length-append (operand_row o) (operand_rows os))))

  head_most : (seen : List Served) (k k' : ℕ) (h : Head) → OkR (λ e. Grown head_rows e ≤ length (head_rows h) + adds_head here h) (expand_head here outside k (mark_head here seen k' h).now)
  head_most seen k k' h = subst (λ (m : Marked Head). OkR (λ (e : Expanded Head). Grown head_rows e ≤ length (head_rows h) + adds_head here h) (expand_head here outside k m.now)) (sym (Planned.head_by_lem here seen k' h)) (go (here_only h.code) refl)
    where
      go : (b : Bool) → here_only h.code ≡ b → OkR (λ e. Grown head_rows e ≤ length (head_rows h) + adds_head here h) (expand_head here outside k (Planned.head_by b here seen k' h).now)
      go true t = unfold expand_head adds_head when◌then◌else◌ Rules.as_it_is sizes in rw t (omega arith)
      go false t = unfold expand_head adds_head when◌then◌else◌ with_operands in rw t (bind_ok _ _ _ _ (operands_most seen k k' h.operands) (λ es a.
          omega (arith, a, head_length h, head_length (with_operands h es.now), head_length (with_operands h (mark_operands here seen k' h.operands).now))))

-- ---- trees

scope_rows : (kind name : ℕ) (fs : Fields) → (length (flatten (scope kind name fs)) ≡ suc (suc (length (fields_rows fs)))) × (adds_scope (scope kind name fs) ≡ adds_fields fs (declarations fs))
unfolding flatten adds_scope
scope_rows kind name fs = (simp length-append (omega arith), refl)

end_rows : (ds : List Declaration) → (length (fields_rows end) ≡ 0) × (adds_fields end ds ≡ 0)
unfolding flatten adds_scope
end_rows ds = (refl, refl)

next_adds : (i : Item) (fs : Fields) (ds : List Declaration) → adds_fields (i ▸ fs) ds ≡ adds_head ds (head_of i) + (adds_item i + adds_fields fs ds)
unfolding adds_scope
next_adds i fs ds = refl

plain_rows : (h : Head) → (length (item_rows (plain h)) ≡ length (head_rows h)) × (inner (plain h) ≡ 0) × (adds_item (plain h) ≡ 0)
unfolding flatten inner adds_scope
plain_rows h = (refl, refl, refl)

holds_rows : (h : Head) (s : Scope) → (length (item_rows (holds h s)) ≡ length (head_rows h) + length (flatten s)) × (inner (holds h s) ≡ length (flatten s)) × (adds_item (holds h s) ≡ adds_scope s)
unfolding flatten inner adds_scope
holds_rows h s = (length-append (head_rows h) (flatten s), refl, refl)

-- the rows of a field that ran
ran_rows : {i : Item} {gs : Fields} {ds : List Declaration} {here : Env} {outside : Outside} {b k : ℕ} {res : Fields × ℕ} (R : Ran i gs ds here outside b k res)
    → (length (fields_rows res.0) ≡ sizes R.e.inserted + (length (item_rows R.q.0) + length (fields_rows R.rs.0))) × (length (head_rows R.h) ≡ length (head_rows R.e.now))
ran_rows {here = here} {outside = outside} R =
    let same : sizes R.new ≡ sizes R.e.inserted = holds_of (λ (x : List Head). sizes x ≡ sizes R.e.inserted) _ R.new (FourTimes.inserted_same here outside R.e.inserted) R.adds in
    let all = ap (λ (x : Fields × ℕ). length (fields_rows x.0)) (sym R.result) in (
      all ∙ omega (arith, same, before_size R.new (R.q.0 ▸ R.rs.0), fields_size R.q.0 R.rs.0),
      holds_of (λ (x : Head). length (head_rows x) ≡ length (head_rows R.e.now)) _ R.h (FourTimes.head_same here outside R.e.now) R.resolves,
    )

mutual
  unfolding head_of

  scope_all : (s : Scope) (outside : Outside) (k : ℕ) (q : Scope × ℕ) → LowScope s → resolve_scope s outside k ≡ ok q → length (flatten s) + adds_scope s ≤ length (flatten q.0)
  scope_all (scope kind name fs) outside k q low eq =
      let X = entered kind name fs outside k q (low_fields fs low.1) eq in
      let T = fields_all fs X.closed outside.before k X.k' (X.out', X.k'') low.1 X.resolves in
      let is = ap (λ (x : Scope). length (flatten x)) X.is in
      omega (arith, T, is, (scope_rows kind name fs).0, (scope_rows kind name fs).1, (scope_rows kind X.here.name X.out').0)

  fields_all : (gs : Fields) {fs : Fields} {outside : Outside} {here : Env} {out' : Fields} (E : Closed fs outside here out') (past : Before) (b k : ℕ) (res : Fields × ℕ) → LowFields gs
      → resolve_fields gs (declarations fs) here (seeing outside past) b k ≡ ok res → length (fields_rows gs) + adds_fields gs (declarations fs) ≤ length (fields_rows res.0)
  fields_all end {fs} {outside} {here} E past b k res low eq = omega (arith, (end_rows (declarations fs)).0, (end_rows (declarations fs)).1)
  fields_all (i ▸ gs) {fs} {outside} {here} E past b k res low eq =
      let R = ran i gs (declarations fs) here (seeing outside past) b k res eq in
      let H = holds_of _ _ R.e (head_all E past b (head_of i) low.0.operands) R.expands R.h R.resolves in
      let Q = item_all i R.h here (seeing outside past) k R.q low.1 R.items in
      let T = fields_all gs E (onward i (seeing outside past)).before R.e.k R.q.1 R.rs low.2 R.goes_on_lem in
      let L = ran_rows R in
      omega (arith, H, Q, T, L.0, L.1, fields_size i gs, item_size i, next_adds i gs (declarations fs))

  item_all : (i : Item) (h : Head) (here : Env) (outside : Outside) (k : ℕ) (q : Item × ℕ) → LowItem i → resolve_item i h here outside k ≡ ok q → length (head_rows h) + (inner i + adds_item i) ≤ length (item_rows q.0)
  item_all (plain h₀) h here outside k q low eq =
      let is = ap (λ (x : Item). length (item_rows x)) (plain_resolved h₀ h here outside k q eq) in omega (arith, is, (plain_rows h).0, (plain_rows h₀).1, (plain_rows h₀).2)
  item_all (holds h₀ s) h here outside k q low eq =
      let X = holds_resolved h₀ h s here outside k q eq in
      let T = scope_all s (inward h₀ here outside) k X.0 low X.1 in
      let is = ap (λ (x : Item). length (item_rows x)) X.2 in
      omega (arith, T, is, (holds_rows h X.0.0).0, (holds_rows h₀ s).1, (holds_rows h₀ s).2)

plain_any : (h₀ H h : Head) (here : Env) (outside : Outside) (k k' : ℕ) (q : Item × ℕ) → resolve_item (mark_item (plain h₀) H k').0 h here outside k ≡ ok q → (plain h, k) ≡ q
unfolding mark_scope resolve_scope
plain_any h₀ H h here outside k k' q e = ok_same _ q e

holds_any : (h₀ H h : Head) (s : Scope) (here : Env) (outside : Outside) (k k' : ℕ) (q : Item × ℕ) → resolve_item (mark_item (holds h₀ s) H k').0 h here outside k ≡ ok q
    → (x : Scope × ℕ) × (resolve_scope (mark_scope s k').0 (inward H here outside) k ≡ ok x) × ((holds h x.0, x.1) ≡ q)
unfolding mark_scope resolve_scope
holds_any h₀ H h s here outside k k' q e =
    let s₁ = bind_inv (resolve_scope (mark_scope s k').0 (inward H here outside) k) _ q e in (s₁.0, s₁.1, ok_same _ q s₁.2)

mutual
  unfolding head_of

  scope_most : (s : Scope) (outside : Outside) (k k' : ℕ) (q : Scope × ℕ) → LowScope s → resolve_scope (mark_scope s k').0 outside k ≡ ok q → length (flatten q.0) ≤ length (flatten s) + adds_scope s
  scope_most (scope kind name fs) outside k k' q low eq =
      let L = (subst (λ (x : Scope × ℕ). LikeScope (k' + length (flatten (scope kind name fs))) (scope kind name fs) x.0) (scope_marks_lem kind name fs k') (scope_like (scope kind name fs) k')).2 in
      let X = entered kind name (marks fs k').0 outside k q (Marks.like_declared_fields _ fs (marks fs k').0 L (low_fields fs low.1)) (subst (λ (x : Scope × ℕ). resolve_scope x.0 outside k ≡ ok q) (scope_marks_lem kind name fs k') eq) in
      let same : declarations (marks fs k').0 ≡ declarations fs = Marks.like_declarations _ fs (marks fs k').0 L in
      let run : resolve_fields (marks fs k').0 (declarations fs) X.here outside k X.k' ≡ ok (X.out', X.k'') =
      subst (λ (ds : List Declaration). resolve_fields (marks fs k').0 ds X.here outside k X.k' ≡ ok (X.out', X.k'')) same X.resolves in
      let T = fields_most fs (declarations fs) [] X.here outside k k' X.k' (inside fs k') (X.out', X.k'') low.1 run in
      let is = ap (λ (x : Scope). length (flatten x)) X.is in
      omega (arith, T, is, (scope_rows kind name fs).0, (scope_rows kind name fs).1, (scope_rows kind X.here.name X.out').0)

  fields_most : (gs : Fields) (ds : List Declaration) (seen : List Served) (here : Env) (outside : Outside) (b b' k k' : ℕ) (res : Fields × ℕ) → LowFields gs
      → resolve_fields (mark_fields gs ds seen b' k').0 ds here outside b k ≡ ok res → length (fields_rows res.0) ≤ length (fields_rows gs) + adds_fields gs ds
  fields_most end ds seen here outside b b' k k' res low eq =
      let e : (end, k) ≡ res = ran_end ds here outside b k res (subst (λ (x : Fields × ℕ). resolve_fields x.0 ds here outside b k ≡ ok res) (marked_end ds seen b' k') eq) in
      let is = ap (λ (x : Fields × ℕ). length (fields_rows x.0)) e in
      omega (arith, is)
  fields_most (i ▸ gs) ds seen here outside b b' k k' res low eq =
      let N = now i gs ds seen b' k' in
      let R = marked_ran i gs ds seen b' k' here outside b k res eq in
      let H = holds_of (λ (e : Expanded Head). Grown head_rows e ≤ length (head_rows (head_of i)) + adds_head ds (head_of i)) _ R.e (head_most ds outside seen b b' (head_of i)) (ap (expand_head ds outside b) (sym (marked_head i N.now k')) ∙ R.expands) in
      let Q = item_most i N.now R.h here outside k k' R.q low.1 R.items in
      let T = fields_most gs ds N.seen here (onward (item i gs ds seen b' k').0 outside) R.e.k N.k R.q.1 (item i gs ds seen b' k').1 R.rs low.2 R.goes_on_lem in
      let L = ran_rows R in
      omega (arith, H, Q, T, L.0, L.1, fields_size i gs, item_size i, next_adds i gs ds)

  item_most : (i : Item) (H h : Head) (here : Env) (outside : Outside) (k k' : ℕ) (q : Item × ℕ) → LowItem i → resolve_item (mark_item i H k').0 h here outside k ≡ ok q → length (item_rows q.0) ≤ length (head_rows h) + (inner i + adds_item i)
  item_most (plain h₀) H h here outside k k' q low eq =
      let is = ap (λ (x : Item × ℕ). length (item_rows x.0)) (plain_any h₀ H h here outside k k' q eq) in omega (arith, is, (plain_rows h).0, (plain_rows h₀).1, (plain_rows h₀).2)
  item_most (holds h₀ s) H h here outside k k' q low eq =
      let X = holds_any h₀ H h s here outside k k' q eq in
      let T = scope_most s (inward H here outside) k k' X.0 low X.1 in
      let is = ap (λ (x : Item × ℕ). length (item_rows x.0)) X.2 in
      omega (arith, T, is, (holds_rows h X.0.0).0, (holds_rows h₀ s).1, (holds_rows h₀ s).2)

-- For every tree of an input that the steps accept: the proposal has no more rows than the resolver's own output.
pub fewer_rows : (rules : RuleSet) (s : Scope) (r q : Scope × ℕ) → LowScope s → resolve rules s ≡ ok r → propose rules s ≡ ok q → length (flatten q.0) ≤ length (flatten r.0)
unfolding resolve propose mark
fewer_rows rules s r q low e f = omega (arith, scope_all s (at_root rules []) 0 r low e, scope_most s (at_root rules []) 0 0 q low f)
