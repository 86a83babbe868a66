-- The run of the steps on a tree that the planner marks: it inserts where the plan says, and an operand that names another's alias is
-- served by it.
use Rattle.std.specs.Prelude.{◌≡◌, Bool, ◌&&◌, eqb}
use Rattle.std.proofs.Math.Path.{refl, ap, subst}
use Rattle.std.proofs.Common.{sym, ◌∙◌, arith}
use Rattle.std.proofs.Math.Bool.{true, false}
use Rattle.std.proofs.Math.Option.{Option, none, some, map}
use mathlib.Core.List.{List, [], ◌∷◌}
use Prim.Native.Nat.{ℕ, suc, ◌+◌, ◌≤◌}
use Rattle.std.proofs.Math.ListN.{length}
use Rattle.rules.specs.Tools.{when◌then◌else◌, is_just, ◌or_else◌}
use Rattle.rules.specs.Versions.{RuleSet, top_name}
use Rattle.rules.specs.Rows.{Num, Id}
use Rattle.rules.specs.Tree.{Declaration, Operand, ref, outer, case, Head, Scope, scope, Fields, end, ◌▸◌, Item, plain, holds, head_of, with_operands, flatten}
use Rattle.rules.specs.Shapes.{here_only}
use Rattle.rules.specs.Good.{GoodScope, GoodFields, GoodItem}
use Rattle.rules.specs.Rules
use Rattle.rules.specs.Rules.{ok, Entry, decls_in, Env, table_of, Before, Outside, onward, inward, opened, find, fresh, walk, declarations, heads_decls, expand_operand, expand_operands, expand_head, expand_fields, outer_alias, resolve_operands, resolve_head, resolve_scope, resolve_fields, resolve_item}
use Rattle.rules.specs.Readings.{Standing, first_named}
use Rattle.sharing.specs.Sharing.{Served, served_by, Marked, mark_outer, mark_operand, mark_operands, mark_head, insertions, mark_scope, mark_fields, mark_item}
use Rattle.rules.specs.Laws.ToolLaws.{Ok, ok_at, false_not, and_left, and_right, eqb-true, eqb-false, All, done, ◌&◌, all_append, all_left, all_right}
use Rattle.rules.specs.Laws.Results.{OkR, bind_ok, bind_any, if_both, holds_of, bind_inv, bind_known, ok_same, no_option}
use Rattle.rules.specs.Laws.Entries
use Rattle.rules.specs.Laws.Meaning.Names.{LowDecls, LowOperand, LowOperands, LowHead, LowFields, DeclFields, low_fields}
use Rattle.rules.proofs.Laws.Meaning.Runs
use Rattle.rules.proofs.Laws.Meaning.Runs.{AllNew, seeing, Ran, ran}
use Rattle.rules.proofs.Laws.Meaning.StepC.{named_number}
use Rattle.checking.proofs.Laws.OwnOperands
use Rattle.checking.proofs.Laws.OwnOperands.{One, one_ref, ones, Closed, entered}
use Rattle.sharing.proofs.Laws.Marks
use Rattle.sharing.proofs.Laws.Marks.{LikeScope, LikeFields, scope_like}

-- ---- fresh names that no scope around has

abbrev pub Under : ℕ → List Env → Type 0
Under b outside = (d space j : ℕ) → b ≤ j → walk outside d space (fresh j) ≡ none

-- no declaration has that name
abbrev pub Absent : (name : ℕ) → List Declaration → Type 0
Absent name ds = All (λ d. ¬ (d.name ≡ name)) ds

not_found : (a : Bool) (o : Option ℕ) → o ≡ none → (when a then when false then some 0 else map suc o else o) ≡ none
unfolding when◌then◌else◌
not_found true o e = rw e
not_found false o e = e

pub absent_find : (ds : List Declaration) (space name : ℕ) → Absent name ds → find ds space name ≡ none
unfolding find
absent_find [] space name a = refl
absent_find (d ∷ ds) space name (h & a) = rw (eqb-false d.name name h) (not_found (eqb d.space space) (find ds space name) (absent_find ds space name a))

pub low_absent : (ds : List Declaration) (j : ℕ) → LowDecls ds → Absent (fresh j) ds
unfolding fresh
low_absent [] j l = done
low_absent (d ∷ ds) j l = let n : ¬ (d.name ≡ fresh j) = λ e. omega (arith, l.0) in n & low_absent ds j l.1

new_absent : (lo hi : ℕ) (hs : List Head) (j : ℕ) → hi ≤ j → AllNew lo hi hs → Absent (fresh j) (heads_decls hs)
unfolding heads_decls fresh
new_absent lo hi [] j l a = done
new_absent lo hi (h ∷ hs) j l a =
    let n : ¬ (a.0.decl.name ≡ fresh j) = λ e. omega (arith, a.0.named, a.0.high) in rw a.0.alone (n & new_absent lo hi hs j l a.1)

pub table_absent : (fs : Fields) (ds : List Declaration) (outside : Outside) (b : ℕ) (j : ℕ) → DeclFields fs → OkR (λ t. (b ≤ t.1) × (t.1 ≤ j → Absent (fresh j) (decls_in t.0))) (expand_fields ds outside b fs)
unfolding expand_fields
table_absent end ds outside b j d = (omega arith, λ l. done)
table_absent (i ▸ fs) ds outside b j d =
    bind_ok _ _ _ _ (Runs.head_grown ds outside b (head_of i)) (λ e g. bind_ok _ _ _ _ (table_absent fs ds (onward i outside) e.k j d.2) (λ r a. (
      omega (arith, g.0, a.0),
      λ l. subst (Absent (fresh j)) (sym (Entries.field_decls _ _ e.inserted e.rows (head_of i).decls r.0))
          (all_append (heads_decls e.inserted) _ (new_absent b e.k e.inserted j (omega (arith, a.0)) g.1) (all_append (head_of i).decls _ (low_absent (head_of i).decls j d.0) (a.1 l))),
    )))

pub under_next : (b : ℕ) (here : Env) (outside : List Env) → ((space j : ℕ) → b ≤ j → find (table_of here) space (fresh j) ≡ none) → Under b outside → Under b (here ∷ outside)
unfolding walk ◌or_else◌
under_next b here outside f u d space j l = rw (f space j l) (u (suc d) space j l)

-- wherever in the scope we are
pub under_opened : (b : ℕ) (here : Env) (outside : Outside) → Under b (here ∷ outside.scopes) → Under b (opened here outside)
unfolding walk
under_opened b here outside u d space j l = u d space j l

pub under_root : Under 0 []
unfolding walk
under_root d space j l = refl

-- ---- what is remembered

-- what holds of all that is remembered holds of what is found
pub served_holds : (P : Served → Type 0) (seen : List Served) (space name : ℕ) → All P seen → Ok (λ j. P (record { space = space; name = name; k = j })) (served_by seen space name)
unfolding served_by when◌then◌else◌
served_holds P [] space name a = tt
served_holds P (m ∷ ms) space name (h & a) = go (eqb m.space space && eqb m.name name) refl (served_holds P ms space name a)
  where
    go : (b : Bool) → eqb m.space space && eqb m.name name ≡ b → Ok (λ j. P (record { space = space; name = name; k = j })) (served_by ms space name)
        → Ok (λ j. P (record { space = space; name = name; k = j })) (when b then some m.k else served_by ms space name)
    go false e r = r
    go true e r =
        let s : m.space ≡ space = eqb-true m.space space (and_left (eqb m.space space) (eqb m.name name) e) in
        let n : m.name ≡ name = eqb-true m.name name (and_right (eqb m.space space) (eqb m.name name) e) in
        subst (λ (x : ℕ). P (record { space = x; name = name; k = m.k })) s (subst (λ (x : ℕ). P (record { space = m.space; name = x; k = m.k })) n h)

module _ (start : ℕ) where
  -- its insertions are of this scope
  abbrev pub Late : List Served → Type 0
  Late seen = All (λ m. start ≤ m.k) seen

  abbrev pub Lately : {A : Type 0} → Marked A → Type 0
  Lately m = Late m.seen × (start ≤ m.k)

  late_outer : (seen : List Served) (k space name z : ℕ) (o : Option ℕ) → Late seen → start ≤ k → Lately (mark_outer seen k space name z o)
  unfolding mark_outer
  late_outer seen k space name z none a h = (h & a, omega arith)
  late_outer seen k space name z (some j) a h = (a, h)

  module _ (ds : List Declaration) where
    pub late_operand : (seen : List Served) (k : ℕ) (o : Operand) → Late seen → start ≤ k → Lately (mark_operand ds seen k o)
    unfolding mark_operand
    late_operand seen k (ref space (Num n) [] z) a h = (a, h)
    late_operand seen k (ref space (Id name) [] z) a h = if_both Lately _ _ _ (a, h) (late_outer seen k space name z _ a h)
    late_operand seen k (ref space at (p ∷ ps) z) a h = (a, omega arith)
    late_operand seen k (outer space up at z) a h = (a, h)
    late_operand seen k (case name z) a h = (a, h)

    pub late_operands : (seen : List Served) (k : ℕ) (os : List Operand) → Late seen → start ≤ k → Lately (mark_operands ds seen k os)
    unfolding mark_operands
    late_operands seen k [] a h = (a, h)
    late_operands seen k (o ∷ os) a h = let l = late_operand seen k o a h in late_operands (mark_operand ds seen k o).seen (mark_operand ds seen k o).k os l.0 l.1

    pub late_head : (seen : List Served) (k : ℕ) (h : Head) → Late seen → start ≤ k → Lately (mark_head ds seen k h)
    unfolding mark_head
    late_head seen k h a l = if_both Lately _ _ _ (a, l) (late_operands seen k h.operands a l)

    pub late_insertions : (seen : List Served) (k : ℕ) (fs : Fields) → Late seen → start ≤ k → start ≤ insertions ds seen k fs
    unfolding insertions
    late_insertions seen k end a h = h
    late_insertions seen k (i ▸ fs) a h = let l = late_head seen k (head_of i) a h in late_insertions (mark_head ds seen k (head_of i)).seen (mark_head ds seen k (head_of i)).k fs l.0 l.1

-- ---- what becomes of an operand that is marked

module _ {fs : Fields} {outside : Outside} {here : Env} {out' : Fields} (E : Closed fs outside here out') (start : ℕ) (under : Under start outside.scopes) where
  -- an alias that is remembered stands in the output, and reaches what its name means
  pub record Known (m : Served) : Type 0 where
    pub low : m.name ≤ top_name
    pub absent : find (declarations fs) m.space m.name ≡ none
    pub at : ℕ × ℕ
    pub walks : walk outside.scopes 1 m.space m.name ≡ some at
    pub z : ℕ
    pub stands : OwnOperands.Standing E m.space m.k at z

-- at a field before which `past` stands
module _ {fs : Fields} {outside : Outside} {here : Env} {out' : Fields} (E : Closed fs outside here out') (start : ℕ) (under : Under start outside.scopes) (past : Before) where
  abbrev pub ds : List Declaration
  ds = declarations fs

  abbrev there : Outside
  there = seeing outside past

  -- The run inserts at k as the plan does at k'; and the operands are those of the input, or are served by what is remembered.
  pub record Justified {A : Type 0} (As : A → Type 0) (seen : List Served) (m : Marked A) (k : ℕ) (new : List Head) : Type 0 where
    pub next : k ≡ m.k
    pub served : All (OwnOperands.PlacedHead E past) new → All (Known E start under) seen → As m.now × All (Known E start under) m.seen

  abbrev One' : (fz : ℕ) → Operand → Type 0
  One' fz o = (now : Operand) × One here there fz o now

  stays : (o : Operand) (seen : List Served) (k : ℕ) → LowOperand o → Justified (OwnOperands.As E o) seen (record { now = o; seen = seen; k = k }) k []
  stays o seen k l = record { next = refl; served = λ a b. (OwnOperands.itself l, b) }

  -- a name that was found nowhere is refused by step C
  nowhere : {X : Type 0} (fz space name z : ℕ) → name ≤ top_name → find ds space name ≡ none → One' fz (ref space (Id name) [] z) → X
  nowhere fz space name z low e x = go x.0 x.1
    where
      go : {X : Type 0} (now : Operand) → One here there fz (ref space (Id name) [] z) now → X
      go now (one_ref n f) = no_option n (sym (OwnOperands.not_here E past 0 space name low e) ∙ named_number here.entries space name z n f)

  -- the first reference to an outer declaration
  first_outer : (fz : ℕ) (seen : List Served) (k k' space name z : ℕ) (o : Option (ℕ × ℕ)) → LowOperand (ref space (Id name) [] z) → find ds space name ≡ none → walk outside.scopes 1 space name ≡ o
      → OkR (λ e. k ≡ k' → One' fz e.now → Justified (OwnOperands.As E (ref space (Id name) [] z)) seen (mark_outer seen k' space name z none) e.k e.inserted) (Rules.found_at space name z k o)
  unfolding Rules.found_at Rules.as_it_is Rules.through mark_outer
  first_outer fz seen k k' space name z none l e w = λ q x. nowhere fz space name z l.1 e x
  first_outer fz seen k k' space name z (some at) l e w = if_both (OkR _) _ _ _ (λ q x. record { next = ap suc q; served = go q }) tt
    where
      go : k ≡ k' → All (OwnOperands.PlacedHead E past) (outer_alias space (fresh k) at.0 at.1 z ∷ []) → All (Known E start under) seen
          → OwnOperands.As E (ref space (Id name) [] z) (ref space (Id name) [] z) × All (Known E start under) (record { space = space; name = name; k = k' } ∷ seen)
      go q (P & a) b = (
        OwnOperands.itself l,
        record { low = l.1; absent = e; at = at; walks = w; z = z; stands = subst (λ (x : ℕ). OwnOperands.Standing E space x at z) q (OwnOperands.placed_stands E past space k at z P) } & b,
      )

  -- a later one
  later_outer : (fz : ℕ) (seen : List Served) (k k' space name z j : ℕ) → LowOperand (ref space (Id name) [] z) → find ds space name ≡ none → served_by seen space name ≡ some j → Late start seen
      → OkR (λ e. k ≡ k' → One' fz e.now → Justified (OwnOperands.As E (ref space (Id name) [] z)) seen (mark_outer seen k' space name z (some j)) e.k e.inserted)
      (expand_operand ds there k (ref space (Id (fresh j)) [] z))
  unfolding expand_operand Rules.found_at Rules.as_it_is mark_outer
  later_outer fz seen k k' space name z j l e f late =
      let new : walk outside.scopes 1 space (fresh j) ≡ none = under 1 space j (ok_at (λ (x : ℕ). start ≤ x) _ j (served_holds (λ (m : Served). start ≤ m.k) seen space name late) f) in
      rw new (bind_any _ _ _ (λ u. if_both (OkR _) _ _ _ (λ q x. record { next = q; served = go new }) (λ q x. record { next = q; served = go new })))
    where
      go : walk outside.scopes 1 space (fresh j) ≡ none → All (OwnOperands.PlacedHead E past) [] → All (Known E start under) seen → OwnOperands.As E (ref space (Id name) [] z) (ref space (Id (fresh j)) [] z) × All (Known E start under) seen
      go new a b =
          let K = ok_at (λ (x : ℕ). Known E start under (record { space = space; name = name; k = x })) _ j (served_holds (Known E start under) seen space name b) f in
          (OwnOperands.served j K.z K.at l.1 e K.walks new K.stands, b)

  abbrev Justify : (fz : ℕ) (seen : List Served) (k k' : ℕ) (o : Operand) (m : Marked Operand) → Type 0
  Justify fz seen k k' o m = OkR (λ e. k ≡ k' → One' fz e.now → Justified (OwnOperands.As E o) seen m e.k e.inserted) (expand_operand ds there k m.now)

  name_outer : (fz : ℕ) (seen : List Served) (k k' space name z : ℕ) (o : Option ℕ) → LowOperand (ref space (Id name) [] z) → Late start seen → find ds space name ≡ none → served_by seen space name ≡ o
      → Justify fz seen k k' (ref space (Id name) [] z) (mark_outer seen k' space name z o)
  unfolding expand_operand when◌then◌else◌ mark_outer
  name_outer fz seen k k' space name z none l late e f = bind_any _ _ _ (λ u. rw e (first_outer fz seen k k' space name z (walk outside.scopes 1 space name) l e refl))
  name_outer fz seen k k' space name z (some j) l late e f = later_outer fz seen k k' space name z j l e f late

  name_justified : (fz : ℕ) (seen : List Served) (k k' space name z : ℕ) (o : Option ℕ) → LowOperand (ref space (Id name) [] z) → Late start seen → find ds space name ≡ o
      → Justify fz seen k k' (ref space (Id name) [] z) (when is_just o then record { now = ref space (Id name) [] z; seen = seen; k = k' } else mark_outer seen k' space name z (served_by seen space name))
  unfolding expand_operand when◌then◌else◌ Rules.as_it_is
  name_justified fz seen k k' space name z none l late e = name_outer fz seen k k' space name z (served_by seen space name) l late e refl
  name_justified fz seen k k' space name z (some n) l late e = bind_any _ _ _ (λ u. rw e (λ q x. subst (λ (y : ℕ). Justified (OwnOperands.As E (ref space (Id name) [] z)) seen (record { now = ref space (Id name) [] z; seen = seen; k = y }) k []) q (stays (ref space (Id name) [] z) seen k l)))

  operand_justified : (fz : ℕ) (seen : List Served) (k k' : ℕ) (o : Operand) → LowOperand o → Late start seen → Justify fz seen k k' o (mark_operand ds seen k' o)
  unfolding expand_operand mark_operand Rules.as_it_is Rules.through
  operand_justified fz seen k k' (ref space (Num n) [] z) l late = λ q x. record { next = q; served = λ a b. (OwnOperands.itself l, b) }
  operand_justified fz seen k k' (ref space (Id name) [] z) l late = name_justified fz seen k k' space name z (find ds space name) l late refl
  operand_justified fz seen k k' (ref space at (p ∷ ps) z) l late = if_both (OkR _) _ _ _ tt (λ q x. record { next = ap (λ (y : ℕ). suc (y + length ps)) q; served = λ a b. (OwnOperands.itself l, b) })
  operand_justified fz seen k k' (outer space up at z) l late = λ q x. record { next = q; served = λ a b. (OwnOperands.itself l, b) }
  operand_justified fz seen k k' (case name z) l late = λ q x. record { next = q; served = λ a b. (OwnOperands.itself l, b) }

  operands_justified : (fz : ℕ) (seen : List Served) (k k' : ℕ) (os : List Operand) → LowOperands os → Late start seen → start ≤ k'
      → OkR (λ e. k ≡ k' → (cases : List ℕ) (os' : List Operand) → resolve_operands here there fz cases e.now ≡ ok os' → Justified (OwnOperands.AllAs E os) seen (mark_operands ds seen k' os) e.k e.inserted)
      (expand_operands ds there k (mark_operands ds seen k' os).now)
  unfolding expand_operands mark_operands Rules.as_it_is
  operands_justified fz seen k k' [] l late h = λ q cases os' r. record { next = q; served = λ a b. (OwnOperands.no_more, b) }
  operands_justified fz seen k k' (o ∷ os) l late h =
      let m = mark_operand ds seen k' o in
      let L = late_operand start ds seen k' o late h in
      bind_ok _ _ _ _ (operand_justified fz seen k k' o l.0 late) (λ e f. bind_ok _ _ _ _ (operands_justified fz m.seen e.k m.k os l.1 L.0 L.1) (λ es g. λ q cases os' r.
      let X = ones here there fz cases e.now es.now os' r in
      let J = f q (X.now, X.first) in
      let K = g J.next X.seen X.rest X.others in
      record {
        next = K.next;
        served = λ a b.
            let S = J.served (all_left e.inserted es.inserted a) b in
            let T = K.served (all_right e.inserted es.inserted a) S.1 in
            (OwnOperands.also S.0 T.0, T.1);
      }))

  -- a field
  abbrev pub HeadAs : Head → Head → Type 0
  HeadAs w h = OwnOperands.AllAs E w.operands h.operands

  abbrev by_code : Bool → List Served → (k : ℕ) → Head → Marked Head
  by_code b seen k h =
      when b then record { now = h; seen = seen; k = k }
      else let m = mark_operands ds seen k h.operands in record { now = with_operands h m.now; seen = m.seen; k = m.k }

  pub head_justified : (seen : List Served) (k k' : ℕ) (h : Head) → LowOperands h.operands → Late start seen → start ≤ k'
      → OkR (λ e. k ≡ k' → (h' : Head) → resolve_head here there e.now ≡ ok h' → Justified (HeadAs h) seen (mark_head ds seen k' h) e.k e.inserted) (expand_head ds there k (mark_head ds seen k' h).now)
  unfolding expand_head mark_head when◌then◌else◌ with_operands Rules.as_it_is
  head_justified seen k k' h l late s = go (here_only h.code) refl
    where
      go : (b : Bool) → here_only h.code ≡ b
          → OkR (λ e. k ≡ k' → (h' : Head) → resolve_head here there e.now ≡ ok h' → Justified (HeadAs h) seen (by_code b seen k' h) e.k e.inserted) (expand_head ds there k (by_code b seen k' h).now)
      go true e = rw e (λ q h' r. record { next = q; served = λ a b. (OwnOperands.all_same_lem E h.operands l, b) })
      go false e = rw e (bind_ok _ _ _ _ (operands_justified h.z seen k k' h.operands l late s) (λ es f. λ q h' r.
          let J = f q [] h'.operands (OwnOperands.resolved_operands E past 0 _ h' r) in
          record { next = J.next; served = J.served }))

-- ---- the fields of a tree that is marked

abbrev pub head_by : Bool → List Declaration → List Served → (k : ℕ) → Head → Marked Head
head_by b ds seen k h =
    when b then record { now = h; seen = seen; k = k }
    else let m = mark_operands ds seen k h.operands in record { now = with_operands h m.now; seen = m.seen; k = m.k }

pub head_by_lem : (ds : List Declaration) (seen : List Served) (k : ℕ) (h : Head) → mark_head ds seen k h ≡ head_by (here_only h.code) ds seen k h
unfolding mark_head
head_by_lem ds seen k h = refl

pub head_decls : (ds : List Declaration) (seen : List Served) (k : ℕ) (h : Head) → (mark_head ds seen k h).now.decls ≡ h.decls
head_decls ds seen k h = ap (λ (m : Marked Head). m.now.decls) (head_by_lem ds seen k h) ∙ go (here_only h.code)
  where
    go : (b : Bool) → (head_by b ds seen k h).now.decls ≡ h.decls
    go true = unfold when◌then◌else◌ in refl
    go false = unfold when◌then◌else◌ with_operands in refl

pub here_only_same : (ds : List Declaration) (seen : List Served) (k : ℕ) (h : Head) → here_only (mark_head ds seen k h).now.code ≡ true → h.operands ≡ (mark_head ds seen k h).now.operands
here_only_same ds seen k h = subst (λ (m : Marked Head). here_only m.now.code ≡ true → h.operands ≡ m.now.operands) (sym (head_by_lem ds seen k h)) (go (here_only h.code) refl)
  where
    go : (b : Bool) → here_only h.code ≡ b → here_only (head_by b ds seen k h).now.code ≡ true → h.operands ≡ (head_by b ds seen k h).now.operands
    go true e t = unfold when◌then◌else◌ in refl
    go false e t = false_not (sym e ∙ (unfold when◌then◌else◌ with_operands in t))

module _ (i : Item) (gs : Fields) (ds : List Declaration) (seen : List Served) (b k : ℕ) where
  abbrev pub now : Marked Head
  now = mark_head ds seen b (head_of i)

  abbrev pub item : Item × ℕ
  item = mark_item i now.now k

  abbrev pub others : Fields × ℕ
  others = mark_fields gs ds now.seen now.k item.1

  pub marked_next : mark_fields (i ▸ gs) ds seen b k ≡ (item.0 ▸ others.0, others.1)
  unfolding mark_scope
  marked_next = refl

  pub marked_ran : (here : Env) (outside : Outside) (b' k' : ℕ) (res : Fields × ℕ) → resolve_fields (mark_fields (i ▸ gs) ds seen b k).0 ds here outside b' k' ≡ ok res
      → Ran item.0 others.0 ds here outside b' k' res
  marked_ran here outside b' k' res e =
      ran item.0 others.0 ds here outside b' k' res (subst (λ (x : Fields × ℕ). resolve_fields x.0 ds here outside b' k' ≡ ok res) marked_next e)

  pub marked_good : (rules : RuleSet) (kind : ℕ) → GoodFields rules (mark_fields (i ▸ gs) ds seen b k).0 kind → GoodItem rules item.0 kind × GoodFields rules others.0 kind
  marked_good rules kind g = subst (λ (x : Fields × ℕ). GoodFields rules x.0 kind) marked_next g

  pub marked_insertions : insertions ds seen b (i ▸ gs) ≡ insertions ds now.seen now.k gs
  unfolding insertions
  marked_insertions = refl

pub marked_head : (i : Item) (h : Head) (k : ℕ) → head_of (mark_item i h k).0 ≡ h
unfolding mark_scope head_of
marked_head (plain h₀) h k = refl
marked_head (holds h₀ s) h k = refl

pub marked_end : (ds : List Declaration) (seen : List Served) (b k : ℕ) → mark_fields end ds seen b k ≡ (end, k)
unfolding mark_scope
marked_end ds seen b k = refl

-- the plan's insertions only grow
mutual
  unfolding mark_scope

  scope_grows : (s : Scope) (k : ℕ) → k ≤ (mark_scope s k).1
  scope_grows (scope kind name fs) k =
      let a = late_insertions k (declarations fs) [] k fs done (omega arith) in
      let b = fields_grow fs (declarations fs) [] k (insertions (declarations fs) [] k fs) in
      omega (arith, a, b)

  fields_grow : (fs : Fields) (ds : List Declaration) (seen : List Served) (b k : ℕ) → k ≤ (mark_fields fs ds seen b k).1
  fields_grow end ds seen b k = omega arith
  fields_grow (i ▸ fs) ds seen b k =
      let x = item_grows i (mark_head ds seen b (head_of i)).now k in
      let y = fields_grow fs ds (mark_head ds seen b (head_of i)).seen (mark_head ds seen b (head_of i)).k (mark_item i (mark_head ds seen b (head_of i)).now k).1 in
      omega (arith, x, y)

  pub item_grows : (i : Item) (h : Head) (k : ℕ) → k ≤ (mark_item i h k).1
  item_grows (plain h₀) h k = omega arith
  item_grows (holds h₀ s) h k = scope_grows s k

expand_end : (ds : List Declaration) (outside : Outside) (b : ℕ) (t : List Entry × ℕ) → expand_fields ds outside b end ≡ ok t → t.1 ≡ b
unfolding expand_fields
expand_end ds outside b t e = ap (λ (x : List Entry × ℕ). x.1) (sym (ok_same ([], b) t e))

expand_rest : (i : Item) (gs : Fields) (ds : List Declaration) (here : Env) (outside : Outside) (b k : ℕ) (res : Fields × ℕ) (R : Ran i gs ds here outside b k res) (t : List Entry × ℕ)
    → expand_fields ds outside b (i ▸ gs) ≡ ok t → (t' : List Entry × ℕ) × (expand_fields ds (onward i outside) R.e.k gs ≡ ok t') × (t.1 ≡ t'.1)
unfolding expand_fields
expand_rest i gs ds here outside b k res R t et =
    let s₁ = bind_inv (expand_fields ds (onward i outside) R.e.k gs) _ t (bind_known (expand_head ds outside b (head_of i)) _ R.e t R.expands et) in
    (s₁.0, s₁.1, ap (λ (x : List Entry × ℕ). x.1) (sym (ok_same _ t s₁.2)))

no_insertions : (ds : List Declaration) (seen : List Served) (b : ℕ) → insertions ds seen b end ≡ b
unfolding insertions
no_insertions ds seen b = refl

-- what a run did at a field that is marked
module _ {fs : Fields} {outside : Outside} {here : Env} {out' : Fields} (E : Closed fs outside here out') (start : ℕ) (under : Under start outside.scopes) where
  abbrev pub table : List Declaration
  table = declarations fs

  pub field_justified : (past : Before) (i : Item) (gs : Fields) (seen : List Served) (b b' k k' : ℕ) (res : Fields × ℕ) → LowHead (head_of i) → Late start seen → start ≤ b → b' ≡ b
      → (R : Ran (item i gs table seen b k).0 (others i gs table seen b k).0 table here (seeing outside past) b' k' res)
      → Justified E start under past (HeadAs E start under past (head_of i)) seen (now i gs table seen b k) R.e.k R.e.inserted
  field_justified past i gs seen b b' k k' res low late h q R =
      holds_of _ _ R.e (head_justified E start under past seen b' b (head_of i) low.operands late h) (ap (expand_head table (seeing outside past) b') (sym (marked_head i _ k)) ∙ R.expands) q R.h R.resolves

  -- step B ends at the plan's next insertion
  level_next : (past : Before) (gs : Fields) (seen : List Served) (b b' k k' : ℕ) (res : Fields × ℕ) (t : List Entry × ℕ) → LowFields gs → Late start seen → start ≤ b → b' ≡ b
      → resolve_fields (mark_fields gs table seen b k).0 table here (seeing outside past) b' k' ≡ ok res → expand_fields table (seeing outside past) b' (mark_fields gs table seen b k).0 ≡ ok t → t.1 ≡ insertions table seen b gs
  level_next past end seen b b' k k' res t low late h q eq et =
      expand_end table (seeing outside past) b' t (subst (λ (x : Fields × ℕ). expand_fields table (seeing outside past) b' x.0 ≡ ok t) (marked_end table seen b k) et) ∙ (q ∙ sym (no_insertions table seen b))
  level_next past (i ▸ gs) seen b b' k k' res t low late h q eq et =
      let R = marked_ran i gs table seen b k here (seeing outside past) b' k' res eq in
      let J = field_justified past i gs seen b b' k k' res low.0 late h q R in
      let L = late_head start table seen b (head_of i) late h in
      let X = expand_rest (item i gs table seen b k).0 (others i gs table seen b k).0 table here (seeing outside past) b' k' res R t
      (subst (λ (x : Fields × ℕ). expand_fields table (seeing outside past) b' x.0 ≡ ok t) (marked_next i gs table seen b k) et) in
      X.2 ∙ (level_next (onward (item i gs table seen b k).0 (seeing outside past)).before gs (now i gs table seen b k).seen (now i gs table seen b k).k R.e.k (item i gs table seen b k).1 R.q.1 R.rs X.0 low.2 L.0 L.1 J.next R.goes_on_lem X.1
      ∙ sym (marked_insertions i gs table seen b k))

-- ---- items

pub plain_shared : (h₀ H h : Head) (here : Env) (outside : Outside) (k : ℕ) (q : Item × ℕ) → resolve_item (mark_item (plain h₀) H k).0 h here outside k ≡ ok q → (plain h, k) ≡ q
unfolding mark_scope resolve_scope
plain_shared h₀ H h here outside k q e = ok_same _ q e

pub holds_shared : (h₀ H h : Head) (s : Scope) (here : Env) (outside : Outside) (k : ℕ) (q : Item × ℕ) → resolve_item (mark_item (holds h₀ s) H k).0 h here outside k ≡ ok q
    → (x : Scope × ℕ) × (resolve_scope (mark_scope s k).0 (inward H here outside) k ≡ ok x) × ((holds h x.0, x.1) ≡ q)
unfolding mark_scope resolve_scope
holds_shared h₀ H h s here outside k q e =
    let s₁ = bind_inv (resolve_scope (mark_scope s k).0 (inward H here outside) k) _ q e in (s₁.0, s₁.1, ok_same _ q s₁.2)

pub plain_next : (h₀ H : Head) (k : ℕ) → (mark_item (plain h₀) H k).1 ≡ k
unfolding mark_scope
plain_next h₀ H k = refl

pub holds_next : (h₀ H : Head) (s : Scope) (k : ℕ) → (mark_item (holds h₀ s) H k).1 ≡ (mark_scope s k).1
unfolding mark_scope
holds_next h₀ H s k = refl

pub holds_good : (rules : RuleSet) (kind : ℕ) (h₀ H : Head) (s : Scope) (k : ℕ) → GoodItem rules (mark_item (holds h₀ s) H k).0 kind → GoodScope rules (mark_scope s k).0
unfolding mark_scope
holds_good rules kind h₀ H s k g = g.3

-- ---- a scope that is marked

abbrev pub inside : Fields → ℕ → ℕ
inside fs k = insertions (declarations fs) [] k fs

abbrev pub marks : Fields → ℕ → Fields × ℕ
marks fs k = mark_fields fs (declarations fs) [] k (inside fs k)

pub scope_marks_lem : (kind name : ℕ) (fs : Fields) (k : ℕ) → mark_scope (scope kind name fs) k ≡ (scope kind name (marks fs k).0, (marks fs k).1)
unfolding mark_scope
scope_marks_lem kind name fs k = refl

-- the run of its fields
pub record Shared (kind name : ℕ) (fs : Fields) (outside : Outside) (k : ℕ) (q : Scope × ℕ) : Type 0 where
  pub here : Env
  pub out' : Fields
  pub k'' : ℕ
  pub E : Closed fs outside here out'
  pub resolves : resolve_fields (marks fs k).0 (declarations fs) here outside k (inside fs k) ≡ ok (out', k'')
  pub around : Under (inside fs k) (here ∷ outside.scopes)
  pub is : scope kind here.name out' ≡ q.0
  pub last : q.1 ≡ k''

pub enter : (kind name : ℕ) (fs : Fields) (outside : Outside) (k : ℕ) (q : Scope × ℕ) → LowFields fs → Under k outside.scopes → resolve_scope (mark_scope (scope kind name fs) k).0 outside k ≡ ok q
    → Shared kind name fs outside k q
enter kind name fs outside k q low under eq =
    let L : LikeFields (k + length (flatten (scope kind name fs))) fs (marks fs k).0 =
    (subst (λ (x : Scope × ℕ). LikeScope (k + length (flatten (scope kind name fs))) (scope kind name fs) x.0) (scope_marks_lem kind name fs k) (scope_like (scope kind name fs) k)).2 in
    let decl = low_fields fs low in
    let decl' : DeclFields (marks fs k).0 = Marks.like_declared_fields _ fs (marks fs k).0 L decl in
    let X = entered kind name (marks fs k).0 outside k q decl' (subst (λ (x : Scope × ℕ). resolve_scope x.0 outside k ≡ ok q) (scope_marks_lem kind name fs k) eq) in
    let same : declarations (marks fs k).0 ≡ declarations fs = Marks.like_declarations _ fs (marks fs k).0 L in
    let E : Closed fs outside X.here X.out' =
    record {
      table = X.closed.table;
      same_first = λ space n l. X.closed.same_first space n l ∙ ap (λ (ss : List Standing). first_named ss space n) (Marks.like_standings _ 0 fs (marks fs k).0 L decl);
    } in
    let run : resolve_fields (marks fs k).0 (declarations fs) X.here outside k X.k' ≡ ok (X.out', X.k'') =
    subst (λ (ds : List Declaration). resolve_fields (marks fs k).0 ds X.here outside k X.k' ≡ ok (X.out', X.k'')) same X.resolves in
    let expands : expand_fields (declarations fs) outside k (marks fs k).0 ≡ ok X.t =
    subst (λ (ds : List Declaration). expand_fields ds outside k (marks fs k).0 ≡ ok X.t) same X.expands in
    let next : X.t.1 ≡ inside fs k = level_next E k under outside.before fs [] k k (inside fs k) X.k' (X.out', X.k'') X.t low done (omega arith) refl run expands in
    record {
      here = X.here;
      out' = X.out';
      k'' = X.k'';
      E = E;
      resolves = subst (λ (x : ℕ). resolve_fields (marks fs k).0 (declarations fs) X.here outside k x ≡ ok (X.out', X.k'')) (X.next ∙ next) run;
      around = under_next (inside fs k) X.here outside.scopes
          (λ space j l. ap (λ (es : List Entry). find (decls_in es) space (fresh j)) X.entries ∙ absent_find (decls_in X.t.0) space (fresh j) ((holds_of _ _ X.t (table_absent (marks fs k).0 (declarations fs) outside k j decl') expands).1 (omega (arith, next))))
          (λ d space j l. under d space j (omega (arith, late_insertions k (declarations fs) [] k fs done (omega arith))));
      is = X.is;
      last = X.last;
    }
