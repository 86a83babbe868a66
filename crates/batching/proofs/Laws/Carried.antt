-- What the name of a member means is what the number counts to that stands in its place in the output, in the member's or in the prelude's: for
-- walked names, here_only_lem ones and the named index of an OUTER. The number of a path's instance stands in an inserted alias, out of the same
-- table; of that `Frames.here_meets` says the same.
use Rattle.std.specs.Prelude.{◌≡◌, refl, Bool, true, eqb}
use Rattle.std.proofs.Math.Path.{ap}
use Rattle.std.proofs.Common.{sym, ◌∙◌, subst}
use Rattle.std.proofs.Math.Option
use Rattle.std.proofs.Math.Option.{Option, none, some}
use mathlib.Core.List.{List, [], ◌∷◌, ◌++◌, map}
use Prim.Native.Nat.{ℕ, zero, suc, ◌≤◌}
use Rattle.std.proofs.Math.ListN.{get_elem?}
use Rattle.rules.specs.Tools.{when◌then◌else◌, ◌then◌}
use Rattle.rules.specs.Versions.{RuleSet, top_name}
use Rattle.rules.specs.Rows.{Index, Num, Id}
use Rattle.rules.specs.Tree.{Declaration, Operand, ref, outer, case, Head, Scope, scope, Fields, Item, plain, holds, head_of, with_operands}
use Rattle.rules.specs.Shapes.{here_only}
use Rattle.rules.specs.Good.{name_of}
use Rattle.rules.specs.Rules
use Rattle.rules.specs.Rules.{ok, Env, table_of, Outside, at_root, inward, opened, nth, named, find, declarations, expand_operand, expand_operands, expand_head, prepare, resolve_operands, resolve_head, resolve_scope, resolve_item, resolve_inside, resolve_outer, outer_numbers, up_number, or_refused, number_in}
use Rattle.rules.specs.Readings
use Rattle.rules.specs.Readings.{originals, held, fields_of, Place, Level, level, Use, counted, counted_out, counting, place, declared, outward, walked, use_inside, root}
use Rattle.moving.specs.Moved.{held_scope, names_to, nearest_named}
use Rattle.batching.specs.BatchReadings.{Meant, seat, meant_by, out_to, declared_out, name_in, member_means}
use Rattle.rules.specs.Laws.ToolLaws.{then_some}
use Rattle.rules.specs.Laws.Results.{OkR, bind_ok, bind_any, bind_eq, bind_inv, if_both, holds_of, ok_same, no_result, some_same, no_option}
use Rattle.rules.specs.Laws.Meaning.Names.{LowScope, LowFields, LowItem, LowOperand}
use Rattle.rules.proofs.Laws.Meaning.Runs
use Rattle.rules.proofs.Laws.Meaning.Runs.{seeing}
use Rattle.rules.proofs.Laws.Meaning.StepB.{walked_ref, low_operand}
use Rattle.rules.proofs.Laws.Meaning.StepC.{named_number, head_numbered, Numbered}
use Rattle.rules.proofs.Laws.Meaning.Frames.{Framed, Frames, inside, nowhere, pushed, Meets, here_meets}
use Rattle.batching.specs.Batch.{root_of}
use Rattle.batching.proofs.Laws.InPrelude.{framed_root, root_prepared, prepared_name}
use Rattle.rules.proofs.Laws.Meaning.Agree
use Rattle.rules.proofs.Laws.Meaning.Agree.{Ended, Arrived, readings_agree}

-- ---- what the steps make of an OUTER

outer_stays : (ds : List Declaration) (outside : Outside) (k space : ℕ) (up at : Index) (z : ℕ) → OkR (λ e. e.now ≡ outer space up at z) (expand_operand ds outside k (outer space up at z))
unfolding expand_operand Rules.as_it_is
outer_stays ds outside k space up at z = refl

outer_kept : (ds : List Declaration) (outside : Outside) (k : ℕ) (os : List Operand) (o space : ℕ) (up at : Index) (z : ℕ) → get_elem? os o ≡ some (outer space up at z)
    → OkR (λ e. get_elem? e.now o ≡ some (outer space up at z)) (expand_operands ds outside k os)
unfolding expand_operands
outer_kept ds outside k [] o space up at z e = no_option _ e
outer_kept ds outside k (x ∷ os) zero space up at z e =
    rw (some_same x _ e) (bind_ok _ _ _ _ (outer_stays ds outside k space up at z) (λ e p. bind_any _ _ _ (λ es. ap {B = Option Operand} some p)))
outer_kept ds outside k (x ∷ os) (suc o) space up at z e = bind_any _ _ _ (λ x'. bind_ok _ _ _ _ (outer_kept ds outside x'.k os o space up at z e) (λ es p. p))

head_kept : (ds : List Declaration) (outside : Outside) (k : ℕ) (h : Head) (o space : ℕ) (up at : Index) (z : ℕ) → get_elem? h.operands o ≡ some (outer space up at z)
    → OkR (λ e. get_elem? e.now.operands o ≡ some (outer space up at z)) (expand_head ds outside k h)
unfolding expand_head Rules.as_it_is with_operands
head_kept ds outside k h o space up at z e = if_both (OkR _) _ _ _ e (bind_ok _ _ _ _ (outer_kept ds outside k h.operands o space up at z e) (λ es p. p))

-- a here_only_lem field is left by step B
here_kept : (ds : List Declaration) (outside : Outside) (k : ℕ) (h : Head) → here_only h.code ≡ true → OkR (λ e. e.now ≡ h) (expand_head ds outside k h)
unfolding expand_head Rules.as_it_is when◌then◌else◌
here_kept ds outside k h c = rw c refl

module _ (here : Env) (outside : Outside) (space : ℕ) (up at : Index) (z : ℕ) where
  abbrev Resolved : (fz o : ℕ) → List Operand → Type 0
  Resolved fz o os = (x : Operand) × (resolve_outer outside.early (opened here outside) fz space up at z ≡ ok x) × (get_elem? os o ≡ some x)

  operands_resolved : (fz : ℕ) (seen : List ℕ) (os : List Operand) (o : ℕ) → get_elem? os o ≡ some (outer space up at z) → OkR (Resolved fz o) (resolve_operands here outside fz seen os)
  unfolding resolve_operands
  operands_resolved fz seen [] o e = no_option _ e
  operands_resolved fz seen (x ∷ os) zero e = rw (some_same x _ e) (bind_eq _ _ _ (λ n p. bind_any _ _ _ (λ os'. (n, p, refl))))
  operands_resolved fz seen (ref space₁ at₁ paths₁ z₁ ∷ os) (suc o) e = bind_any _ _ _ (λ n. bind_ok _ _ _ _ (operands_resolved fz seen os o e) (λ os' m. m))
  operands_resolved fz seen (outer space₁ up₁ at₁ z₁ ∷ os) (suc o) e = bind_any _ _ _ (λ x. bind_ok _ _ _ _ (operands_resolved fz seen os o e) (λ os' m. m))
  operands_resolved fz seen (case name z₁ ∷ os) (suc o) e = if_both (OkR (Resolved fz (suc o))) _ _ _ tt (bind_ok _ _ _ _ (operands_resolved fz (name ∷ seen) os o e) (λ os' m. m))

  head_resolved : (h : Head) (o : ℕ) → get_elem? h.operands o ≡ some (outer space up at z) → OkR (λ h'. Resolved h.z o h'.operands) (resolve_head here outside h)
  unfolding resolve_head with_operands
  head_resolved h o e = bind_ok _ _ _ _ (operands_resolved h.z [] h.operands o e) (λ os m. m)

-- an OUTER with a named index that is resolved: the scope that it leads to has that number for the name
record Found (envs : List Env) (space : ℕ) (up : Index) (name z fz : ℕ) (x : Operand) : Type 0 where
  d : ℕ
  e : Env
  n : ℕ
  goes : up_number envs up fz ≡ ok d
  there : nth envs d ≡ some e
  number : find (table_of e) space name ≡ some n
  is : x ≡ outer space (Num d) (Num n) z

at_scope : (o : Option Env) (e : Env) (fz : ℕ) → or_refused o Rules.too_far fz ≡ ok e → o ≡ some e
unfolding or_refused
at_scope none e fz q = no_result Rules.too_far fz e q
at_scope (some e') e fz q = ap {B = Option Env} some (ok_same e' e q)

found : (early : Bool) (envs : List Env) (fz space : ℕ) (up : Index) (name z : ℕ) (x : Operand) → resolve_outer early envs fz space up (Id name) z ≡ ok x → Found envs space up name z fz x
unfolding resolve_outer outer_numbers
found early envs fz space up name z x r = go up r
  where
    numbers : (v : Index) → outer_numbers early envs fz space v (Id name) z ≡ ok x → Found envs space v name z fz x
    numbers v r =
        let s₁ = bind_inv (up_number envs v fz) _ x r in
        let s₂ = bind_inv (or_refused (nth envs s₁.0) Rules.too_far fz) _ x s₁.2 in
        let s₃ = bind_inv (Rules.in_time (Rules.late_index early s₂.0 space (Id name)) z) _ x s₂.2 in
        let s₄ = bind_inv (number_in s₂.0.entries space (Id name) z) _ x s₃.2 in
        record {
          d = s₁.0;
          e = s₂.0;
          n = s₄.0;
          goes = s₁.1;
          there = at_scope _ s₂.0 fz s₂.1;
          number = named_number s₂.0.entries space name z s₄.0 s₄.1;
          is = sym (ok_same _ x s₄.2);
        }

    go : (v : Index) → resolve_outer early envs fz space v (Id name) z ≡ ok x → Found envs space v name z fz x
    go (Num d) r = numbers (Num d) r
    go (Id y) r = numbers (Id y) r

-- ---- the scopes of a run

-- a scope around a place, in the three views
record Seen (ls ls' : List Level) (e : Env) (d : ℕ) : Type 0 where
  l : Level
  l' : Level
  before : get_elem? ls d ≡ some l
  after : get_elem? ls' d ≡ some l'
  views : Framed l l' e

seen_at : {ls ls' : List Level} {es : List Env} → Frames ls ls' es → (d : ℕ) (e : Env) → nth es d ≡ some e → Seen ls ls' e d
unfolding nth
seen_at nowhere d e q = no_option e q
seen_at (inside {l = l} {l' = l'} {e = f} F Fs) zero e q = record { l = l; l' = l'; before = refl; after = refl; views = subst (Framed l l') (some_same f e q) F }
seen_at (inside F Fs) (suc d) e q =
    let S = seen_at Fs d e q in
    record { l = S.l; l' = S.l'; before = S.before; after = S.after; views = S.views }

abbrev names_of : List Env → List ℕ
names_of es = map (λ (e : Env). e.name) es

named_is : (es : List Env) (x : ℕ) → named es x ≡ nearest_named (names_of es) x
unfolding named nearest_named
named_is [] x = refl
named_is (e ∷ es) x = ap (λ (o : Option ℕ). when eqb e.name x then some 0 else Option.map suc o) (named_is es x)

goes_to : (es : List Env) (up : Index) (fz d : ℕ) → up_number es up fz ≡ ok d → out_to (names_of es) up ≡ some d
unfolding up_number out_to or_refused
goes_to es (Num n) fz d q = ap {B = Option ℕ} some (ok_same n d q)
goes_to es (Id x) fz d q = sym (named_is es x) ∙ go (named es x) q
  where
    go : (o : Option ℕ) → or_refused o Rules.no_such_scope fz ≡ ok d → o ≡ some d
    go none q = no_result Rules.no_such_scope fz d q
    go (some n) q = ap {B = Option ℕ} some (ok_same n d q)

-- what a table has for a name counts, in the output, to the declaration that the name means
meets_both : {l l' : Level} {e : Env} → Framed l l' e → (space name n : ℕ) → name ≤ top_name → find (table_of e) space name ≡ some n
    → (p : Place) × (declared l space name ≡ some p) × ((counted l' space n then place l') ≡ some p)
meets_both {l} {l'} {e} F space name n low q = go (declared l space name) refl (subst (λ (o : Option ℕ). Meets l' space o (declared l space name)) q (here_meets F space name low))
  where
    go : (o : Option Place) → declared l space name ≡ o → Meets l' space (some n) o → (p : Place) × (declared l space name ≡ some p) × ((counted l' space n then place l') ≡ some p)
    go none r m = absurd m
    go (some p) r m = (p, r, m)

-- ---- down the way to a scope, with the names of those around it

-- the scope at the end of a way, and the names of all that are open there
record Reached (way : List ℕ) (s : Scope) (beyond : List ℕ) (ls ls' : List Level) : Type 0 where
  at : Arrived ls ls'
  names : List ℕ
  are : names_to way s beyond ≡ some names
  open_names : names ≡ names_of (at.here ∷ at.outside.scopes)

-- the scope that a field holds, and what the run made of it
record Inner (i : Item) (gs : Fields) (here : Env) (outside : Outside) (k : ℕ) (i' : Item) : Type 0 where
  kind : ℕ
  name : ℕ
  holds_it : held_scope i ≡ some (scope kind name gs)
  low : LowFields gs
  r : Scope × ℕ
  resolves : resolve_scope (scope kind name gs) (inward (head_of i) here outside) k ≡ ok r
  held_after : held i' ≡ some (fields_of r.0)

inner : (i : Item) (gs : Fields) (h : Head) (here : Env) (outside : Outside) (k : ℕ) (q : Item × ℕ) → LowItem i → held i ≡ some gs → resolve_item i h here outside k ≡ ok q → Inner i gs here outside k q.0
unfolding held held_scope resolve_scope head_of
inner (plain h₀) gs h here outside k q low e r = no_option gs e
inner (holds h₀ (scope kind name fs)) gs h here outside k q low e r =
    let s₁ = bind_inv (resolve_scope (scope kind name fs) (inward h₀ here outside) k) _ q r in
    subst (λ (x : Fields). Inner (holds h₀ (scope kind name fs)) x here outside k q.0) (some_same fs gs e)
    (record {
      kind = kind;
      name = name;
      holds_it = refl;
      low = low.1;
      r = s₁.0;
      resolves = s₁.1;
      held_after = ap (λ (p : Item × ℕ). held p.0) (sym (ok_same _ q s₁.2));
    })

-- a scope that has passed, with its table's name
record Passed (name : ℕ) (fs : Fields) (outside : Outside) (t : Scope) : Type 0 where
  here : Env
  out : Fields
  ends : Ended fs outside here out
  same_name : here.name ≡ name
  fields_are : fields_of t ≡ out

passed : (kind name : ℕ) (fs : Fields) (outside : Outside) (k : ℕ) (q : Scope × ℕ) → LowFields fs → resolve_scope (scope kind name fs) outside k ≡ ok q → Passed name fs outside q.0
unfolding resolve_scope
passed kind name fs outside k q low eq =
    let s₁ = bind_inv (prepare name fs outside k) _ q eq in
    let s₂ = bind_inv (Rules.resolve_fields fs (declarations fs) s₁.0.0 outside k s₁.0.1) _ q s₁.2 in
    let P = Runs.prepared name fs outside k s₁.0 s₁.1 in
    record {
      here = s₁.0.0;
      out = s₂.0.0;
      ends = record { low = low; t = P.0; k = k; k' = s₁.0.1; k'' = s₂.0.1; expands = P.1; table = P.2; resolves = s₂.1 };
      same_name = prepared_name name fs outside k s₁.0 s₁.1;
      fields_are = ap (λ (p : Scope × ℕ). fields_of p.0) (sym (ok_same _ q s₂.2));
    }

names_step : (n : ℕ) (way : List ℕ) (kind name : ℕ) (fs : Fields) (i : Item) (t : Scope) (beyond names : List ℕ) → get_elem? (originals fs) n ≡ some i → held_scope i ≡ some t → names_to way t (name ∷ beyond) ≡ some names
    → names_to (n ∷ way) (scope kind name fs) beyond ≡ some names
unfolding names_to ◌then◌
names_step n way kind name fs i t beyond names e₁ e₂ e₃ = rw (e₁, e₂) e₃

reach : (way : List ℕ) (kind name : ℕ) (fs : Fields) (outside : Outside) (k : ℕ) (r : Scope × ℕ) (w : List ℕ) → LowFields fs → resolve_scope (scope kind name fs) outside k ≡ ok r
    → {ins outs : List Level} → Frames ins outs outside.scopes → (ls : List Level) → Readings.around way (level w fs) ins ≡ some ls
    → (ls' : List Level) × (Readings.around way (level w (fields_of r.0)) outs ≡ some ls') × Reached way (scope kind name fs) (names_of outside.scopes) ls ls'
unfolding Readings.around names_to
reach [] kind name fs outside k r w low eq {ins} {outs} Fs ls e =
    let P = passed kind name fs outside k r low eq in (
      _,
      refl,
      record {
        at = record {
          fs = fs;
          outside = outside;
          here = P.here;
          out = P.out;
          w = w;
          ends = P.ends;
          ins = ins;
          outs = outs;
          frames = Fs;
          was = some_same _ ls e;
          now = ap (λ (gs : Fields). level w gs ∷ outs) (sym P.fields_are);
        };
        names = name ∷ names_of outside.scopes;
        are = refl;
        open_names = ap (λ (x : ℕ). x ∷ names_of outside.scopes) (sym P.same_name);
      },
    )
reach (n ∷ way) kind name fs outside k r w low eq {ins} {outs} Fs ls e =
    let P = passed kind name fs outside k r low eq in
    let s₁ = then_some (get_elem? (originals fs) n) _ ls e in
    let s₂ = then_some (held s₁.0) _ ls s₁.2 in
    let A = Agree.at_ended P.ends n s₁.0 s₁.1 in
    let J = inner s₁.0 s₂.0 A.h P.here (seeing outside A.seen) A.k A.q A.low_item s₂.1 A.items in
    let I = reach way J.kind J.name s₂.0 (inward (head_of s₁.0) P.here (seeing outside A.seen)) A.k J.r (w ++ (n ∷ [])) J.low J.resolves
    (inside (pushed (Agree.framed P.ends w) A.seen.decls) Fs) ls s₂.2 in
    let N = I.2 in
    let behind : names_to way (scope J.kind J.name s₂.0) (name ∷ names_of outside.scopes) ≡ some N.names = ap (λ (x : ℕ). names_to way (scope J.kind J.name s₂.0) (x ∷ names_of outside.scopes)) (sym P.same_name) ∙ N.are in (
      I.0,
      ap (λ (gs : Fields). Readings.around (n ∷ way) (level w gs) outs) P.fields_are ∙ Agree.around_step n way (level w P.out) outs A.q.0 (fields_of J.r.0) I.0 A.there J.held_after I.1,
      record { at = N.at; names = N.names; are = names_step n way kind name fs s₁.0 _ (names_of outside.scopes) N.names s₁.1 J.holds_it behind; open_names = N.open_names },
    )

-- ---- the theorems

-- what the number counts to that stands in an operand of the output
unfoldable pub counts : List Level → Operand → Option Place
counts ls (ref space at paths z) = counting ls (ref space at paths z)
counts ls (outer space up at z) = counted_out ls (outer space up at z ∷ [])
counts ls (case name z) = none

counting_counts : (ls : List Level) (o : Operand) (d : Place) → counting ls o ≡ some d → counts ls o ≡ some d
unfolding counts counting
counting_counts ls (ref space at paths z) d e = e
counting_counts [] (outer space up at z) d e = no_option d e
counting_counts (l ∷ ls) (outer space up at z) d e = no_option d e
counting_counts [] (case name z) d e = no_option d e
counting_counts (l ∷ ls) (case name z) d e = no_option d e

-- At the place `p` of the member `m`, inside the prelude `s`: the name means a declaration, and in the outputs `m'` and `s'` the number at that
-- place counts to the same one.
pub record Carried (s s' m m' : Scope) (p : Place) : Type 0 where
  pub d : Meant
  pub means : member_means s m p ≡ some d
  pub u : Use
  pub there : use_inside (seat s) (root s' ∷ []) m' p ≡ some u
  pub carried : Option.map meant_by (counts u.levels u.operand) ≡ some d

root_name : (rules : RuleSet) (s : Scope) (q : Scope × ℕ) → resolve_inside rules [] s ≡ ok q → (root_of q.0).name ≡ name_of s
root_name rules (scope kind name fs) q e = let R = root_prepared rules kind name fs q e in R.2 ∙ prepared_name name fs (at_root rules []) 0 R.0 R.1

-- a here_only_lem name, and an index, found on both sides
module _ (ls ls' : List Level) (space name n z : ℕ) (p : Place) where
  named_here : (code : ℕ) (names : List ℕ) (l : Level) (rest : List Level) → here_only code ≡ true → l ∷ rest ≡ ls → declared l space name ≡ some p → name_in code names ls (ref space (Id name) [] z) ≡ some p
  unfolding name_in declared_out when◌then◌else◌ ◌then◌
  named_here code names l rest c e q = rw (c, ← e) q

  counts_here : (l : Level) (rest : List Level) → l ∷ rest ≡ ls' → (counted l space n then place l) ≡ some p → counts ls' (ref space (Num n) [] z) ≡ some p
  unfolding counts counting
  counts_here l rest e q = rw (← e) (Agree.meant_place (l ∷ rest) l (counted l space n) p q)

  named_index : (code : ℕ) (names : List ℕ) (up : Index) (d : ℕ) (l : Level) → out_to names up ≡ some d → get_elem? ls d ≡ some l → declared l space name ≡ some p → name_in code names ls (outer space up (Id name) z) ≡ some p
  unfolding name_in declared_out ◌then◌
  named_index code names up d l e₁ e₂ e₃ = rw (e₁, e₂) e₃

  counts_index : (d : ℕ) (l : Level) → get_elem? ls' d ≡ some l → (counted l space n then place l) ≡ some p → counts ls' (outer space (Num d) (Num n) z) ≡ some p
  unfolding counts counted_out ◌then◌
  counts_index d l e q = rw e q

outward_use : (base : List ℕ) (around : List Level) (m : Scope) (p : Place) (u : Use) (w : ℕ × ℕ) (d : Place) → use_inside base around m p ≡ some u → walked u.head u.operand ≡ some w
    → Readings.outward_inside base around m p ≡ some d → outward u.levels w.0 w.1 ≡ some d
unfolding Readings.outward_inside ◌then◌
outward_use base around m p u w d e₁ e₂ e₃ = rw (e₁, e₂) at e₃

-- the scope of a place of the member, in all views
record Scene (s s' m m' : Scope) (p : Place) (u : Use) : Type 0 where
  ls : List Level
  ls' : List Level
  before : Readings.use_in ls p.field p.at ≡ some u
  after : Readings.around p.way (level (seat s) (fields_of m')) (root s' ∷ []) ≡ some ls'
  reached : Reached p.way m (name_of s ∷ []) ls ls'

scene : (rules : RuleSet) (s : Scope) (q : Scope × ℕ) → LowScope s → resolve_inside rules [] s ≡ ok q
    → (rules' : RuleSet) (m : Scope) (r : Scope × ℕ) → LowScope m → resolve_inside rules' (root_of q.0 ∷ []) m ≡ ok r
    → (p : Place) (u : Use) → use_inside (seat s) (root s ∷ []) m p ≡ some u → Scene s q.0 m r.0 p u
unfolding use_inside
scene rules s q low e rules' (scope kind name fs) r low-m e-m p u used =
    let s₁ = then_some (Readings.around p.way (level (seat s) fs) (root s ∷ [])) _ u used in
    let R = reach p.way kind name fs (at_root rules' (root_of q.0 ∷ [])) 0 r (seat s) low-m.1 e-m (inside (framed_root rules s q low e) nowhere) s₁.0 s₁.1 in
    record {
      ls = s₁.0;
      ls' = R.0;
      before = s₁.2;
      after = R.1;
      reached = subst (λ (n : ℕ). Reached p.way (scope kind name fs) (n ∷ []) s₁.0 R.0) (root_name rules s q e) R.2;
    }

module _ (s s' m m' : Scope) (p : Place) (u : Use) (used : use_inside (seat s) (root s ∷ []) m p ≡ some u) (S : Scene s s' m m' p u) where
  abbrev D : Arrived S.ls S.ls'
  D = S.reached.at

  -- its field
  item : (i : Item) × (get_elem? (originals D.fs) p.field ≡ some i) × (get_elem? (head_of i).operands p.at ≡ some u.operand) × (head_of i ≡ u.head)
  item = Agree.use_inv (level D.w D.fs) D.ins p.field p.at u (ap (λ (v : List Level). Readings.use_in v p.field p.at) D.was ∙ S.before)

  abbrev A : Agree.At item.0 p.field 0 (declarations D.fs) D.here D.outside D.ends.k D.out
  A = Agree.at_ended D.ends p.field item.0 item.1

  low_use : LowOperand u.operand
  low_use = low_operand (head_of item.0).operands p.at u.operand A.low_head.operands item.2

  -- the operand at the same place of the output
  there_after : (x : Operand) → get_elem? A.h.operands p.at ≡ some x → (v : Use) × (use_inside (seat s) (root s' ∷ []) m' p ≡ some v) × (v.levels ≡ S.ls') × (v.operand ≡ x)
  there_after x g =
      let v : Use = record { levels = level D.w D.out ∷ D.outs; head = A.h; operand = x } in
      (v, Agree.use_is (seat s) (root s' ∷ []) m' p S.ls' v S.after (ap (λ (k : List Level). Readings.use_in k p.field p.at) (sym D.now) ∙ Agree.use_there (level D.w D.out) D.outs p.field p.at A.q.0 A.h x A.there A.head g), D.now, refl)

  means_is : (o : Operand) → u.operand ≡ o → member_means s m p ≡ Option.map meant_by (name_in u.head.code S.reached.names S.ls o)
  unfolding member_means ◌then◌
  means_is o e = rw (used, S.reached.are, Agree.use_levels S.ls p.field p.at u S.before, e)

  -- both sides for one declaration
  make : (x : Operand) → get_elem? A.h.operands p.at ≡ some x → (o : Operand) → u.operand ≡ o → (d : Place) → name_in u.head.code S.reached.names S.ls o ≡ some d → counts S.ls' x ≡ some d → Carried s s' m m' p
  make x g o e d a b =
      let T = there_after x g in
      record {
        d = meant_by d;
        means = means_is o e ∙ ap (Option.map meant_by) a;
        u = T.0;
        there = T.1;
        carried = ap (Option.map meant_by) (ap (λ (k : List Level). counts k T.0.operand) T.2 ∙ (ap (counts S.ls') T.3 ∙ b));
      }

  -- a here_only_lem name
  here_carried : (space name z : ℕ) → u.operand ≡ ref space (Id name) [] z → here_only u.head.code ≡ true → Carried s s' m m' p
  here_carried space name z e c =
      let stays : A.e.now ≡ head_of item.0 = holds_of _ _ A.e (here_kept (declarations D.fs) (seeing D.outside A.seen) A.b (head_of item.0) (ap (λ (h : Head). here_only h.code) item.3 ∙ c)) A.expands in
      let now : get_elem? A.e.now.operands p.at ≡ some (ref space (Id name) [] z) = ap (λ (h : Head). get_elem? h.operands p.at) stays ∙ (item.2 ∙ ap {B = Option Operand} some e) in
      let N = holds_of (λ (h : Head). Numbered D.here (seeing D.outside A.seen) space (Id name) [] z p.at h.operands) _ A.h (head_numbered D.here (seeing D.outside A.seen) space (Id name) [] z A.e.now p.at now) A.resolves in
      let l : LowOperand (ref space (Id name) [] z) = subst LowOperand e low_use in
      let B = meets_both (Agree.framed D.ends D.w) space name N.0 l.1 (named_number D.here.entries space name z N.0 N.1) in
      make (ref space (Num N.0) [] z) N.2 (ref space (Id name) [] z) e B.0
      (named_here S.ls S.ls' space name N.0 z B.0 u.head.code S.reached.names (level D.w D.fs) D.ins c D.was B.1)
      (counts_here S.ls S.ls' space name N.0 z B.0 (level D.w D.out) D.outs D.now B.2)

  -- the named index of an OUTER
  index_carried : (space : ℕ) (up : Index) (name z : ℕ) → u.operand ≡ outer space up (Id name) z → Carried s s' m m' p
  index_carried space up name z e =
      let outside = seeing D.outside A.seen in
      let now = holds_of _ _ A.e (head_kept (declarations D.fs) outside A.b (head_of item.0) p.at space up (Id name) z (item.2 ∙ ap {B = Option Operand} some e)) A.expands in
      let R = holds_of (λ (h : Head). Resolved D.here outside space up (Id name) z A.e.now.z p.at h.operands) _ A.h (head_resolved D.here outside space up (Id name) z A.e.now p.at now) A.resolves in
      let F = found outside.early (opened D.here outside) A.e.now.z space up name z R.0 R.1 in
      let N = seen_at (inside (pushed (Agree.framed D.ends D.w) A.seen.decls) D.frames) F.d F.e F.there in
      let l : LowOperand (outer space up (Id name) z) = subst LowOperand e low_use in
      let B = meets_both N.views space name F.n l.1.1 F.number in
      let goes : out_to S.reached.names up ≡ some F.d = ap (λ (ns : List ℕ). out_to ns up) S.reached.open_names ∙ goes_to (opened D.here outside) up A.e.now.z F.d F.goes in
      make (outer space (Num F.d) (Num F.n) z) (R.2 ∙ ap {B = Option Operand} some F.is) (outer space up (Id name) z) e B.0
      (named_index S.ls S.ls' space name F.n z B.0 u.head.code S.reached.names up F.d N.l goes (ap (λ (k : List Level). get_elem? k F.d) (sym D.was) ∙ N.before) B.1)
      (counts_index S.ls S.ls' space name F.n z B.0 F.d N.l' (ap (λ (k : List Level). get_elem? k F.d) (sym D.now) ∙ N.after) B.2)

  -- a walked name
  walked_carried : (w : ℕ × ℕ) → walked u.head u.operand ≡ some w → (d : Place) → outward S.ls w.0 w.1 ≡ some d → (v : Use) → use_inside (seat s) (root s' ∷ []) m' p ≡ some v → counting v.levels v.operand ≡ some d → Carried s s' m m' p
  unfolding name_in when◌then◌else◌
  walked_carried w e d reads v after c =
      let W = walked_ref u.head u.operand w e in
      record {
        d = meant_by d;
        means = means_is (ref w.0 (Id w.1) [] W.0) W.1 ∙ (rw W.2 (ap (Option.map meant_by) reads));
        u = v;
        there = after;
        carried = ap (Option.map meant_by) (counting_counts v.levels v.operand d c);
      }

module _ (rules : RuleSet) (s : Scope) (q : Scope × ℕ) (low : LowScope s) (e : resolve_inside rules [] s ≡ ok q)
    (rules' : RuleSet) (m : Scope) (r : Scope × ℕ) (low-m : LowScope m) (e-m : resolve_inside rules' (root_of q.0 ∷ []) m ≡ ok r)
    (p : Place) (u : Use) (used : use_inside (seat s) (root s ∷ []) m p ≡ some u) where
  abbrev here_now : Scene s q.0 m r.0 p u
  here_now = scene rules s q low e rules' m r low-m e-m p u used

  -- In an accepted member, inside an accepted prelude: a here_only_lem name,
  pub here_name : (space name z : ℕ) → u.operand ≡ ref space (Id name) [] z → here_only u.head.code ≡ true → Carried s q.0 m r.0 p
  here_name = here_carried s q.0 m r.0 p u used here_now

  -- the named index of an OUTER,
  pub outer_index : (space : ℕ) (up : Index) (name z : ℕ) → u.operand ≡ outer space up (Id name) z → Carried s q.0 m r.0 p
  outer_index = index_carried s q.0 m r.0 p u used here_now

  -- and a walked name.
  pub walked_name : (w : ℕ × ℕ) → walked u.head u.operand ≡ some w → Carried s q.0 m r.0 p
  unfolding Readings.counting_inside
  walked_name w walks =
      let T = readings_agree rules' (seat s) (inside (framed_root rules s q low e) nowhere) m r p w low-m e-m (Agree.walked_at_lem (seat s) (root s ∷ []) m p u w used walks) in
      let c = then_some (use_inside (seat s) (root q.0 ∷ []) r.0 p) _ T.0 T.2 in
      walked_carried s q.0 m r.0 p u used here_now w walks T.0
      (ap (λ (k : List Level). outward k w.0 w.1) (sym (Agree.use_levels here_now.ls p.field p.at u here_now.before)) ∙ outward_use (seat s) (root s ∷ []) m p u w T.0 used walks T.1) c.0 c.1 c.2
