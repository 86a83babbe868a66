-- What rules that ask for earlier declarations accept, rules that do not accept too, and resolve to the same.
use Rattle.std.specs.Prelude.{◌≡◌, Bool, true, false, ◌&&◌, not, ℕ, ◌+◌, eqb}
use Rattle.std.proofs.Math.Path.{refl}
use Rattle.std.proofs.Common.{ap, sym, ◌∙◌}
use Rattle.std.proofs.Math.Option.{Option, none, some}
use mathlib.Core.List.{List, [], ◌∷◌, ◌++◌}
use Rattle.std.proofs.Math.ListN.{length}
use Rattle.rules.specs.Tools.{when◌then◌else◌, is_just, is_in}
use Rattle.rules.specs.Versions.{RuleSet}
use Rattle.rules.specs.Rows.{Index, Num, Id}
use Rattle.rules.specs.Tree.{Declaration, Operand, ref, outer, case, Head, Scope, scope, Fields, end, ◌▸◌, Item, plain, holds, head_of}
use Rattle.rules.specs.Shapes.{here_only}
use Rattle.rules.specs.Rules
use Rattle.rules.specs.Rules.{Refusal, Entry, decls_in, Result, refused, ok, ◌>>=◌, Env, Outside, onward, inward, opened, at_root, declarations, expand_operand, expand_operands, expand_head, expand_fields, prepare, resolve_operands, resolve_head, resolve_inserted, resolve_scope, resolve_fields, resolve_item, resolve_inside}
use Rattle.rules.specs.Laws.ToolLaws.{false_not}
use Rattle.rules.specs.Laws.Entries.{number_is}
use Rattle.rules.specs.Laws.Results.{OkR, bind_ok, ok_then, holds_of, RefR, bind_ref, if_ref_lem, ref_of_lem}

-- the same without asking for earlier declarations
abbrev pub relaxed : Outside → Outside
relaxed o = record { early = false; before = o.before; scopes = o.scopes }

abbrev pub relaxed_rules : RuleSet → RuleSet
relaxed_rules rules = record { number = rules.number; heap = rules.heap; early = false }

-- a step gives what it gives
self : {A : Type 0} (m : Result A) → OkR (λ a. m ≡ ok a) m
self (refused why z) = tt
self (ok a) = refl

-- two steps that give the same where the first gives something
both : {A B : Type 0} (m m' : Result A) (f f' : A → Result B) → OkR (λ a. m' ≡ ok a) m → ((a : A) → OkR (λ b. f' a ≡ ok b) (f a)) → OkR (λ b. (m' >>= f') ≡ ok b) (m >>= f)
both {A = A} {B = B} m m' f f' p q = bind_ok (λ a. m' ≡ ok a) (λ b. (m' >>= f') ≡ ok b) m f p (λ a e. step a e (f a) (q a))
  where
    step : (a : A) → m' ≡ ok a → (n : Result B) → OkR (λ b. f' a ≡ ok b) n → OkR (λ b. (m' >>= f') ≡ ok b) n
    step a e (refused why z) r = tt
    step a e (ok b) r = ok_then m' f' a b e r

if_same : {A : Type 0} (c : Bool) (x : Result A) (m m' : Result A) → OkR (λ a. m' ≡ ok a) m → OkR (λ a. (when c then x else m') ≡ ok a) (when c then x else m)
unfolding when◌then◌else◌
if_same true x m m' p = self x
if_same false x m m' p = p

-- what is in time either way
timely : (b b' : Bool) (z : ℕ) → b' ≡ false → OkR (λ (u : Unit {0}). Rules.in_time b' z ≡ ok u) (Rules.in_time b z)
unfolding Rules.in_time when◌then◌else◌
timely true b' z e = tt
timely false b' z e = rw e

-- ---- step B

module _ (ds : List Declaration) (o : Outside) where
  not_late : (space name : ℕ) → Rules.late_name ds (relaxed o) space name ≡ false
  unfolding Rules.late_name
  not_late space name = refl

  operand_same : (k : ℕ) (x : Operand) → OkR (λ e. expand_operand ds (relaxed o) k x ≡ ok e) (expand_operand ds o k x)
  unfolding expand_operand
  operand_same k (ref space (Num n) [] z) = refl
  operand_same k (ref space (Id name) [] z) = both _ _ _ _ (timely _ _ z (not_late space name)) (λ u.
      self (when is_just (Rules.find ds space name) then ok (Rules.as_it_is (ref space (Id name) [] z) k) else Rules.found_at space name z k (Rules.walk o.scopes 1 space name)))
  operand_same k (ref space at (p ∷ ps) z) =
      self (when is_in space (4 ∷ 6 ∷ []) then refused Rules.not_exported z else ok (Rules.through space z (k + length ps) (Rules.path_aliases space at p ps z k)))
  operand_same k (outer space up at z) = refl
  operand_same k (case name z) = refl

  operands_same : (k : ℕ) (os : List Operand) → OkR (λ e. expand_operands ds (relaxed o) k os ≡ ok e) (expand_operands ds o k os)
  unfolding expand_operands
  operands_same k [] = refl
  operands_same k (x ∷ os) = both _ _ _ _ (operand_same k x) (λ e. both _ _ _ _ (operands_same e.k os) (λ es. refl))

  head_same : (k : ℕ) (h : Head) → OkR (λ e. expand_head ds (relaxed o) k h ≡ ok e) (expand_head ds o k h)
  unfolding expand_head
  head_same k h = if_same (here_only h.code) _ _ _ (both _ _ _ _ (operands_same k h.operands) (λ e. refl))

fields_same : (ds : List Declaration) (o : Outside) (k : ℕ) (fs : Fields) → OkR (λ t. expand_fields ds (relaxed o) k fs ≡ ok t) (expand_fields ds o k fs)
unfolding expand_fields
fields_same ds o k end = refl
fields_same ds o k (i ▸ fs) = both _ _ _ _ (head_same ds o k (head_of i)) (λ e. both _ _ _ _ (fields_same ds (onward i o) e.k fs) (λ r. refl))

prepare_same : (name : ℕ) (fs : Fields) (o : Outside) (k : ℕ) → OkR (λ p. prepare name fs (relaxed o) k ≡ ok p) (prepare name fs o k)
unfolding prepare
prepare_same name fs o k = both _ _ _ _ (self (Rules.distinct [] (declarations fs))) (λ here. both _ _ _ _ (fields_same here o k fs) (λ r. refl))

-- ---- step C

index_free : (e : Env) (space : ℕ) (at : Index) → Rules.late_index false e space at ≡ false
unfolding Rules.late_index
index_free e space (Num n) = refl
index_free e space (Id name) = refl

numbers_same : (early : Bool) (envs : List Env) (fz space : ℕ) (up at : Index) (z : ℕ) → OkR (λ x. Rules.outer_numbers false envs fz space up at z ≡ ok x) (Rules.outer_numbers early envs fz space up at z)
unfolding Rules.outer_numbers
numbers_same early envs fz space up at z =
    both _ _ _ _ (self (Rules.up_number envs up fz)) (λ d. both _ _ _ _ (self (Rules.or_refused (Rules.nth envs d) Rules.too_far fz)) (λ e.
    both _ _ _ _ (timely _ _ z (index_free e space at)) (λ u. both _ _ _ _ (self (Rules.number_in e.entries space at z)) (λ n. refl))))

outer_same : (early : Bool) (envs : List Env) (fz space : ℕ) (up at : Index) (z : ℕ) → OkR (λ x. Rules.resolve_outer false envs fz space up at z ≡ ok x) (Rules.resolve_outer early envs fz space up at z)
unfolding Rules.resolve_outer
outer_same early envs fz space (Num d) (Num n) z = refl
outer_same early envs fz space (Num d) (Id name) z = numbers_same early envs fz space (Num d) (Id name) z
outer_same early envs fz space (Id name) at z = numbers_same early envs fz space (Id name) at z

module _ (here : Env) (o : Outside) where
  resolved_same : (fz : ℕ) (seen : List ℕ) (os : List Operand) → OkR (λ os'. resolve_operands here (relaxed o) fz seen os ≡ ok os') (resolve_operands here o fz seen os)
  unfolding resolve_operands
  resolved_same fz seen [] = refl
  resolved_same fz seen (ref space at paths z ∷ os) = both _ _ _ _ (self (Rules.number_in here.entries space at z)) (λ n. both _ _ _ _ (resolved_same fz seen os) (λ os'. refl))
  resolved_same fz seen (outer space up at z ∷ os) = both _ _ _ _ (outer_same o.early (opened here o) fz space up at z) (λ x. both _ _ _ _ (resolved_same fz seen os) (λ os'. refl))
  resolved_same fz seen (case name z ∷ os) = if_same (not (eqb name 0) && is_in name seen) _ _ _ (both _ _ _ _ (resolved_same fz (name ∷ seen) os) (λ os'. refl))

  field_same : (h : Head) → OkR (λ h'. resolve_head here (relaxed o) h ≡ ok h') (resolve_head here o h)
  unfolding resolve_head
  field_same h = both _ _ _ _ (resolved_same h.z [] h.operands) (λ os. refl)

  instance_free : (os : List Operand) → Rules.late_instance here (relaxed o) os ≡ false
  unfolding Rules.late_instance
  instance_free [] = refl
  instance_free (ref space (Num n) paths z ∷ os) = refl
  instance_free (ref space (Id name) paths z ∷ os) = refl
  instance_free (outer space up at z ∷ os) = refl
  instance_free (case name z ∷ os) = refl

  inserted_same : (hs : List Head) → OkR (λ hs'. resolve_inserted here (relaxed o) hs ≡ ok hs') (resolve_inserted here o hs)
  unfolding resolve_inserted
  inserted_same [] = refl
  inserted_same (h ∷ hs) = both _ _ _ _ (timely _ _ h.z (instance_free h.operands)) (λ u. both _ _ _ _ (field_same h) (λ h'. both _ _ _ _ (inserted_same hs) (λ hs'. refl)))

mutual
  unfolding resolve_scope

  scope_same : (s : Scope) (o : Outside) (k : ℕ) → OkR (λ r. resolve_scope s (relaxed o) k ≡ ok r) (resolve_scope s o k)
  scope_same (scope kind name fs) o k = both _ _ _ _ (prepare_same name fs o k) (λ e. both _ _ _ _ (all_same_lem fs (declarations fs) e.0 o k e.1) (λ r. refl))

  all_same_lem : (fs : Fields) (ds : List Declaration) (here : Env) (o : Outside) (b k : ℕ) → OkR (λ r. resolve_fields fs ds here (relaxed o) b k ≡ ok r) (resolve_fields fs ds here o b k)
  all_same_lem end ds here o b k = refl
  all_same_lem (i ▸ fs) ds here o b k =
      both _ _ _ _ (head_same ds o b (head_of i)) (λ e.
      both _ _ _ _ (inserted_same here o e.inserted) (λ new.
      both _ _ _ _ (field_same here o e.now) (λ h.
      both _ _ _ _ (item_same i h here o k) (λ q.
      both _ _ _ _ (all_same_lem fs ds here (onward i o) e.k q.1) (λ rs. refl)))))

  item_same : (i : Item) (h : Head) (here : Env) (o : Outside) (k : ℕ) → OkR (λ q. resolve_item i h here (relaxed o) k ≡ ok q) (resolve_item i h here o k)
  item_same (plain h₀) h here o k = refl
  item_same (holds h₀ s) h here o k = both _ _ _ _ (scope_same s (inward h₀ here o) k) (λ r. refl)

-- A tree that is accepted is accepted, with the same output, where declarations need not stand earlier.
pub stricter : (rules : RuleSet) (around : List Env) (s : Scope) (r : Scope × ℕ) → resolve_inside rules around s ≡ ok r → resolve_inside (relaxed_rules rules) around s ≡ ok r
stricter rules around s r e = holds_of _ _ r (scope_same s (at_root rules around) 0) e

-- ---- and there refusal 13 does not come up

abbrev NotLate : Refusal → ℕ → Type 0
NotLate (Rules.twice space first) z = Unit {0}
NotLate Rules.not_exported z = Unit {0}
NotLate (Rules.not_outer space) z = Unit {0}
NotLate (Rules.unknown space) z = Unit {0}
NotLate Rules.no_such_scope z = Unit {0}
NotLate Rules.too_far z = Unit {0}
NotLate Rules.case_twice z = Unit {0}
NotLate Rules.not_earlier z = ⊥

abbrev Other : {A : Type 0} → Result A → Type 0
Other m = RefR NotLate m

free_time : (late : Bool) (z : ℕ) → late ≡ false → Other (Rules.in_time late z)
unfolding Rules.in_time when◌then◌else◌
free_time true z e = false_not (sym e)
free_time false z e = tt

or_other : {A : Type 0} (x : Option A) (why : Refusal) (z : ℕ) → NotLate why z → Other (Rules.or_refused x why z)
unfolding Rules.or_refused
or_other none why z h = h
or_other (some a) why z h = tt

distinct_other : (seen ds : List Declaration) → Other (Rules.distinct seen ds)
unfolding Rules.distinct
distinct_other seen [] = tt
distinct_other seen (d ∷ ds) = if_ref_lem NotLate _ _ _ tt (distinct_other (seen ++ (d ∷ [])) ds)

found_other : (space name z k : ℕ) (x : Option (ℕ × ℕ)) → Other (Rules.found_at space name z k x)
unfolding Rules.found_at
found_other space name z k none = tt
found_other space name z k (some at) = if_ref_lem NotLate _ _ _ tt tt

module _ (ds : List Declaration) (o : Outside) where
  operand_other : (k : ℕ) (x : Operand) → Other (expand_operand ds (relaxed o) k x)
  unfolding expand_operand
  operand_other k (ref space (Num n) [] z) = tt
  operand_other k (ref space (Id name) [] z) = bind_ref _ _ _ (free_time _ z (not_late ds o space name)) (λ u _. if_ref_lem NotLate _ _ _ tt (found_other space name z k _))
  operand_other k (ref space at (p ∷ ps) z) = if_ref_lem NotLate _ _ _ tt tt
  operand_other k (outer space up at z) = tt
  operand_other k (case name z) = tt

  operands_other : (k : ℕ) (os : List Operand) → Other (expand_operands ds (relaxed o) k os)
  unfolding expand_operands
  operands_other k [] = tt
  operands_other k (x ∷ os) = bind_ref _ _ _ (operand_other k x) (λ e _. bind_ref _ _ _ (operands_other e.k os) (λ es _. tt))

  head_other : (k : ℕ) (h : Head) → Other (expand_head ds (relaxed o) k h)
  unfolding expand_head
  head_other k h = if_ref_lem NotLate _ _ _ tt (bind_ref _ _ _ (operands_other k h.operands) (λ e _. tt))

fields_other : (ds : List Declaration) (o : Outside) (k : ℕ) (fs : Fields) → Other (expand_fields ds (relaxed o) k fs)
unfolding expand_fields
fields_other ds o k end = tt
fields_other ds o k (i ▸ fs) = bind_ref _ _ _ (head_other ds o k (head_of i)) (λ e _. bind_ref _ _ _ (fields_other ds (onward i o) e.k fs) (λ r _. tt))

prepare_other : (name : ℕ) (fs : Fields) (o : Outside) (k : ℕ) → Other (prepare name fs (relaxed o) k)
unfolding prepare
prepare_other name fs o k = bind_ref _ _ _ (distinct_other [] (declarations fs)) (λ here _. bind_ref _ _ _ (fields_other here o k fs) (λ r _. tt))

number_other : (es : List Entry) (space : ℕ) (at : Index) (z : ℕ) → Other (Rules.number_in es space at z)
number_other es space (Num n) z = unfold Rules.number_in in tt
number_other es space (Id name) z = rw (number_is es space name z) (or_other (Rules.find (decls_in es) space name) (Rules.unknown space) z tt)

up_other : (envs : List Env) (up : Index) (z : ℕ) → Other (Rules.up_number envs up z)
unfolding Rules.up_number
up_other envs (Num n) z = tt
up_other envs (Id name) z = or_other (Rules.named envs name) Rules.no_such_scope z tt

numbers_other : (envs : List Env) (fz space : ℕ) (up at : Index) (z : ℕ) → Other (Rules.outer_numbers false envs fz space up at z)
unfolding Rules.outer_numbers
numbers_other envs fz space up at z =
    bind_ref _ _ _ (up_other envs up fz) (λ d _. bind_ref _ _ _ (or_other (Rules.nth envs d) Rules.too_far fz tt) (λ e _.
    bind_ref _ _ _ (free_time _ z (index_free e space at)) (λ u _. bind_ref _ _ _ (number_other e.entries space at z) (λ n _. tt))))

outer_other : (envs : List Env) (fz space : ℕ) (up at : Index) (z : ℕ) → Other (Rules.resolve_outer false envs fz space up at z)
unfolding Rules.resolve_outer
outer_other envs fz space (Num d) (Num n) z = tt
outer_other envs fz space (Num d) (Id name) z = numbers_other envs fz space (Num d) (Id name) z
outer_other envs fz space (Id name) at z = numbers_other envs fz space (Id name) at z

module _ (here : Env) (o : Outside) where
  resolved_other : (fz : ℕ) (seen : List ℕ) (os : List Operand) → Other (resolve_operands here (relaxed o) fz seen os)
  unfolding resolve_operands
  resolved_other fz seen [] = tt
  resolved_other fz seen (ref space at paths z ∷ os) = bind_ref _ _ _ (number_other here.entries space at z) (λ n _. bind_ref _ _ _ (resolved_other fz seen os) (λ os' _. tt))
  resolved_other fz seen (outer space up at z ∷ os) = bind_ref _ _ _ (outer_other (opened here o) fz space up at z) (λ x _. bind_ref _ _ _ (resolved_other fz seen os) (λ os' _. tt))
  resolved_other fz seen (case name z ∷ os) = if_ref_lem NotLate _ _ _ tt (bind_ref _ _ _ (resolved_other fz (name ∷ seen) os) (λ os' _. tt))

  field_other : (h : Head) → Other (resolve_head here (relaxed o) h)
  unfolding resolve_head
  field_other h = bind_ref _ _ _ (resolved_other h.z [] h.operands) (λ os _. tt)

  inserted_other : (hs : List Head) → Other (resolve_inserted here (relaxed o) hs)
  unfolding resolve_inserted
  inserted_other [] = tt
  inserted_other (h ∷ hs) =
      bind_ref _ _ _ (free_time _ h.z (instance_free here o h.operands)) (λ u _. bind_ref _ _ _ (field_other h) (λ h' _. bind_ref _ _ _ (inserted_other hs) (λ hs' _. tt)))

mutual
  unfolding resolve_scope

  scope_other : (s : Scope) (o : Outside) (k : ℕ) → Other (resolve_scope s (relaxed o) k)
  scope_other (scope kind name fs) o k = bind_ref _ _ _ (prepare_other name fs o k) (λ e _. bind_ref _ _ _ (all_other fs (declarations fs) e.0 o k e.1) (λ r _. tt))

  all_other : (fs : Fields) (ds : List Declaration) (here : Env) (o : Outside) (b k : ℕ) → Other (resolve_fields fs ds here (relaxed o) b k)
  all_other end ds here o b k = tt
  all_other (i ▸ fs) ds here o b k =
      bind_ref _ _ _ (head_other ds o b (head_of i)) (λ e _.
      bind_ref _ _ _ (inserted_other here o e.inserted) (λ new _.
      bind_ref _ _ _ (field_other here o e.now) (λ h _.
      bind_ref _ _ _ (item_other i h here o k) (λ q _.
      bind_ref _ _ _ (all_other fs ds here (onward i o) e.k q.1) (λ rs _. tt)))))

  item_other : (i : Item) (h : Head) (here : Env) (o : Outside) (k : ℕ) → Other (resolve_item i h here (relaxed o) k)
  item_other (plain h₀) h here o k = tt
  item_other (holds h₀ s) h here o k = bind_ref _ _ _ (scope_other s (inward h₀ here o) k) (λ r _. tt)

-- Where declarations need not stand earlier, no run is refused with 13.
pub never_late : (rules : RuleSet) (around : List Env) (s : Scope) (z : ℕ) → rules.early ≡ false → ¬ (resolve_inside rules around s ≡ refused Rules.not_earlier z)
never_late rules around s z e q =
    ref_of_lem NotLate (resolve_scope s (relaxed (at_root rules around)) 0) Rules.not_earlier z (scope_other s (at_root rules around) 0)
    (ap (λ (b : Bool). resolve_scope s (record { early = b; before = record { row = 1; decls = [] }; scopes = around }) 0) (sym e) ∙ q)
