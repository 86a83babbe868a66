-- Refusals 9 and 13 stand at the place of an operand. If that is a walked name, no scope around it declares it, or the nearest that does
-- declares it in a field that is not earlier.
use Rattle.std.proofs.Math.Path.{◌≡◌, refl, ap, sym}
use Rattle.std.proofs.Common.{◌∙◌, subst, arith}
use Rattle.std.specs.Prelude.{Bool, ◌&&◌, eqb, take}
use Rattle.std.proofs.Math.Bool.{true, false, not}
use Rattle.std.proofs.Math.Option.{Option, none, some}
use mathlib.Core.List.{List, [], ◌∷◌, ◌++◌, append_assoc, append-nil}
use Prim.Native.Nat.{ℕ, zero, suc, ◌≤◌}
use Rattle.std.proofs.Math.ListN.{get_elem?}
use Rattle.rules.specs.Tools.{when◌then◌else◌, ◌then◌, is_in}
use Rattle.rules.specs.Versions.{RuleSet, top_name}
use Rattle.rules.specs.Rows.{Index, Num, Id}
use Rattle.rules.specs.Tree.{Declaration, Operand, ref, outer, case, Head, Scope, scope, Fields, end, ◌▸◌, Item, plain, holds, head_of, with_operands}
use Rattle.rules.specs.Rules
use Rattle.rules.specs.Rules.{decls_in, Entry, table_of, Before, opened, not_outer, not_exported, twice, not_earlier, case_twice, too_far, no_such_scope, unknown, Refusal, expand_fields, refused, ok, ◌>>=◌, Env, Outside, onward, at_root, inward, find, Expanded, expand_operand, expand_operands, expand_head, path_aliases, declarations, prepare, resolve_operands, resolve_head, resolve_inserted, resolve_scope, resolve_fields, resolve_item, resolve_inside}
use Rattle.rules.specs.Readings
use Rattle.rules.specs.Readings.{originals, Place, Level, level, Use, walked, outward, place_from}
use Rattle.rules.proofs.Laws.Meaning.Runs.{seeing}
use Rattle.rules.specs.Laws.ToolLaws.{false_not, and_left, and_right, not-true}
use Rattle.rules.specs.Laws.Meaning.Names.{LowScope, LowFields, LowItem}
use Rattle.rules.proofs.Laws.Meaning.Runs
use Rattle.rules.proofs.Laws.Meaning.Lookups
use Rattle.rules.proofs.Laws.Meaning.StepB.{walked_ref, low_operand}
use Rattle.rules.proofs.Laws.Meaning.StepC
use Rattle.rules.proofs.Laws.Meaning.Frames.{Frames}
use Rattle.rules.proofs.Laws.Meaning.Agree
use Rattle.rules.proofs.Laws.Meaning.Turns.{Comes, at_once, past, Turn, own, further, lookup, place_of}
use Rattle.rules.proofs.Laws.Meaning.Unknown
use Rattle.rules.proofs.Laws.Meaning.Early
use Rattle.rules.proofs.Laws.Meaning.Early.{firsts, comes_seen, Enters, this}
use Rattle.rules.specs.Laws.Entries.{number_is}
use Rattle.rules.specs.Laws.Results.{if_ref_lem, bind_any, ok_then, Is, not_refused, if_both, bind_ref, RefR, OkR, holds_of, bind_ok, ref_of_lem, some_same, ref_weaker, no_option, self_ref}

-- ---- the operand that an inserted field stands for

-- an operand that is no walked name in any field
abbrev Other : Operand → Type 0
Other o = (h : Head) → walked h o ≡ none

path_other : (space : ℕ) (at : Index) (p : ℕ) (ps : List ℕ) (z : ℕ) → Other (ref space at (p ∷ ps) z)
unfolding walked
path_other space (Num n) p ps z h = refl
path_other space (Id name) p ps z h = refl

outer_other : (space : ℕ) (up at : Index) (z : ℕ) → Other (outer space up at z)
unfolding walked
outer_other space up at z h = refl

number_at : (es : List Entry) (space : ℕ) (at : Index) (z : ℕ) → RefR (λ n z'. z ≡ z') (Rules.number_in es space at z)
unfolding Rules.or_refused
number_at es space (Num n) z = unfold Rules.number_in in tt
number_at es space (Id name) z = rw (number_is es space name z) (go (find (decls_in es) space name))
  where
    go : (o : Option ℕ) → RefR (λ n z'. z ≡ z') (Rules.or_refused o (unknown space) z)
    go none = refl
    go (some n) = tt

-- the refusals that stand at an operand's place because of a name
data Blamable : Refusal → Type 0 where
  nine : (space : ℕ) → Blamable (unknown space)
  thirteen : Blamable not_earlier

not_named : {m : Refusal} → Blamable m → ¬ (no_such_scope ≡ m)
not_named (nine space) e = let c : ◌≡◌ {A = ℕ} 0 1 = cc in omega arith
not_named thirteen e = let c : ◌≡◌ {A = ℕ} 0 1 = cc in omega arith

not_open_lem : {m : Refusal} → Blamable m → ¬ (too_far ≡ m)
not_open_lem (nine space) e = let c : ◌≡◌ {A = ℕ} 0 1 = cc in omega arith
not_open_lem thirteen e = let c : ◌≡◌ {A = ℕ} 0 1 = cc in omega arith

not_case : {m : Refusal} → Blamable m → ¬ (case_twice ≡ m)
not_case (nine space) e = let c : ◌≡◌ {A = ℕ} 0 1 = cc in omega arith
not_case thirteen e = let c : ◌≡◌ {A = ℕ} 0 1 = cc in omega arith

not_six : {m : Refusal} {space first : ℕ} → Blamable m → ¬ (twice space first ≡ m)
not_six (nine space) e = let c : ◌≡◌ {A = ℕ} 0 1 = cc in omega arith
not_six thirteen e = let c : ◌≡◌ {A = ℕ} 0 1 = cc in omega arith

not_seven : {m : Refusal} → Blamable m → ¬ (not_exported ≡ m)
not_seven (nine space) e = let c : ◌≡◌ {A = ℕ} 0 1 = cc in omega arith
not_seven thirteen e = let c : ◌≡◌ {A = ℕ} 0 1 = cc in omega arith

not_eight : {m : Refusal} {space : ℕ} → Blamable m → ¬ (not_outer space ≡ m)
not_eight (nine space) e = let c : ◌≡◌ {A = ℕ} 0 1 = cc in omega arith
not_eight thirteen e = let c : ◌≡◌ {A = ℕ} 0 1 = cc in omega arith

time_at : (late : Bool) (z : ℕ) → RefR (λ n z'. z ≡ z') (Rules.in_time late z)
unfolding Rules.in_time
time_at late z = if_ref_lem (λ n z'. z ≡ z') late _ _ refl tt

module _ (m : Refusal) (M : Blamable m) where
  other_number : {A : Type 0} (Q : ℕ → Type 0) (o : Option A) (n : Refusal) (z : ℕ) → ¬ (n ≡ m) → RefR (Is m Q) (Rules.or_refused o n z)
  unfolding Rules.or_refused
  other_number Q none n z h = λ e. absurd (h e)
  other_number Q (some a) n z h = tt

  up_at : (Q : ℕ → Type 0) (es : List Env) (up : Index) (fz : ℕ) → RefR (Is m Q) (Rules.up_number es up fz)
  unfolding Rules.up_number
  up_at Q es (Num n) fz = tt
  up_at Q es (Id name) fz = other_number Q (Rules.named es name) no_such_scope fz (not_named M)

  outer_numbers_at : (early : Bool) (es : List Env) (fz space : ℕ) (up at : Index) (z : ℕ) → RefR (Is m (λ p. z ≡ p)) (Rules.outer_numbers early es fz space up at z)
  unfolding Rules.outer_numbers
  outer_numbers_at early es fz space up at z =
      bind_ref _ _ _ (up_at (λ p. z ≡ p) (es) up fz)
      (λ d _. bind_ref _ _ _ (other_number (λ p. z ≡ p) (Rules.nth (es) d) too_far fz (not_open_lem M))
      (λ e _. bind_ref _ _ _ (ref_weaker (λ n p. z ≡ p) (Is m (λ p. z ≡ p)) (Rules.in_time (Rules.late_index (early) e space at) z) (time_at _ z) (λ n p _ q _. q))
      (λ u _. bind_ref _ _ _ (ref_weaker (λ n p. z ≡ p) (Is m (λ p. z ≡ p)) (Rules.number_in e.entries space at z) (number_at e.entries space at z) (λ n p _ q _. q)) (λ n _. tt))))

  outer_name_at : (early : Bool) (es : List Env) (fz space : ℕ) (up at : Index) (z : ℕ) → RefR (Is m (λ p. z ≡ p)) (Rules.resolve_outer early es fz space up at z)
  unfolding Rules.resolve_outer
  outer_name_at early es fz space (Num d) (Num n) z = tt
  outer_name_at early es fz space (Num d) (Id name) z = outer_numbers_at early es fz space (Num d) (Id name) z
  outer_name_at early es fz space (Id name) at z = outer_numbers_at early es fz space (Id name) at z

  module _ (here : Env) (outside : Outside) where
    abbrev AllRef : (P : Refusal → ℕ → Type 0) → List Head → Type 0
    AllRef P [] = Unit {0}
    AllRef P (h ∷ hs) = RefR P (Rules.in_time (Rules.late_instance here outside h.operands) h.z) × RefR P (resolve_head here outside h) × AllRef P hs

    all_append : (P : Refusal → ℕ → Type 0) (xs ys : List Head) → AllRef P xs → AllRef P ys → AllRef P (xs ++ ys)
    all_append P [] ys p q = q
    all_append P (x ∷ xs) ys p q = (p.0, p.1, all_append P xs ys p.2 q)

    all_weaker : (P Q : Refusal → ℕ → Type 0) (hs : List Head) → AllRef P hs → ((n : Refusal) (z : ℕ) → P n z → Q n z) → AllRef Q hs
    all_weaker P Q [] p g = tt
    all_weaker P Q (h ∷ hs) p g = (ref_weaker P Q (Rules.in_time _ h.z) p.0 (λ n z _. g n z), ref_weaker P Q (resolve_head here outside h) p.1 (λ n z _. g n z), all_weaker P Q hs p.2 g)

    all_inserted : (P : Refusal → ℕ → Type 0) (hs : List Head) → AllRef P hs → RefR P (resolve_inserted here outside hs)
    unfolding resolve_inserted
    all_inserted P [] p = tt
    all_inserted P (h ∷ hs) p = bind_ref P _ _ p.0 (λ u _. bind_ref P _ _ p.1 (λ h' _. bind_ref P _ _ (all_inserted P hs p.2) (λ hs' _. tt)))

    alias_at : (code space new from : ℕ) (at : Index) (name z : ℕ) → RefR (λ n z'. z ≡ z') (resolve_head here outside (Rules.export_alias code space new from at name z))
    unfolding resolve_head resolve_operands Rules.export_alias
    alias_at code space new from at name z = bind_ref _ _ _ (bind_ref _ _ _ (number_at here.entries from at z) (λ n _. bind_ref _ (ok []) _ tt (λ os _. tt))) (λ os _. tt)

    alias_time : (code space new from : ℕ) (at : Index) (name z : ℕ)
        → RefR (λ n z'. z ≡ z') (Rules.in_time (Rules.late_instance here outside (Rules.export_alias code space new from at name z).operands) (Rules.export_alias code space new from at name z).z)
    unfolding Rules.export_alias
    alias_time code space new from at name z = time_at _ z

    paths_at : (space : ℕ) (at : Index) (p : ℕ) (ps : List ℕ) (z k : ℕ) → AllRef (λ n z'. z ≡ z') (path_aliases space at p ps z k)
    unfolding path_aliases
    paths_at space at p [] z k = if_both (λ (h : Head). AllRef (λ n z'. z ≡ z') (h ∷ [])) _ _ _ (alias_time 10 space _ 6 at p z, alias_at 10 space _ 6 at p z, tt) (alias_time 9 space _ 10 at p z, alias_at 9 space _ 10 at p z, tt)
    paths_at space at p (q ∷ ps) z k = (alias_time 9 10 _ 10 at p z, alias_at 9 10 _ 10 at p z, paths_at space (Id (Rules.fresh k)) q ps z (suc k))

    outer_at_lem : (P : Refusal → ℕ → Type 0) (space new d n z : ℕ) → RefR P (resolve_head here outside (Rules.outer_alias space new d n z))
    outer_at_lem P space new d n z = self_ref P _ (λ m p e. not_refused _ m p (sym (StepC.alias_resolved here outside space new d n z) ∙ e))

    outer_time : (P : Refusal → ℕ → Type 0) (space new d n z : ℕ)
        → RefR P (Rules.in_time (Rules.late_instance here outside (Rules.outer_alias space new d n z).operands) (Rules.outer_alias space new d n z).z)
    unfolding Rules.outer_alias Rules.late_instance Rules.in_time when◌then◌else◌
    outer_time P space new d n z = tt

    -- an inserted field is refused only at an operand with PATHs
    abbrev ByPath : Operand → Refusal → ℕ → Type 0
    ByPath o n z = (place_of o ≡ z) × Other o

    found_by_lem : (space name z k : ℕ) (o : Option (ℕ × ℕ)) → OkR (λ e. AllRef (ByPath (ref space (Id name) [] z)) e.inserted) (Rules.found_at space name z k o)
    unfolding Rules.found_at Rules.as_it_is Rules.through
    found_by_lem space name z k none = tt
    found_by_lem space name z k (some at) = if_both (OkR _) _ _ _ (outer_time _ space _ at.0 at.1 z, outer_at_lem _ space _ at.0 at.1 z, tt) tt

    operand_by : (ds : List Declaration) (k : ℕ) (o : Operand) → OkR (λ e. AllRef (ByPath o) e.inserted) (expand_operand ds outside k o)
    unfolding expand_operand Rules.as_it_is Rules.through
    operand_by ds k (ref space (Num n) [] z) = tt
    operand_by ds k (ref space (Id name) [] z) = bind_any _ _ _ (λ u. if_both (OkR _) _ _ _ tt (found_by_lem space name z k _))
    operand_by ds k (ref space at (p ∷ ps) z) = if_both (OkR _) _ _ _ tt (all_weaker (λ n z'. z ≡ z') (ByPath (ref space at (p ∷ ps) z)) (path_aliases space at p ps z k) (paths_at space at p ps z k) (λ n z e. (e, path_other space at p ps _)))
    operand_by ds k (outer space up at z) = tt
    operand_by ds k (case name z) = tt

    -- one of these operands
    abbrev OneOf : List Operand → Refusal → ℕ → Type 0
    OneOf os n z = (o : ℕ) × (op : Operand) × (get_elem? os o ≡ some op) × (place_of op ≡ z) × Other op

    operands_by : (ds : List Declaration) (k : ℕ) (os : List Operand) → OkR (λ e. AllRef (OneOf os) e.inserted) (expand_operands ds outside k os)
    unfolding expand_operands Rules.as_it_is
    operands_by ds k [] = tt
    operands_by ds k (o ∷ os) = bind_ok _ _ _ _ (operand_by ds k o) (λ e a. bind_ok _ _ _ _ (operands_by ds e.k os) (λ es b.
        all_append (OneOf (o ∷ os)) e.inserted es.inserted
        (all_weaker (ByPath o) (OneOf (o ∷ os)) e.inserted a (λ n z p. (0, o, refl, p.0, p.1)))
        (all_weaker (OneOf os) (OneOf (o ∷ os)) es.inserted b (λ n z p. (suc p.0, p.1, p.2, p.3, p.4)))))

    head_by_lem : (ds : List Declaration) (k : ℕ) (h : Head) → OkR (λ e. AllRef (OneOf h.operands) e.inserted) (expand_head ds outside k h)
    unfolding expand_head Rules.as_it_is
    head_by_lem ds k h = if_both (OkR _) _ _ _ tt (bind_ok _ _ _ _ (operands_by ds k h.operands) (λ e a. a))

    -- ---- the operand at which step C refuses a field

    data Cause (now : Operand) (z : ℕ) : Type 0 where
      looked : lookup here now ≡ refused m z → Cause now z
      counted_out_lem : (space : ℕ) (up at : Index) → now ≡ outer space up at z → Cause now z

    record Stopped (fz : ℕ) (seen : List ℕ) (os : List Operand) (z : ℕ) : Type 0 where
      o : ℕ
      done : List Operand
      now : Operand
      passed : resolve_operands here outside fz seen (take o os) ≡ ok done
      there : get_elem? os o ≡ some now
      cause : Cause now z

    operands_stop : (fz : ℕ) (seen : List ℕ) (os : List Operand) → RefR (Is m (Stopped fz seen os)) (resolve_operands here outside fz seen os)
    unfolding resolve_operands when◌then◌else◌
    operands_stop fz seen [] = tt
    operands_stop fz seen (ref space at paths z ∷ os) =
        bind_ref _ _ _
        (self_ref _ (Rules.number_in here.entries space at z) (λ n p e nine.
        record { o = 0; done = []; now = ref space at paths z; passed = refl; there = refl; cause = looked (rw nine at e) }))
        (λ n en. bind_ref _ _ _
        (ref_weaker _ (Is m (Stopped fz seen (ref space at paths z ∷ os))) (resolve_operands here outside fz seen os) (operands_stop fz seen os) (λ m p _ f nine.
        let S = f nine in
        record {
          o = suc S.o;
          done = ref space (Num n) paths z ∷ S.done;
          now = S.now;
          passed = ok_then (Rules.number_in here.entries space at z) _ n _ en (ok_then (resolve_operands here outside fz seen (take S.o os)) _ S.done _ S.passed refl);
          there = S.there;
          cause = S.cause;
        })) (λ os' _. tt))
    operands_stop fz seen (outer space up at z ∷ os) =
        bind_ref _ _ _
        (ref_weaker _ (Is m (Stopped fz seen (outer space up at z ∷ os))) (Rules.resolve_outer outside.early (opened here outside) fz space up at z) (outer_name_at outside.early (opened here outside) fz space up at z) (λ m p _ f nine.
        record { o = 0; done = []; now = outer space up at z; passed = refl; there = refl; cause = counted_out_lem space up at (ap (outer space up at) (f nine)) }))
        (λ o eo. bind_ref _ _ _
        (ref_weaker _ (Is m (Stopped fz seen (outer space up at z ∷ os))) (resolve_operands here outside fz seen os) (operands_stop fz seen os) (λ m p _ f nine.
        let S = f nine in
        record {
          o = suc S.o;
          done = o ∷ S.done;
          now = S.now;
          passed = ok_then (Rules.resolve_outer outside.early (opened here outside) fz space up at z) _ o _ eo (ok_then (resolve_operands here outside fz seen (take S.o os)) _ S.done _ S.passed refl);
          there = S.there;
          cause = S.cause;
        })) (λ os' _. tt))
    operands_stop fz seen (case name z ∷ os) = go (not (eqb name 0) && is_in name seen) refl (operands_stop fz (name ∷ seen) os)
      where
        go : (b : Bool) → not (eqb name 0) && is_in name seen ≡ b → RefR (Is m (Stopped fz (name ∷ seen) os)) (resolve_operands here outside fz (name ∷ seen) os)
            → RefR (Is m (Stopped fz seen (case name z ∷ os))) (when b then refused case_twice z else (resolve_operands here outside fz (name ∷ seen) os >>= λ os'. ok (case name z ∷ os')))
        go true eb f = λ nine. absurd (not_case M nine)
        go false eb f = bind_ref _ _ _
            (ref_weaker _ (Is m (Stopped fz seen (case name z ∷ os))) (resolve_operands here outside fz (name ∷ seen) os) f (λ m p _ f nine.
            let S = f nine in
            record {
              o = suc S.o;
              done = case name z ∷ S.done;
              now = S.now;
              passed = rw eb (ok_then (resolve_operands here outside fz (name ∷ seen) (take S.o os)) _ S.done _ S.passed refl);
              there = S.there;
              cause = S.cause;
            })) (λ os' _. tt)

    head_stop : (h : Head) → RefR (Is m (Stopped h.z [] h.operands)) (resolve_head here outside h)
    unfolding resolve_head
    head_stop h = bind_ref _ _ _ (operands_stop h.z [] h.operands) (λ os _. tt)

  -- ---- from what step B made of an operand back to the operand

  abbrev Same : Operand → Operand → Type 0
  Same op now = (place_of op ≡ place_of now) × ((space : ℕ) (up at : Index) (z : ℕ) → now ≡ outer space up at z → op ≡ now)

  through_same : (space z last : ℕ) (hs : List Head) (op : Operand) → place_of op ≡ z → Same op (Rules.through space z last hs).now
  unfolding Rules.through
  through_same space z last hs op e = (e, λ space up at z q. let c : ◌≡◌ {A = ℕ} 0 1 = cc in absurd (omega arith))

  module _ (ds : List Declaration) (outside : Outside) where
    found_same : (space name z k : ℕ) (o : Option (ℕ × ℕ)) → OkR (λ e. Same (ref space (Id name) [] z) e.now) (Rules.found_at space name z k o)
    unfolding Rules.found_at Rules.as_it_is
    found_same space name z k none = (refl, λ space up at z q. refl)
    found_same space name z k (some at) = if_both (OkR _) _ _ _ (through_same space z k _ (ref space (Id name) [] z) refl) tt

    operand_same : (k : ℕ) (o : Operand) → OkR (λ e. Same o e.now) (expand_operand ds outside k o)
    unfolding expand_operand Rules.as_it_is
    operand_same k (ref space (Num n) [] z) = (refl, λ space up at z q. refl)
    operand_same k (ref space (Id name) [] z) = bind_any _ _ _ (λ u. if_both (OkR _) _ _ _ (refl, λ space up at z q. refl) (found_same space name z k _))
    operand_same k (ref space at (p ∷ ps) z) = if_both (OkR _) _ _ _ tt (through_same space z _ _ (ref space at (p ∷ ps) z) refl)
    operand_same k (outer space up at z) = (refl, λ space up at z q. refl)
    operand_same k (case name z) = (refl, λ space up at z q. refl)

    abbrev Back : List Operand → List Operand → Type 0
    Back os now = (o : ℕ) (x : Operand) → get_elem? now o ≡ some x → (op : Operand) × (get_elem? os o ≡ some op) × Same op x

    back_step : (o x : Operand) (os xs : List Operand) → Same o x → Back os xs → Back (o ∷ os) (x ∷ xs)
    back_step o x os xs s b zero y e = (o, refl, subst (Same o) (some_same x y e) s)
    back_step o x os xs s b (suc n) y e = b n y e

    operands_back : (k : ℕ) (os : List Operand) → OkR (λ e. Back os e.now) (expand_operands ds outside k os)
    unfolding expand_operands Rules.as_it_is
    operands_back k [] = λ o x e. no_option x e
    operands_back k (o ∷ os) = bind_ok _ _ _ _ (operand_same k o) (λ e s. bind_ok _ _ _ _ (operands_back e.k os) (λ es b. back_step o e.now os es.now s b))

    head_back : (k : ℕ) (h : Head) → OkR (λ e. Back h.operands e.now.operands) (expand_head ds outside k h)
    unfolding expand_head Rules.as_it_is with_operands
    head_back k h = if_both (OkR _) _ _ _ (λ o x e. (x, e, (refl, λ space up at z q. refl))) (bind_ok _ _ _ _ (operands_back k h.operands) (λ e b. b))

  -- ---- where a run that is refused with 9 stopped

  -- step B found the walked name `op` of field `f` late
  record LateAt (ds : List Declaration) (outside : Outside) (fs : Fields) (f : ℕ) (op : Operand) : Type 0 where
    seen : Before
    seen_is : seen.decls ≡ outside.before.decls ++ firsts f fs
    space : ℕ
    name : ℕ
    z : ℕ
    low : name ≤ top_name
    is : op ≡ ref space (Id name) [] z
    late : Rules.late_name ds (seeing outside seen) space name ≡ true

  -- a reference at its turn, one that step B found late, or an operand that is no walked name
  data Reason (s : Scope) (outside : Outside) (k : ℕ) (way : List ℕ) (f o : ℕ) (op : Operand) (z : ℕ) : Type 0 where
    other : Other op → Reason s outside k way f o op z
    turned : (here : Env) (now : Operand) → Turn s outside k way f o here now → lookup here now ≡ refused m z → Reason s outside k way f o op z
    later : m ≡ not_earlier → (t : Scope) (inner : Outside) → Enters s outside way t inner → LateAt (declarations (Readings.fields_of t)) inner (Readings.fields_of t) f op → Reason s outside k way f o op z

  -- the operand `op` of the field `h`, at its place in `s`
  abbrev Stands : (s : Scope) (way : List ℕ) (f o : ℕ) (h : Head) (op : Operand) → Type 0
  Stands s way f o h op = (w : List ℕ) (ins : List Level)
      → (ls : List Level) × (Readings.around way (level w (Readings.fields_of s)) ins ≡ some ls) × (Readings.use_in ls f o ≡ some (record { levels = ls; head = h; operand = op }))

  -- the walked name that step B refused
  record LateIn (ds : List Declaration) (outside : Outside) (fs : Fields) (z : ℕ) : Type 0 where
    thirteen : m ≡ not_earlier
    f : ℕ
    i : Item
    o : ℕ
    op : Operand
    there : get_elem? (originals fs) f ≡ some i
    has : get_elem? (head_of i).operands o ≡ some op
    at : place_of op ≡ z
    why : LateAt ds outside fs f op

  record Blamed (s : Scope) (outside : Outside) (k z : ℕ) : Type 0 where
    way : List ℕ
    f : ℕ
    o : ℕ
    h : Head
    op : Operand
    stands : Stands s way f o h op
    at : place_of op ≡ z
    reason : Reason s outside k way f o op z

  abbrev Within : Item → (here : Env) (outside : Outside) (k z : ℕ) → Type 0
  Within (plain h) here outside k z = ⊥
  Within (holds h s) here outside k z = Blamed s (inward h here outside) k z

  -- what went wrong at the field `i`
  data Fault (here : Env) (outside : Outside) (k z : ℕ) (e : Expanded Head) (i : Item) : Type 0 where
    in_inserted_lem : resolve_inserted here outside e.inserted ≡ refused m z → Fault here outside k z e i
    in_head : (new : List Head) → resolve_inserted here outside e.inserted ≡ ok new → resolve_head here outside e.now ≡ refused m z → Fault here outside k z e i
    in_scope_lem : (new : List Head) (h : Head) → resolve_inserted here outside e.inserted ≡ ok new → resolve_head here outside e.now ≡ ok h → Within i here outside k z → Fault here outside k z e i

  record Field (fs : Fields) (ds : List Declaration) (here : Env) (outside : Outside) (b k z : ℕ) : Type 0 where
    n : ℕ
    i : Item
    rest : Fields
    b' : ℕ
    k' : ℕ
    e : Expanded Head
    seen : Before
    comes : Comes ds here outside fs b k n i rest b' k' seen
    expands : expand_head ds (seeing outside seen) b' (head_of i) ≡ ok e
    fault : Fault here (seeing outside seen) k' z e i

  -- step C stopped at a field, or step B was refused
  data Stop (fs : Fields) (ds : List Declaration) (here : Env) (outside : Outside) (b k z : ℕ) : Type 0 where
    in_c : Field fs ds here outside b k z → Stop fs ds here outside b k z
    in_b : LateIn ds outside fs z → Stop fs ds here outside b k z

  -- ---- a field's fault is an operand's

  stands_here : (kind name : ℕ) (fs : Fields) (n o : ℕ) (i : Item) (op : Operand) → get_elem? (originals fs) n ≡ some i → get_elem? (head_of i).operands o ≡ some op
      → Stands (scope kind name fs) [] n o (head_of i) op
  unfolding Readings.around
  stands_here kind name fs n o i op e₁ e₂ w ins = (_, refl, Agree.use_there (level w fs) ins n o i (head_of i) op e₁ refl e₂)

  looked_at : (here : Env) (now : Operand) (z : ℕ) → lookup here now ≡ refused m z → place_of now ≡ z
  looked_at here (ref space at paths z') z e = ref_of_lem (λ n p. z' ≡ p) (Rules.number_in here.entries space at z') m z (number_at here.entries space at z') e
  looked_at here (outer space up at z') z e = not_refused 0 m z e
  looked_at here (case name z') z e = not_refused 0 m z e

  module _ (kind name : ℕ) (fs : Fields) (outside : Outside) (k : ℕ) (p : Env × ℕ) (z : ℕ) (low : LowFields fs) (ep : prepare name fs outside k ≡ ok p) where
    head_reason : (n : ℕ) (i : Item) (rest : Fields) (b' k' : ℕ) (e : Expanded Head) (new : List Head) (seen : Before) → Comes (declarations fs) p.0 outside fs k p.1 n i rest b' k' seen
        → expand_head (declarations fs) (seeing outside seen) b' (head_of i) ≡ ok e → resolve_inserted p.0 (seeing outside seen) e.inserted ≡ ok new
        → (S : Stopped p.0 (seeing outside seen) e.now.z [] e.now.operands z) (op : Operand) → Same op S.now → Cause p.0 (seeing outside seen) S.now z
        → (place_of op ≡ z) × Reason (scope kind name fs) outside k [] n S.o op z
    head_reason n i rest b' k' e new seen C ee en S op same (looked l) =
        (same.0 ∙ looked_at p.0 S.now z l, turned p.0 S.now (own p e new S.done ep C ee en S.passed S.there) l)
    head_reason n i rest b' k' e new seen C ee en S op same (counted_out_lem space up at q) =
        let r : op ≡ outer space up at z = same.1 space up at z q ∙ q in
        (ap place_of r, other (subst Other (sym r) (outer_other space up at z)))

    inner_blame : (n : ℕ) (i : Item) (rest : Fields) (b' k' : ℕ) (e : Expanded Head) (new : List Head) (h : Head) (seen : Before) → Comes (declarations fs) p.0 outside fs k p.1 n i rest b' k' seen
        → expand_head (declarations fs) (seeing outside seen) b' (head_of i) ≡ ok e → resolve_inserted p.0 (seeing outside seen) e.inserted ≡ ok new → resolve_head p.0 (seeing outside seen) e.now ≡ ok h
        → Within i p.0 (seeing outside seen) k' z → Blamed (scope kind name fs) outside k z
    unfolding head_of Readings.held
    inner_blame n (plain h₀) rest b' k' e new h seen C ee en eh w = absurd w
    inner_blame n (holds h₀ s) rest b' k' e new h seen C ee en eh B =
        record {
          way = n ∷ B.way;
          f = B.f;
          o = B.o;
          h = B.h;
          op = B.op;
          stands = λ w ins.
              let X = B.stands (w ++ (n ∷ [])) (level w fs ∷ ins) in
              (X.0, Agree.around_step n B.way (level w fs) ins (holds h₀ s) (Readings.fields_of s) X.0 (Unknown.comes_at C low).0 refl X.1, X.2);
          at = B.at;
          reason = wrap B.reason;
        }
      where
        wrap : Reason s (inward h₀ p.0 (seeing outside seen)) k' B.way B.f B.o B.op z → Reason (scope kind name fs) outside k (n ∷ B.way) B.f B.o B.op z
        wrap (other o) = other o
        wrap (turned here now t l) = turned here now (further p e new h ep C ee en eh t) l
        wrap (later q t inner E L) = later q t inner (Early.further seen k p ep (Unknown.comes_at C low).0 (comes_seen C) E) L

    blame : (F : Field fs (declarations fs) p.0 outside k p.1 z) → Fault p.0 (seeing outside F.seen) F.k' z F.e F.i → Blamed (scope kind name fs) outside k z
    blame F (in_inserted_lem r) =
        let O = ref_of_lem _ _ m z (all_inserted p.0 (seeing outside F.seen) _ F.e.inserted (holds_of _ _ F.e (head_by_lem p.0 (seeing outside F.seen) (declarations fs) F.b' (head_of F.i)) F.expands)) r in
        record {
          way = [];
          f = F.n;
          o = O.0;
          h = head_of F.i;
          op = O.1;
          stands = stands_here kind name fs F.n O.0 F.i O.1 (Unknown.comes_at F.comes low).0 O.2;
          at = O.3;
          reason = other O.4;
        }
    blame F (in_head new en r) =
        let S = ref_of_lem _ _ m z (head_stop p.0 (seeing outside F.seen) F.e.now) r refl in
        let B = holds_of _ _ F.e (head_back (declarations fs) (seeing outside F.seen) F.b' (head_of F.i)) F.expands S.o S.now S.there in
        let R = head_reason F.n F.i F.rest F.b' F.k' F.e new F.seen F.comes F.expands en S B.0 B.2 S.cause in
        record {
          way = [];
          f = F.n;
          o = S.o;
          h = head_of F.i;
          op = B.0;
          stands = stands_here kind name fs F.n S.o F.i B.0 (Unknown.comes_at F.comes low).0 B.1;
          at = R.0;
          reason = R.1;
        }
    blame F (in_scope_lem new h en eh w) = inner_blame F.n F.i F.rest F.b' F.k' F.e new h F.seen F.comes F.expands en eh w

  -- ---- step B

  -- an operand that it refuses
  record LateOperand (ds : List Declaration) (outside : Outside) (op : Operand) (z : ℕ) : Type 0 where
    thirteen : m ≡ not_earlier
    at : place_of op ≡ z
    space : ℕ
    name : ℕ
    z' : ℕ
    is : op ≡ ref space (Id name) [] z'
    late : Rules.late_name ds outside space name ≡ true

  record LateOperandOf (ds : List Declaration) (outside : Outside) (os : List Operand) (z : ℕ) : Type 0 where
    o : ℕ
    op : Operand
    there : get_elem? os o ≡ some op
    late : LateOperand ds outside op z

  late_behind : (ds : List Declaration) (outside : Outside) (x : Operand) (os : List Operand) (z : ℕ) → LateOperandOf ds outside os z → LateOperandOf ds outside (x ∷ os) z
  late_behind ds outside x os z L = record { o = suc L.o; op = L.op; there = L.there; late = L.late }

  found_late : (Q : ℕ → Type 0) (space name z k : ℕ) (o : Option (ℕ × ℕ)) → RefR (Is m Q) (Rules.found_at space name z k o)
  unfolding Rules.found_at
  found_late Q space name z k none = tt
  found_late Q space name z k (some at) = if_ref_lem (Is m Q) _ _ _ tt (λ e. absurd (not_eight M e))

  module _ (ds : List Declaration) (outside : Outside) where
    operand_late : (k : ℕ) (o : Operand) → RefR (Is m (LateOperand ds outside o)) (expand_operand ds outside k o)
    unfolding expand_operand
    operand_late k (ref space (Num n) [] z) = tt
    operand_late k (ref space (Id name) [] z) =
        bind_ref _ _ _ (go (Rules.late_name ds outside space name) refl) (λ u _. if_ref_lem (Is m _) _ _ _ tt (found_late _ space name z k _))
      where
        go : (b : Bool) → Rules.late_name ds outside space name ≡ b → RefR (Is m (LateOperand ds outside (ref space (Id name) [] z))) (Rules.in_time b z)
        go true q = unfold Rules.in_time when◌then◌else◌ in (λ e. record { thirteen = sym e; at = refl; space = space; name = name; z' = z; is = refl; late = q })
        go false q = unfold Rules.in_time when◌then◌else◌ in tt
    operand_late k (ref space at (p ∷ ps) z) = if_ref_lem (Is m _) _ _ _ (λ e. absurd (not_seven M e)) tt
    operand_late k (outer space up at z) = tt
    operand_late k (case name z) = tt

    operands_late : (k : ℕ) (os : List Operand) → RefR (Is m (LateOperandOf ds outside os)) (expand_operands ds outside k os)
    unfolding expand_operands
    operands_late k [] = tt
    operands_late k (o ∷ os) =
        bind_ref _ _ _ (ref_weaker _ (Is m (LateOperandOf ds outside (o ∷ os))) (expand_operand ds outside k o) (operand_late k o) (λ n z _ f e. record { o = 0; op = o; there = refl; late = f e }))
        (λ x _. bind_ref _ _ _ (ref_weaker _ (Is m (LateOperandOf ds outside (o ∷ os))) (expand_operands ds outside x.k os) (operands_late x.k os) (λ n z _ f e. late_behind ds outside o os z (f e))) (λ xs _. tt))

    head_late : (k : ℕ) (h : Head) → RefR (Is m (LateOperandOf ds outside h.operands)) (expand_head ds outside k h)
    unfolding expand_head
    head_late k h = if_ref_lem (Is m _) _ _ _ tt (bind_ref _ _ _ (operands_late k h.operands) (λ e _. tt))

  -- at the first of these fields, at a later one
  first_late : (ds : List Declaration) (outside : Outside) (i : Item) (fs : Fields) (z : ℕ) → LowFields (i ▸ fs) → LateOperandOf ds outside (head_of i).operands z → LateIn ds outside (i ▸ fs) z
  unfolding firsts
  first_late ds outside i fs z low L =
      let O = L.late in
      record {
        thirteen = O.thirteen;
        f = 0;
        i = i;
        o = L.o;
        op = L.op;
        there = rw (Lookups.originals_original i fs (Lookups.low_original (head_of i) low.0.decls));
        has = L.there;
        at = O.at;
        why = record {
          seen = outside.before;
          seen_is = sym (append-nil outside.before.decls);
          space = O.space;
          name = O.name;
          z = O.z';
          low = (low_operand (head_of i).operands L.o _ low.0.operands (L.there ∙ ap {B = Option Operand} some O.is)).1;
          is = O.is;
          late = O.late;
        };
      }

  later_late : (ds : List Declaration) (outside : Outside) (i : Item) (fs : Fields) (z : ℕ) → LowFields (i ▸ fs) → LateIn ds (onward i outside) fs z → LateIn ds outside (i ▸ fs) z
  unfolding firsts
  later_late ds outside i fs z low L =
      let Y = L.why in
      record {
        thirteen = L.thirteen;
        f = suc L.f;
        i = L.i;
        o = L.o;
        op = L.op;
        there = rw (Lookups.originals_original i fs (Lookups.low_original (head_of i) low.0.decls)) L.there;
        has = L.has;
        at = L.at;
        why = record {
          seen = Y.seen;
          seen_is = Y.seen_is ∙ append_assoc outside.before.decls (head_of i).decls (firsts L.f fs);
          space = Y.space;
          name = Y.name;
          z = Y.z;
          low = Y.low;
          is = Y.is;
          late = Y.late;
        };
      }

  fields_late : (ds : List Declaration) (outside : Outside) (k : ℕ) (fs : Fields) → LowFields fs → RefR (Is m (LateIn ds outside fs)) (expand_fields ds outside k fs)
  unfolding expand_fields
  fields_late ds outside k end low = tt
  fields_late ds outside k (i ▸ fs) low =
      bind_ref _ _ _ (ref_weaker _ (Is m (LateIn ds outside (i ▸ fs))) (expand_head ds outside k (head_of i)) (head_late ds outside k (head_of i)) (λ n z _ f e. first_late ds outside i fs z low (f e)))
      (λ e _. bind_ref _ _ _
      (ref_weaker _ (Is m (LateIn ds outside (i ▸ fs))) (expand_fields ds (onward i outside) e.k fs) (fields_late ds (onward i outside) e.k fs low.2) (λ n z _ f e. later_late ds outside i fs z low (f e)))
      (λ r _. tt))

  distinct_late : (Q : ℕ → Type 0) (seen ds : List Declaration) → RefR (Is m Q) (Rules.distinct seen ds)
  unfolding Rules.distinct
  distinct_late Q seen [] = tt
  distinct_late Q seen (d ∷ ds) = if_ref_lem (Is m Q) _ _ _ (λ e. absurd (not_six M e)) (distinct_late Q (seen ++ (d ∷ [])) ds)

  prepare_late : (name : ℕ) (fs : Fields) (outside : Outside) (k : ℕ) → LowFields fs → RefR (Is m (LateIn (declarations fs) outside fs)) (prepare name fs outside k)
  unfolding prepare
  prepare_late name fs outside k low =
      bind_ref _ _ _ (distinct_late _ [] (declarations fs)) (λ ds e.
      let same : ds ≡ declarations fs = holds_of _ _ ds (Runs.distinct_same [] (declarations fs)) e in
      bind_ref _ _ _ (subst (λ (x : List Declaration). RefR (Is m (LateIn (declarations fs) outside fs)) (expand_fields x outside k fs)) (sym same) (fields_late (declarations fs) outside k fs low)) (λ r _. tt))

  -- ---- all of a run

  blame_late : (kind name : ℕ) (fs : Fields) (outside : Outside) (k z : ℕ) → LateIn (declarations fs) outside fs z → Blamed (scope kind name fs) outside k z
  blame_late kind name fs outside k z L =
      record {
        way = [];
        f = L.f;
        o = L.o;
        h = head_of L.i;
        op = L.op;
        stands = stands_here kind name fs L.f L.o L.i L.op L.there L.has;
        at = L.at;
        reason = later L.thirteen (scope kind name fs) outside this L.why;
      }

  stop_later : (i : Item) (fs : Fields) (ds : List Declaration) (here : Env) (outside : Outside) (b k z : ℕ) (e : Expanded Head) (new : List Head) (h : Head) (q : Item × ℕ) → LowFields (i ▸ fs)
      → expand_head ds outside b (head_of i) ≡ ok e → resolve_inserted here outside e.inserted ≡ ok new → resolve_head here outside e.now ≡ ok h → resolve_item i h here outside k ≡ ok q
      → Stop fs ds here (onward i outside) e.k q.1 z → Stop (i ▸ fs) ds here outside b k z
  stop_later i fs ds here outside b k z e new h q low ee en eh eq (in_c G) =
      in_c (record { n = suc G.n; i = G.i; rest = G.rest; b' = G.b'; k' = G.k'; e = G.e; seen = G.seen; comes = past e new h q ee en eh eq G.comes; expands = G.expands; fault = G.fault })
  stop_later i fs ds here outside b k z e new h q low ee en eh eq (in_b L) = in_b (later_late ds outside i fs z low L)

  blame_stop : (kind name : ℕ) (fs : Fields) (outside : Outside) (k : ℕ) (p : Env × ℕ) (z : ℕ) → LowFields fs → prepare name fs outside k ≡ ok p
      → Stop fs (declarations fs) p.0 outside k p.1 z → Blamed (scope kind name fs) outside k z
  blame_stop kind name fs outside k p z low ep (in_c F) = blame kind name fs outside k p z low ep F F.fault
  blame_stop kind name fs outside k p z low ep (in_b L) = blame_late kind name fs outside k z L

  mutual
    unfolding resolve_scope

    scope_blame : (s : Scope) (outside : Outside) (k : ℕ) → LowScope s → RefR (Is m (Blamed s outside k)) (resolve_scope s outside k)
    scope_blame (scope kind name fs) outside k low =
        bind_ref _ _ _
        (ref_weaker _ (Is m (Blamed (scope kind name fs) outside k)) (prepare name fs outside k) (prepare_late name fs outside k low.1) (λ n z _ f e. blame_late kind name fs outside k z (f e)))
        (λ p ep. bind_ref _ _ _
        (ref_weaker _ (Is m (Blamed (scope kind name fs) outside k)) (resolve_fields fs (declarations fs) p.0 outside k p.1) (fields_blame fs (declarations fs) p.0 outside k p.1 low.1)
        (λ n z _ f e. blame_stop kind name fs outside k p z low.1 ep (f e)))
        (λ r _. tt))

    fields_blame : (fs : Fields) (ds : List Declaration) (here : Env) (outside : Outside) (b k : ℕ) → LowFields fs
        → RefR (Is m (Stop fs ds here outside b k)) (resolve_fields fs ds here outside b k)
    fields_blame end ds here outside b k low = tt
    fields_blame (i ▸ fs) ds here outside b k low =
        bind_ref _ _ _ (ref_weaker _ (Is m (Stop (i ▸ fs) ds here outside b k)) (expand_head ds outside b (head_of i)) (head_late ds outside b (head_of i)) (λ n z _ f e. in_b (first_late ds outside i fs z low (f e)))) (λ e ee.
        bind_ref _ _ _ (self_ref _ (resolve_inserted here outside e.inserted) (λ n z r nine.
        in_c (record { n = 0; i = i; rest = fs; b' = b; k' = k; e = e; seen = outside.before; comes = at_once; expands = ee; fault = in_inserted_lem (rw nine at r) }))) (λ new en.
        bind_ref _ _ _ (self_ref _ (resolve_head here outside e.now) (λ n z r nine.
        in_c (record { n = 0; i = i; rest = fs; b' = b; k' = k; e = e; seen = outside.before; comes = at_once; expands = ee; fault = in_head new en (rw nine at r) }))) (λ h eh.
        bind_ref _ _ _ (ref_weaker _ (Is m (Stop (i ▸ fs) ds here outside b k)) (resolve_item i h here outside k) (item_blame i h here outside k low.1) (λ n z _ f nine.
        in_c (record { n = 0; i = i; rest = fs; b' = b; k' = k; e = e; seen = outside.before; comes = at_once; expands = ee; fault = in_scope_lem new h en eh (f nine) }))) (λ q eq.
        bind_ref _ _ _ (ref_weaker _ (Is m (Stop (i ▸ fs) ds here outside b k)) (resolve_fields fs ds here (onward i outside) e.k q.1) (fields_blame fs ds here (onward i outside) e.k q.1 low.2) (λ n z _ f nine.
        stop_later i fs ds here outside b k z e new h q low ee en eh eq (f nine)))
        (λ rs _. tt)))))

    item_blame : (i : Item) (h : Head) (here : Env) (outside : Outside) (k : ℕ) → LowItem i → RefR (Is m (Within i here outside k)) (resolve_item i h here outside k)
    item_blame (plain h₀) h here outside k low = tt
    item_blame (holds h₀ s) h here outside k low = bind_ref _ _ _ (scope_blame s (inward h₀ here outside) k low) (λ r _. tt)

-- ---- the theorems

unknown_same : (a b : ℕ) → unknown a ≡ unknown b → a ≡ b
unknown_same a b e = cc

-- the operand at which a run was refused
at_place : (base : List ℕ) (ins : List Level) {m : Refusal} (M : Blamable m) {s : Scope} {outside : Outside} {k z : ℕ} (B : Blamed m M s outside k z)
    → (ls : List Level) × (Readings.around B.way (level base (Readings.fields_of s)) ins ≡ some ls)
    × (Readings.use_inside base ins s (record { way = B.way; field = B.f; at = B.o }) ≡ some (record { levels = ls; head = B.h; operand = B.op }))
at_place base ins M {s} B =
    let X = B.stands base ins in
    (X.0, X.1, Agree.use_is base ins s (record { way = B.way; field = B.f; at = B.o }) X.0 (record { levels = X.0; head = B.h; operand = B.op }) X.1 X.2)

-- If a run is refused with 9, an operand stands at that place; and if it is a walked name, it is of the space that the refusal carries, and
-- no scope around it declares it.
pub unknown_only : (rules : RuleSet) (base : List ℕ) {ins outs : List Level} {around : List Env} → Frames ins outs around → (s : Scope) (space z : ℕ) → LowScope s
    → resolve_inside rules around s ≡ refused (unknown space) z
    → (p : Place) × (u : Use) × (Readings.use_inside base ins s p ≡ some u) × (place_of u.operand ≡ z)
    × ((x : ℕ × ℕ) → walked u.head u.operand ≡ some x → (space ≡ x.0) × (Readings.outward_inside base ins s p ≡ none))
unknown_only rules base {ins} {outs} {around} Fs s space z low e =
    let B = ref_of_lem _ _ (unknown space) z (scope_blame (unknown space) (nine space) s (at_root rules around) 0 low) e refl in
    let X = at_place base ins (nine space) B in (
      record { way = B.way; field = B.f; at = B.o },
      record { levels = X.0; head = B.h; operand = B.op },
      X.2,
      B.at,
      λ x ew. go x ew B.reason B.at X.2,
    )
  where
    go : {way : List ℕ} {f o : ℕ} {h : Head} {op : Operand} {ls : List Level} (x : ℕ × ℕ) → walked h op ≡ some x → Reason (unknown space) (nine space) s (at_root rules around) 0 way f o op z → place_of op ≡ z
        → Readings.use_inside base ins s (record { way = way; field = f; at = o }) ≡ some (record { levels = ls; head = h; operand = op })
        → (space ≡ x.0) × (Readings.outward_inside base ins s (record { way = way; field = f; at = o }) ≡ none)
    go {h = h} x ew (other q) a there = no_option x (sym (q h) ∙ ew)
    go {op = op} x ew (turned here now t l) a there =
        let X = Unknown.unknown_exactly rules base Fs s _ _ x here now low there ew t in
        let same : space ≡ x.0 = unknown_same space x.0 (X.2 (unknown space) z l) in
        (same, X.0.0 (subst (λ (y : ℕ). lookup here now ≡ refused (unknown y) (place_of op)) same (rw a l)))
    go x ew (later q t inner E L) a there = let c : ◌≡◌ {A = ℕ} 0 1 = cc in absurd (omega arith)

-- a name that is looked up in one scope is not refused as late
looked_late : {X : Type 0} (here : Env) (now : Operand) (z : ℕ) → lookup here now ≡ refused not_earlier z → X
looked_late here (ref space (Num d) paths z') z e = unfold Rules.number_in in not_refused d not_earlier z e
looked_late here (ref space (Id name) paths z') z e = go (find (table_of here) space name) (sym (number_is here.entries space name z') ∙ e)
  where
    go : {X : Type 0} (o : Option ℕ) → Rules.or_refused o (unknown space) z' ≡ refused not_earlier z → X
    go none e = unfold Rules.or_refused in (let c : ◌≡◌ {A = ℕ} 0 1 = cc in absurd (omega arith))
    go (some d) e = unfold Rules.or_refused in not_refused d not_earlier z e
looked_late here (outer space up at z') z e = not_refused 0 not_earlier z e
looked_late here (case name z') z e = not_refused 0 not_earlier z e

-- Only under rules that ask for it is a run refused with 13. Then an operand stands at that place; and if it is a walked name, its outward
-- reading is a declaration that does not stand earlier.
pub late_only : (rules : RuleSet) (base : List ℕ) {ins : List Level} {around : List Env} → Early.TimesAround base ins around → (s : Scope) (z : ℕ) → LowScope s
    → resolve_inside rules around s ≡ refused not_earlier z
    → (p : Place) × (u : Use) × (Readings.use_inside base ins s p ≡ some u) × (place_of u.operand ≡ z)
    × ((x : ℕ × ℕ) → walked u.head u.operand ≡ some x
    → (rules.early ≡ true) × (d : Place) × (Readings.outward_inside base ins s p ≡ some d) × (Readings.is_earlier d (place_from base p) ≡ false))
late_only rules base {ins} {around} Ts s z low e =
    let B = ref_of_lem _ _ not_earlier z (scope_blame not_earlier thirteen s (at_root rules around) 0 low) e refl in
    let X = at_place base ins thirteen B in (
      record { way = B.way; field = B.f; at = B.o },
      record { levels = X.0; head = B.h; operand = B.op },
      X.2,
      B.at,
      λ x ew. go x ew B.reason X.1 X.2,
    )
  where
    found : (p : Place) (o : Option Place) → Readings.outward_inside base ins s p ≡ o → Early.late_by ((base ++ p.way) ++ (p.field ∷ [])) o ≡ true
        → (d : Place) × (Readings.outward_inside base ins s p ≡ some d) × (Readings.is_earlier d (place_from base p) ≡ false)
    found p none r l = false_not (unfold Early.late_by in l)
    found p (some d) r l = (d, r, unfold Readings.is_earlier Early.late_by in not-true _ l)

    go : {way : List ℕ} {f o : ℕ} {h : Head} {op : Operand} {ls : List Level} (x : ℕ × ℕ) → walked h op ≡ some x → Reason not_earlier thirteen s (at_root rules around) 0 way f o op z
        → Readings.around way (level base (Readings.fields_of s)) ins ≡ some ls
        → Readings.use_inside base ins s (record { way = way; field = f; at = o }) ≡ some (record { levels = ls; head = h; operand = op })
        → (rules.early ≡ true) × (d : Place) × (Readings.outward_inside base ins s (record { way = way; field = f; at = o }) ≡ some d)
        × (Readings.is_earlier d (record { way = base ++ way; field = f; at = o }) ≡ false)
    go {h = h} x ew (other q) a there = no_option x (sym (q h) ∙ ew)
    go x ew (turned here now t l) a there = looked_late here now z l
    go {way} {f} {o} {h} {op} {ls} x ew (later q t inner E L) a there =
        let steps = (base ++ way) ++ (f ∷ []) in
        let from-base : steps ≡ base ++ (way ++ (f ∷ [])) = append_assoc base way (f ∷ []) in
        let En = Early.entered E base ins steps (f ∷ []) from-base low refl (Ts steps (way ++ (f ∷ [])) from-base) in
        let same : ls ≡ level En.w (Readings.fields_of t) ∷ En.around_it = some_same _ _ (sym a ∙ En.arrives) in
        let W = walked_ref h op x ew in
        let is : ref x.0 (Id x.1) [] W.0 ≡ ref L.space (Id L.name) [] L.z = sym W.1 ∙ L.is in
        let space_is : L.space ≡ x.0 = cc in
        let name_is : L.name ≡ x.1 = cc in
        let both = sym (Early.late_at_lem En L.seen L.seen_is L.space L.name L.low) ∙ L.late in
        let reads : Readings.outward_inside base ins s (record { way = way; field = f; at = o }) ≡ outward ls x.0 x.1 =
        Unknown.reading_is base ins s (record { way = way; field = f; at = o }) _ x there ew in
        let F = found (record { way = way; field = f; at = o }) (outward ls x.0 x.1) reads
        (ap (Early.late_by steps) (rw (same, ← space_is, ← name_is)) ∙ and_right rules.early _ both) in
        (and_left rules.early _ both, F.0, F.1, F.2)
