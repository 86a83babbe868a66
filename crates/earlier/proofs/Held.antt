-- The names that are held to earlier declarations, in whole runs: a run is refused with 13 only at such a name, and it means a declaration
-- that does not stand earlier; in an accepted run each means one that does.
use Rattle.std.specs.Prelude.{◌≡◌, Bool, true, false, not, ℕ, zero, suc, ◌≤◌, take}
use Rattle.std.proofs.Math.Path.{refl, ap, sym, subst}
use Rattle.std.proofs.Common.{◌∙◌}
use Rattle.std.proofs.Math.Option.{Option, none, some}
use mathlib.Core.List.{List, [], ◌∷◌, ◌++◌, append_assoc}
use Rattle.std.proofs.Math.ListN.{get_elem?}
use Rattle.rules.specs.Tools.{is_just, only, ◌then◌, ◌or_else◌}
use Rattle.rules.specs.Versions.{RuleSet, top_name}
use Rattle.rules.specs.Rows.{Index, Num, Id}
use Rattle.rules.specs.Tree.{Operand, ref, outer, case, Head, Scope, scope, Fields, end, ◌▸◌, Item, head_of}
use Rattle.rules.specs.Shapes.{here_only}
use Rattle.rules.specs.Rules as steps
use Rattle.rules.specs.Rules.{not_earlier, table_of, opened, refused, ok, Env, Outside, at_root, find, declarations, resolve_inside}
use Rattle.rules.specs.Readings as readings
use Rattle.rules.specs.Readings.{originals, Place, Level, level, Use, declared, outward, place_from}
use Rattle.rules.specs.Laws.ToolLaws.{false_not, and_left, and_right, leb-true, then_some}
use Rattle.rules.specs.Laws.Results.{holds_of, bind_inv, no_result, ok_same, ref_of_lem, some_same, no_option}
use Rattle.rules.specs.Laws.Meaning.Names.{LowHead, LowScope, LowFields}
use Rattle.rules.proofs.Laws.Meaning.Lookups as lookups
use Rattle.rules.proofs.Laws.Meaning.Runs.{seeing}
use Rattle.rules.proofs.Laws.Meaning.StepB.{low_operand}
use Rattle.rules.proofs.Laws.Meaning.StepC.{named_number}
use Rattle.rules.proofs.Laws.Meaning.Turns.{place_of}
use Rattle.rules.proofs.Laws.Meaning.Unknown.{find_has, declared_has, reading_is}
use Rattle.rules.proofs.Laws.Meaning.Around.{Around}
use Rattle.rules.proofs.Laws.Meaning.Agree as runs
use Rattle.rules.proofs.Laws.Meaning.Agree.{readings_agree}
use Rattle.rules.proofs.Laws.Meaning.InTime.{accepted_early}
use Rattle.rules.proofs.Laws.Meaning.Early as earlier
use Rattle.rules.proofs.Laws.Meaning.Early.{TimesAround, Times, nowhere, inside, late_by, Enters, this, further, entered}
use Rattle.earlier.specs.Tested.{Name, name_of, names_around, upward, instance_space, tested_inside, means}
use Rattle.earlier.proofs.Scopes.{names_of, entered_names, up_is, Scopes, scopes, one_of, late_in_one, late_declaration, early_declaration}
use Rattle.earlier.specs.Passing.{in_time_lem}
use Rattle.earlier.proofs.Came.{Came, came, head_on, instance_passed, head_keeps, head_passes}
use Rattle.earlier.proofs.Causes.{Cause, by_walk, by_path, by_index, TableOf, ScopeLate, scope_late}

-- ---- the name at a place

low_head : (fs : Fields) (n : ℕ) (i : Item) → LowFields fs → get_elem? (originals fs) n ≡ some i → LowHead (head_of i)
unfolding originals
low_head end n i low e = no_option i e
low_head (i₀ ▸ fs) zero i low e =
    let here : get_elem? (i₀ ∷ originals fs) 0 ≡ some i = rw (lookups.originals_original i₀ fs (lookups.low_original (head_of i₀) low.0.decls)) at e in
    subst (λ (x : Item). LowHead (head_of x)) (some_same i₀ i here) low.0
low_head (i₀ ▸ fs) (suc n) i low e =
    let later : get_elem? (originals fs) n ≡ some i = rw (lookups.originals_original i₀ fs (lookups.low_original (head_of i₀) low.0.decls)) at e in
    low_head fs n i low.2 later

tested_is : (base : List ℕ) (ins : List Level) (names : List ℕ) (s : Scope) (p : Place) (u : Use) (ns : List ℕ) → readings.use_inside base ins s p ≡ some u → names_around p.way s names ≡ some ns
    → tested_inside base ins names s p ≡ name_of ns u.levels u.head u.operand
unfolding tested_inside ◌then◌
tested_is base ins names s p u ns e₁ e₂ = rw (e₁, e₂)

walked_name : (ns : List ℕ) (ls : List Level) (h : Head) (space name z : ℕ) → here_only h.code ≡ false
    → name_of ns ls h (ref space (Id name) [] z) ≡ some (record { scopes = ls; space = space; name = name })
unfolding name_of only
walked_name ns ls h space name z e = rw e

path_name : (ns : List ℕ) (ls : List Level) (h : Head) (space name p : ℕ) (ps : List ℕ) (z : ℕ) → here_only h.code ≡ false
    → name_of ns ls h (ref space (Id name) (p ∷ ps) z) ≡ some (record { scopes = take 1 ls; space = instance_space space ps; name = name })
unfolding name_of only
path_name ns ls h space name p ps z e = rw e

index_name : (ns : List ℕ) (ls : List Level) (h : Head) (space : ℕ) (up : Index) (name z d : ℕ) (l : Level) → upward ns up ≡ some d → get_elem? ls d ≡ some l
    → name_of ns ls h (outer space up (Id name) z) ≡ some (record { scopes = l ∷ []; space = space; name = name })
unfolding name_of ◌then◌
index_name ns ls h space up name z d l e₁ e₂ = rw (e₁, e₂)

-- ---- refused

-- the name at the place `p` means a declaration that does not stand earlier
pub record LateName (base : List ℕ) (ins : List Level) (names : List ℕ) (s : Scope) (z : ℕ) : Type 0 where
  pub where_it_is : Place
  pub use_there : Use
  pub stands : readings.use_inside base ins s where_it_is ≡ some use_there
  pub blamed : place_of use_there.operand ≡ z
  pub name : Name
  pub tested : tested_inside base ins names s where_it_is ≡ some name
  pub declaration : Place
  pub meant : means name ≡ some declaration
  pub later : readings.is_earlier declaration (place_from base where_it_is) ≡ false

-- from where the name is late
late_name_lem : (base : List ℕ) {ins : List Level} {names : List ℕ} {s : Scope} {z : ℕ} (way : List ℕ) (f o : ℕ) (u : Use) (ns : List ℕ) (x : Name) → readings.use_inside base ins s (record { way = way; field = f; at = o }) ≡ some u
    → place_of u.operand ≡ z → names_around way s names ≡ some ns → name_of ns u.levels u.head u.operand ≡ some x → late_by ((base ++ way) ++ (f ∷ [])) (means x) ≡ true → LateName base ins names s z
late_name_lem base {ins} {names} {s} way f o u ns x e₁ e₂ e₃ e₄ late =
    let D = late_declaration base way f o (means x) late in
    record {
      where_it_is = record { way = way; field = f; at = o };
      use_there = u;
      stands = e₁;
      blamed = e₂;
      name = x;
      tested = tested_is base ins names s (record { way = way; field = f; at = o }) u ns e₁ e₃ ∙ e₄;
      declaration = D.0;
      meant = D.1;
      later = D.2;
    }

-- the use at an operand of the scope at the end of `way`
use_at_lem : (base : List ℕ) (ins : List Level) (s : Scope) (way : List ℕ) {w : List ℕ} {fs : Fields} {around_it : List Level} (f o : ℕ) (i : Item) (op : Operand)
    → readings.around way (level base (readings.fields_of s)) ins ≡ some (level w fs ∷ around_it) → get_elem? (originals fs) f ≡ some i → get_elem? (head_of i).operands o ≡ some op
    → readings.use_inside base ins s (record { way = way; field = f; at = o }) ≡ some (record { levels = level w fs ∷ around_it; head = head_of i; operand = op })
use_at_lem base ins s way {w} {fs} {around_it} f o i op e₁ e₂ e₃ =
    runs.use_is base ins s (record { way = way; field = f; at = o }) _ _ e₁ (runs.use_there (level w fs) around_it f o i (head_of i) op e₂ refl e₃)

low_there : {way : List ℕ} {l : Level} {e : Env} {ls : List Level} {es : List Env} → Times way (l ∷ ls) (e ∷ es) → LowFields l.fields
low_there (inside T Ts) = T.low

first_alone : {way : List ℕ} {l : Level} {e : Env} {ls : List Level} {es : List Env} → Times way (l ∷ ls) (e ∷ es) → Times way (l ∷ []) (e ∷ [])
first_alone (inside T Ts) = inside T nowhere

same_early : {s : Scope} {outside : Outside} {way : List ℕ} {t : Scope} {inner : Outside} → Enters s outside way t inner → outside.early ≡ inner.early
same_early this = refl
same_early (further seen k p ep there is E) = same_early E

module _ (rules : RuleSet) (base : List ℕ) {ins : List Level} {around : List Env} (Ts : TimesAround base ins around) (s : Scope) (low : LowScope s) where
  -- the cause of a refusal, as the readings see it
  caused : (z : ℕ) (L : ScopeLate s (at_root rules around) z) (o : ℕ) (op : Operand) → get_elem? (head_of L.field.i).operands o ≡ some op
      → Cause (declarations L.fs) (TableOf L.name L.fs L.inner) (seeing L.inner L.field.seen) (head_of L.field.i) op z
      → (rules.early ≡ true) × LateName base ins (names_of around) s z
  unfolding means
  caused z L o op has-op (by_walk space name c is late) =
      let F = L.field in
      let steps = (base ++ L.way) ++ (F.f ∷ []) in
      let from-base : steps ≡ base ++ (L.way ++ (F.f ∷ [])) = append_assoc base L.way (F.f ∷ []) in
      let En = entered L.enters base ins steps (F.f ∷ []) from-base low refl (Ts steps (L.way ++ (F.f ∷ [])) from-base) in
      let has-ref : get_elem? (head_of F.i).operands o ≡ some (ref space (Id name) [] z) = has-op ∙ ap {B = Option Operand} some is in
      let name-low = (low_operand (head_of F.i).operands o _ (low_head L.fs F.f F.i En.low.1 F.there).operands has-ref).1 in
      let both = sym (earlier.late_at_lem En F.seen F.seen_is space name name-low) ∙ late in (
        and_left rules.early _ both,
        late_name_lem base L.way F.f o _ _ _ (use_at_lem base ins s L.way F.f o F.i _ En.arrives F.there has-ref) refl (entered_names L.enters)
            (walked_name _ _ (head_of F.i) space name z c) (and_right rules.early _ both),
      )
  caused z L o op has-op (by_path here t space name p ps c is early late) =
      let F = L.field in
      let S = scopes base low refl Ts L.enters t.0 t.1 t.2 F.f F.seen F.seen_is in
      let has-ref : get_elem? (head_of F.i).operands o ≡ some (ref space (Id name) (p ∷ ps) z) = has-op ∙ ap {B = Option Operand} some is in
      let name-low = (low_operand (head_of F.i).operands o _ (low_head L.fs F.f F.i (low_there S.times) F.there).operands has-ref).1 in
      let late-there = subst (λ (e : Env). steps.comes_later (table_of e) F.seen.decls (instance_space space ps) name ≡ true) (sym t.3) late in (
        same_early L.enters ∙ early,
        late_name_lem base L.way F.f o _ _ _ (use_at_lem base ins s L.way F.f o F.i _ S.arrives F.there has-ref) refl S.names_are
            (path_name _ _ (head_of F.i) space name p ps z c) (sym (late_in_one (first_alone S.times) (instance_space space ps) name name-low) ∙ late-there),
      )
  caused z L o op has-op (by_index here t space up name fz d e is early leads table late) =
      let F = L.field in
      let S = scopes base low refl Ts L.enters t.0 t.1 t.2 F.f F.seen F.seen_is in
      let has-outer : get_elem? (head_of F.i).operands o ≡ some (outer space up (Id name) z) = has-op ∙ ap {B = Option Operand} some is in
      let name-low = (low_operand (head_of F.i).operands o _ (low_head L.fs F.f F.i (low_there S.times) F.there).operands has-outer).1.1 in
      let es = opened t.1.0 (seeing L.inner F.seen) in
      let O = one_of S.times d e (ap (λ (x : Env). steps.nth (opened x (seeing L.inner F.seen)) d) t.3 ∙ table) in
      let goes = up_is es up fz d (ap (λ (x : Env). steps.up_number (opened x (seeing L.inner F.seen)) up fz) t.3 ∙ leads) in (
        same_early L.enters ∙ early,
        late_name_lem base L.way F.f o _ _ _ (use_at_lem base ins s L.way F.f o F.i _ S.arrives F.there has-outer) refl S.names_are
            (index_name _ _ (head_of F.i) space up name z d O.0 goes O.1) (sym (late_in_one O.2 space name name-low) ∙ late),
      )

  -- A run is refused with 13 only under rules that ask for earlier declarations, and only at a name that is held to them: it means a
  -- declaration that does not stand earlier.
  pub late_only : (z : ℕ) → resolve_inside rules around s ≡ refused not_earlier z → (rules.early ≡ true) × LateName base ins (names_of around) s z
  late_only z e =
      let L = ref_of_lem _ _ not_earlier z (scope_late s (at_root rules around) 0 low) e refl in
      let B = L.field.blamed in
      caused z L B.at B.op B.there B.cause

-- ---- accepted

-- it means a declaration that stands earlier
pub record EarlierName (base : List ℕ) (p : Place) (x : Name) : Type 0 where
  pub declaration : Place
  pub meant : means x ≡ some declaration
  pub earlier : readings.is_earlier declaration (place_from base p) ≡ true

only_inv : {A : Type 0} (b : Bool) (a x : A) → only (not b) a ≡ some x → (b ≡ false) × (a ≡ x)
unfolding only
only_inv true a x e = no_option x e
only_inv false a x e = (refl, some_same a x e)

-- a name that is in the table of one scope, and not late there
in_one : {way : List ℕ} {l : Level} {e : Env} → Times way (l ∷ []) (e ∷ []) → (space name n : ℕ) → name ≤ top_name → find (table_of e) space name ≡ some n → steps.comes_later (table_of e) e.before space name ≡ false
    → (d : Place) × (outward (l ∷ []) space name ≡ some d) × (late_by way (some d) ≡ false)
unfolding outward
in_one {way} {l} {e} (inside T nowhere) space name n low f late =
    go (declared l space name) (declared_has l space name T.low ∙ (sym (T.same space name low) ∙ (sym (find_has (table_of e) space name) ∙ ap is_just f)))
    (sym (late_in_one (inside T nowhere) space name low) ∙ late)
  where
    go : (o : Option Place) → is_just o ≡ true → late_by way (o or_else none) ≡ false → (d : Place) × (o or_else none ≡ some d) × (late_by way (some d) ≡ false)
    go none e q = false_not e
    go (some d) e q = unfold ◌or_else◌ in (d, refl, q)

walked_is : (h : Head) (space name z : ℕ) → here_only h.code ≡ false → readings.walked h (ref space (Id name) [] z) ≡ some (space, name)
unfolding readings.walked only
walked_is h space name z e = rw e

-- what passed, under rules that ask for earlier declarations
timely_instance : (here : Env) (o : Outside) (from name z : ℕ) → o.early ≡ true → name ≤ top_name → steps.late_instance here o (ref from (Id name) [] z ∷ []) ≡ false
    → steps.comes_later (table_of here) o.before.decls from name ≡ false
unfolding steps.late_instance
timely_instance here o from name z early low e = rw (early, leb-true low) at e

timely_index : (early : Bool) (e : Env) (space name : ℕ) → early ≡ true → steps.late_index early e space (Id name) ≡ false → steps.comes_later (table_of e) e.before space name ≡ false
unfolding steps.late_index
timely_index early e space name q l = rw q at l

-- what an OUTER with a named index was resolved by
record OuterBy (early : Bool) (es : List Env) (fz space : ℕ) (up : Index) (name z : ℕ) : Type 0 where
  d : ℕ
  e : Env
  number : ℕ
  goes : steps.up_number es up fz ≡ ok d
  table : steps.nth es d ≡ some e
  timely : steps.late_index early e space (Id name) ≡ false
  found : steps.number_in e.entries space (Id name) z ≡ ok number

-- its index is declared in the scope that it leads to, and not late there
index_in_lem : {way : List ℕ} {ls : List Level} {es : List Env} {early : Bool} {fz space : ℕ} {up : Index} {name z : ℕ} → Times way ls es → (N : OuterBy early es fz space up name z) → early ≡ true → name ≤ top_name
    → (d : ℕ) (l : Level) → N.d ≡ d → get_elem? ls d ≡ some l → (x : Place) × (outward (l ∷ []) space name ≡ some x) × (late_by way (some x) ≡ false)
index_in_lem {way} {ls} {early = early} {space = space} {name = name} {z = z} Ts N q low d l d-is there =
    let T = one_of Ts N.d N.e N.table in
    let l-is : T.0 ≡ l = some_same T.0 l (sym T.1 ∙ (ap (λ (m : ℕ). get_elem? ls m) d-is ∙ there)) in
    in_one (subst (λ (x : Level). Times way (x ∷ []) (N.e ∷ [])) l-is T.2) space name N.number low (named_number N.e.entries space name z N.number N.found)
    (timely_index early N.e space name q N.timely)

outer_numbers_inv : (early : Bool) (es : List Env) (fz space : ℕ) (up : Index) (name z : ℕ) (x : Operand) → steps.outer_numbers early es fz space up (Id name) z ≡ ok x → OuterBy early es fz space up name z
unfolding steps.outer_numbers
outer_numbers_inv early es fz space up name z x q =
    let s₁ = bind_inv (steps.up_number es up fz) _ x q in
    let s₂ = bind_inv (steps.or_refused (steps.nth es s₁.0) steps.too_far fz) _ x s₁.2 in
    let s₃ = bind_inv (steps.in_time (steps.late_index early s₂.0 space (Id name)) z) _ x s₂.2 in
    let s₄ = bind_inv (steps.number_in s₂.0.entries space (Id name) z) _ x s₃.2 in
    record { d = s₁.0; e = s₂.0; number = s₄.0; goes = s₁.1; table = opens (steps.nth es s₁.0) s₂.0 s₂.1; timely = in_time_lem _ z s₃.0 s₃.1; found = s₄.1 }
  where
    opens : (o : Option Env) (e : Env) → steps.or_refused o steps.too_far fz ≡ ok e → o ≡ some e
    opens none e q = unfold steps.or_refused in no_result steps.too_far fz e q
    opens (some y) e q = unfold steps.or_refused in ap {B = Option Env} some (ok_same y e q)

outer_inv : (early : Bool) (es : List Env) (fz space : ℕ) (up : Index) (name z : ℕ) (x : Operand) → steps.resolve_outer early es fz space up (Id name) z ≡ ok x → OuterBy early es fz space up name z
unfolding steps.resolve_outer
outer_inv early es fz space (Num d) name z x q = outer_numbers_inv early es fz space (Num d) name z x q
outer_inv early es fz space (Id n) name z x q = outer_numbers_inv early es fz space (Id n) name z x q

module _ (rules : RuleSet) (around : Around) (s : Scope) (r : Scope × ℕ) (low : LowScope s) (early : rules.early ≡ true) (eq : resolve_inside rules around.outside s ≡ ok r) where
  -- what is known of the operand at `p`
  record At (p : Place) (u : Use) (ns : List ℕ) : Type 0 where
    came_there : Came s (at_root rules around.outside) p.way p.field p.at u
    scopes_there : Scopes around.base around.ins (names_of around.outside) s p.way p.field came_there.fs (opened came_there.p.0 (seeing came_there.inner came_there.passed.seen))
    levels_are : u.levels ≡ level scopes_there.w came_there.fs ∷ scopes_there.around_it
    names_are : ns ≡ names_of (opened came_there.p.0 (seeing came_there.inner came_there.passed.seen))

  at : (p : Place) (u : Use) (ns : List ℕ) → readings.use_inside around.base around.ins s p ≡ some u → names_around p.way s (names_of around.outside) ≡ some ns → At p u ns
  unfolding readings.use_inside
  at p u ns eu en =
      let s₁ = then_some (readings.around p.way (level around.base (readings.fields_of s)) around.ins) _ u eu in
      let C = came p.way s (at_root rules around.outside) 0 r around.base around.ins s₁.0 p.field p.at u low eq s₁.1 s₁.2 in
      let S = scopes around.base low refl around.times C.enters C.k C.p C.prepares p.field C.passed.seen C.passed.seen_is in
      record {
        came_there = C;
        scopes_there = S;
        levels_are = runs.use_levels s₁.0 p.field p.at u s₁.2 ∙ some_same _ _ (sym s₁.1 ∙ S.arrives);
        names_are = some_same _ _ (sym en ∙ S.names_are);
      }

  same_rules : {way : List ℕ} {t : Scope} {inner : Outside} → Enters s (at_root rules around.outside) way t inner → inner.early ≡ true
  same_rules E = sym (same_early E) ∙ early

  -- a walked name
  walked_early : (p : Place) (u : Use) (space name z : ℕ) → readings.use_inside around.base around.ins s p ≡ some u → u.operand ≡ ref space (Id name) [] z → here_only u.head.code ≡ false
      → EarlierName around.base p (record { scopes = u.levels; space = space; name = name })
  unfolding means
  walked_early p u space name z eu is c =
      let w : readings.walked u.head u.operand ≡ some (space, name) = ap (readings.walked u.head) is ∙ walked_is u.head space name z c in
      let at_p = runs.walked_at_lem around.base around.ins s p u (space, name) eu w in
      let D = readings_agree rules around.base around.frames s r p (space, name) low eq at_p in
      record {
        declaration = D.0;
        meant = sym (reading_is around.base around.ins s p u (space, name) eu w) ∙ D.1;
        earlier = accepted_early rules around.base around.times s r p (space, name) D.0 low early eq at_p D.1;
      }

  -- the instance that a path begins with
  path_early : (p : Place) (u : Use) (ns : List ℕ) → At p u ns → (space name q : ℕ) (ps : List ℕ) (z : ℕ) → u.operand ≡ ref space (Id name) (q ∷ ps) z → here_only u.head.code ≡ false
      → EarlierName around.base p (record { scopes = take 1 u.levels; space = instance_space space ps; name = name })
  unfolding means
  path_early p u ns A space name q ps z is c =
      let C = A.came_there in
      let P = C.passed in
      let o = seeing C.inner P.seen in
      let has-ref : get_elem? (head_of C.i).operands p.at ≡ some (ref space (Id name) (q ∷ ps) z) = C.has_it ∙ ap {B = Option Operand} some is in
      let name-low = (low_operand (head_of C.i).operands p.at _ P.low_head.operands has-ref).1 in
      let I = holds_of _ _ P.e (head_on (declarations C.fs) o space name q ps z P.b (head_of C.i) p.at (ap (λ (h : Head). here_only h.code) C.head_is ∙ c) has-ref) P.expands in
      let J = holds_of _ _ P.new (instance_passed C.p.0 o (instance_space space ps) name I.z P.e.inserted I.in_it I.on) P.adds in
      let timely = timely_instance C.p.0 o (instance_space space ps) name I.z (same_rules C.enters) name-low (ap (λ (os : List Operand). steps.late_instance C.p.0 o os) (sym I.on) ∙ J.timely) in
      let D = in_one (first_alone A.scopes_there.times) (instance_space space ps) name J.number name-low (named_number C.p.0.entries (instance_space space ps) name I.z J.number J.found) timely in
      record {
        declaration = D.0;
        meant = ap (λ (ls : List Level). outward (take 1 ls) (instance_space space ps) name) A.levels_are ∙ D.1;
        earlier = early_declaration around.base p.way p.field p.at D.0 D.2;
      }

  -- a named index of OUTER
  index_early : (p : Place) (u : Use) (ns : List ℕ) → At p u ns → (space : ℕ) (up : Index) (name z d : ℕ) (l : Level) → u.operand ≡ outer space up (Id name) z → upward ns up ≡ some d → get_elem? u.levels d ≡ some l
      → EarlierName around.base p (record { scopes = l ∷ []; space = space; name = name })
  unfolding means
  index_early p u ns A space up name z d l is goes leads =
      let C = A.came_there in
      let P = C.passed in
      let o = seeing C.inner P.seen in
      let es = opened C.p.0 o in
      let has-outer : get_elem? (head_of C.i).operands p.at ≡ some (outer space up (Id name) z) = C.has_it ∙ ap {B = Option Operand} some is in
      let name-low = (low_operand (head_of C.i).operands p.at _ P.low_head.operands has-outer).1.1 in
      let kept = holds_of _ _ P.e (head_keeps space up (Id name) z (declarations C.fs) o P.b (head_of C.i) p.at has-outer) P.expands in
      let O = holds_of _ _ P.h (head_passes space up (Id name) z C.p.0 o P.e.now p.at kept) P.resolves in
      let N = outer_inv o.early es O.0 space up name z O.1 O.2 in
      let d-is : N.d ≡ d = some_same _ _ (sym (up_is es up O.0 N.d N.goes) ∙ (ap (λ (v : List ℕ). upward v up) (sym A.names_are) ∙ goes)) in
      let there : get_elem? (level A.scopes_there.w C.fs ∷ A.scopes_there.around_it) d ≡ some l = ap (λ (ls : List Level). get_elem? ls d) (sym A.levels_are) ∙ leads in
      let D = index_in_lem A.scopes_there.times N (same_rules C.enters) name-low d l d-is there in
      record { declaration = D.0; meant = D.1; earlier = early_declaration around.base p.way p.field p.at D.0 D.2 }

  -- Every name that is held to earlier declarations means one.
  pub accepted_earlier : (p : Place) (x : Name) → tested_inside around.base around.ins (names_of around.outside) s p ≡ some x → EarlierName around.base p x
  unfolding tested_inside name_of
  accepted_earlier p x e =
      let s₁ = then_some (readings.use_inside around.base around.ins s p) _ x e in
      let s₂ = then_some (names_around p.way s (names_of around.outside)) _ x s₁.2 in
      go s₁.0 s₂.0 s₁.1 (at p s₁.0 s₂.0 s₁.1 s₂.1) s₁.0.operand refl s₂.2
    where
      go : (u : Use) (ns : List ℕ) → readings.use_inside around.base around.ins s p ≡ some u → At p u ns → (op : Operand) → u.operand ≡ op → name_of ns u.levels u.head op ≡ some x → EarlierName around.base p x
      go u ns eu A (ref space (Num n) paths z) is q = no_option x q
      go u ns eu A (ref space (Id name) [] z) is q =
          let O = only_inv (here_only u.head.code) _ x q in
          subst (EarlierName around.base p) O.1 (walked_early p u space name z eu is O.0)
      go u ns eu A (ref space (Id name) (q₁ ∷ ps) z) is q =
          let O = only_inv (here_only u.head.code) _ x q in
          subst (EarlierName around.base p) O.1 (path_early p u ns A space name q₁ ps z is O.0)
      go u ns eu A (outer space up (Num n) z) is q = no_option x q
      go u ns eu A (outer space up (Id name) z) is q =
          let s₁ = then_some (upward ns up) _ x q in
          let s₂ = then_some (get_elem? u.levels s₁.0) _ x s₁.2 in
          subst (EarlierName around.base p) (some_same _ x s₂.2) (index_early p u ns A space up name z s₁.0 s₂.0 is s₁.1 s₂.1)
      go u ns eu A (case name z) is q = no_option x q
