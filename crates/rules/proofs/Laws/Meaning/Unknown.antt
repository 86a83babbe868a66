-- A walked name is refused as unknown, when its turn comes, exactly if no scope around it declares it.
use Rattle.std.specs.Prelude.{◌≡◌, refl, Bool, ◌&&◌, ◌||◌, not, ◌↔◌, eqb, take}
use Rattle.std.proofs.Math.Path.{ap, sym}
use Rattle.std.proofs.Common.{◌∙◌, subst, arith}
use Rattle.std.proofs.Math.Bool.{true, false}
use Rattle.std.proofs.Math.Option.{Option, none, some, map}
use mathlib.Core.List.{List, [], ◌∷◌, ◌++◌}
use Prim.Native.Nat.{ℕ, zero, suc, ◌≤◌}
use Rattle.std.proofs.Math.ListN.{get_elem?}
use Rattle.rules.specs.Tools.{when◌then◌else◌, is_just, ◌then◌, is_in, ◌or_else◌}
use Rattle.rules.specs.Versions.{RuleSet, top_name}
use Rattle.rules.specs.Rows.{Id}
use Rattle.rules.specs.Tree.{Declaration, Operand, ref, outer, case, Head, Scope, scope, Fields, end, ◌▸◌, Item, holds, head_of}
use Rattle.rules.specs.Shapes.{here_only}
use Rattle.rules.specs.Rules
use Rattle.rules.specs.Rules.{table_of, decls_in, Entry, Before, opened, unknown, Refusal, refused, ok, ◌>>=◌, Env, Outside, onward, at_root, inward, find, fresh, walk, Expanded, expand_head, expand_fields, heads_decls, declarations, prepare, resolve_operands, resolve_head, resolve_inserted, resolve_scope, resolve_fields, resolve_item, resolve_inside}
use Rattle.rules.specs.Readings
use Rattle.rules.specs.Readings.{originals, Place, Level, level, Spot, original, inserted, standings, first_named, of_space, place, declared, outward}
use Rattle.rules.specs.Laws.ToolLaws.{then_some, eqb-false, and-false, or-true}
use Rattle.rules.specs.Laws.Meaning.Names.{LowOperand, LowHead, LowScope, LowFields, LowItem}
use Rattle.rules.proofs.Laws.Meaning.Runs
use Rattle.rules.proofs.Laws.Meaning.Runs.{seeing, AllNew}
use Rattle.rules.proofs.Laws.Meaning.Lookups
use Rattle.rules.proofs.Laws.Meaning.Lookups.{in_heads, has, Found, found}
use Rattle.rules.proofs.Laws.Meaning.StepB.{Made, left, aliased, walked_ref, low_operand, head_made}
use Rattle.rules.proofs.Laws.Meaning.Frames
use Rattle.rules.proofs.Laws.Meaning.Frames.{Framed, Frames}
use Rattle.rules.proofs.Laws.Meaning.Agree
use Rattle.rules.proofs.Laws.Meaning.Turns.{Comes, at_once, past, Turn, own, further, lookup, place_of}
use Rattle.rules.specs.Laws.Entries.{field_decls, number_is}
use Rattle.rules.specs.Laws.Results.{just_none, not_refused, bind_known, refused_then, OkR, holds_of, bind_ok, bind_inv, no_result, some_same, ok_same, refused_first, no_option}

-- ---- is a name declared?

find_step : (a b : Bool) (o : Option ℕ) (t : Bool) → is_just o ≡ t → is_just (when a then when b then some 0 else map suc o else o) ≡ (a && b) || t
unfolding when◌then◌else◌
find_step true true o t e = refl
find_step true false none t e = e
find_step true false (some n) t e = e
find_step false b o t e = e

pub find_has : (ds : List Declaration) (space name : ℕ) → is_just (find ds space name) ≡ has ds space name
unfolding find has
find_has [] space name = refl
find_has (d ∷ ds) space name = find_step (eqb d.space space) (eqb d.name name) (find ds space name) (has ds space name) (find_has ds space name)

or_assoc : (a b c : Bool) → (a || b) || c ≡ a || (b || c)
or_assoc true b c = refl
or_assoc false b c = refl

or-false : (a : Bool) → a || false ≡ a
or-false true = refl
or-false false = refl

pub has_append : (xs ys : List Declaration) (space name : ℕ) → has (xs ++ ys) space name ≡ has xs space name || has ys space name
unfolding has
has_append [] ys space name = refl
has_append (x ∷ xs) ys space name = rw (has_append xs ys space name) (sym (or_assoc (eqb x.space space && eqb x.name name) (has xs space name) (has ys space name)))

-- not by an insertion, if it is a name of the input
has_other : (d : Declaration) (ds : List Declaration) (space name : ℕ) → ¬ (d.name ≡ name) → has (d ∷ ds) space name ≡ has ds space name
unfolding has
has_other d ds space name h = rw (eqb-false d.name name h, and-false (eqb d.space space))

pub new_has : (lo hi : ℕ) (hs : List Head) (space name : ℕ) → AllNew lo hi hs → name ≤ top_name → has (heads_decls hs) space name ≡ false
unfolding has heads_decls fresh
new_has lo hi [] space name a l = refl
new_has lo hi (h ∷ hs) space name a l =
    ap (λ (ds : List Declaration). has (ds ++ heads_decls hs) space name) a.0.alone
    ∙ (has_other a.0.decl (heads_decls hs) space name (omega (arith, a.0.named)) ∙ new_has lo hi hs space name a.1 l)

-- the table of step C declares, of the input's names, those of step A
pub table_has : (fs : Fields) (ds : List Declaration) (outside : Outside) (b : ℕ) (space name : ℕ) → name ≤ top_name
    → OkR (λ t. has (decls_in t.0) space name ≡ has (declarations fs) space name) (expand_fields ds outside b fs)
unfolding expand_fields declarations
table_has end ds outside b space name l = refl
table_has (i ▸ fs) ds outside b space name l =
    bind_ok _ _ _ _ (Runs.head_grown ds outside b (head_of i)) (λ e g. bind_ok _ _ _ _ (table_has fs ds (onward i outside) e.k space name l) (λ t m.
    rw (
      field_decls _ _ e.inserted e.rows (head_of i).decls t.0,
      has_append (heads_decls e.inserted) ((head_of i).decls ++ decls_in t.0) space name,
      new_has b e.k e.inserted space name g.1 l,
      has_append (head_of i).decls (decls_in t.0) space name,
      has_append (head_of i).decls (declarations fs) space name,
      m,
    )))

expand_step : (ds : List Declaration) (outside : Outside) (b : ℕ) (i : Item) (fs : Fields) (t : List Entry × ℕ) (e : Expanded Head)
    → expand_fields ds outside b (i ▸ fs) ≡ ok t → expand_head ds outside b (head_of i) ≡ ok e
    → (r : List Entry × ℕ) × (expand_fields ds (onward i outside) e.k fs ≡ ok r) × (heads_decls e.inserted ++ ((head_of i).decls ++ decls_in r.0) ≡ decls_in t.0)
unfolding expand_fields
expand_step ds outside b i fs t e et ee =
    let s₁ = bind_inv (expand_fields ds (onward i outside) e.k fs) _ t (bind_known (expand_head ds outside b (head_of i)) _ e t ee et) in
    (s₁.0, s₁.1, sym (field_decls _ _ e.inserted e.rows (head_of i).decls s₁.0.0) ∙ ap (λ (p : List Entry × ℕ). decls_in p.0) (ok_same _ t s₁.2))

-- and those that were inserted at a field that step C comes to
comes_has : {ds : List Declaration} {here : Env} {outside : Outside} {fs : Fields} {b k n : ℕ} {i : Item} {rest : Fields} {b' k' : ℕ} {seen : Before}
    → Comes ds here outside fs b k n i rest b' k' seen → (t : List Entry × ℕ) (e : Expanded Head) (space name : ℕ)
    → expand_fields ds outside b fs ≡ ok t → expand_head ds (seeing outside seen) b' (head_of i) ≡ ok e → has (heads_decls e.inserted) space name ≡ true → has (decls_in t.0) space name ≡ true
comes_has {ds} (at_once {outside = outside} {i = i} {fs = fs} {b = b}) t e space name et ee h =
    let S = expand_step ds outside b i fs t e et ee in
    rw (← S.2, has_append (heads_decls e.inserted) ((head_of i).decls ++ decls_in S.0.0) space name, h)
comes_has {ds} (past {outside = outside} {i = i} {fs = fs} {b = b} e₀ new h₀ q e₁ e₂ e₃ e₄ C) t e space name et ee h =
    let S = expand_step ds outside b i fs t e₀ et e₁ in
    rw (
      ← S.2,
      has_append (heads_decls e₀.inserted) ((head_of i).decls ++ decls_in S.0.0) space name,
      has_append (head_of i).decls (decls_in S.0.0) space name,
      comes_has C S.0 e space name S.1 ee h,
      or-true (has (head_of i).decls space name),
    )
    (or-true (has (heads_decls e₀.inserted) space name))

-- ---- the scopes around a place, in the input and as tables

pub record Tabled (l : Level) (e : Env) : Type 0 where
  pub low : LowFields l.fields
  pub same : (space name : ℕ) → name ≤ top_name → has (table_of e) space name ≡ has (declarations l.fields) space name

-- of a scope around it matters what it declares
held_by : {l : Level} {e : Env} → Tabled l e → (seen : List Declaration) → Tabled l (record { name = e.name; entries = e.entries; before = seen })
held_by T seen = record { low = T.low; same = T.same }

data Tables : List Level → List Env → Type 0 where
  nowhere : Tables [] []
  inside : {l : Level} {e : Env} {ls : List Level} {es : List Env} → Tabled l e → Tables ls es → Tables (l ∷ ls) (e ∷ es)

found_just : (ss : List Spot) (o : Option ℕ) (q : Option Spot) → Found ss o q → is_just q ≡ is_just o
found_just ss none none f = refl
found_just ss none (some s) f = absurd f
found_just ss (some n) none f = absurd f
found_just ss (some n) (some s) f = refl

pub placed_just : (l : Level) (q : Option Spot) → Frames.InOriginal q → is_just (q then place l) ≡ is_just q
unfolding ◌then◌ place
placed_just l none i = refl
placed_just l (some (original field at)) i = refl
placed_just l (some (inserted h)) i = absurd i

first_has : (fs : Fields) (space name : ℕ) → is_just (first_named (standings 0 fs) space name) ≡ has (declarations fs) space name
first_has fs space name =
    found_just (of_space (standings 0 fs) space) (find (declarations fs) space name) (first_named (standings 0 fs) space name)
    (rw (Lookups.standings_decls 0 fs) at (found (standings 0 fs) space name))
    ∙ find_has (declarations fs) space name

pub declared_has : (l : Level) (space name : ℕ) → LowFields l.fields → is_just (declared l space name) ≡ has (declarations l.fields) space name
unfolding declared
declared_has l space name low =
    placed_just l (first_named (standings 0 l.fields) space name) (Frames.low_original 0 l.fields space name low) ∙ first_has l.fields space name

-- the scopes around a run, of which the readings agree, have these tables
pub framed_tabled : {l l' : Level} {e : Env} → Framed l l' e → Tabled l e
framed_tabled {l} {l'} {e} F =
    record {
      low = F.low;
      same = λ space name low.
          ap (λ (ds : List Declaration). has ds space name) (sym F.table)
          ∙ (sym (first_has l'.fields space name) ∙ (ap is_just (F.same_first space name low) ∙ first_has l.fields space name));
    }

tables : {ls ls' : List Level} {es : List Env} → Frames ls ls' es → Tables ls es
tables Frames.nowhere = nowhere
tables (Frames.inside F Fs) = inside (framed_tabled F) (tables Fs)

or_else_just : {A : Type 0} (a b : Option A) → is_just (a or_else b) ≡ is_just a || is_just b
unfolding ◌or_else◌
or_else_just none b = refl
or_else_just (some a) b = refl

map_just : {A B : Type 0} (g : A → B) (o : Option A) → is_just (map g o) ≡ is_just o
map_just g none = refl
map_just g (some a) = refl

-- a walk ends somewhere exactly if one of the scopes declares the name
walk_just : {ls : List Level} {es : List Env} → Tables ls es → (c space name : ℕ) → name ≤ top_name → is_just (walk es c space name) ≡ is_just (outward ls space name)
unfolding walk outward
walk_just nowhere c space name l = refl
walk_just (inside {l = v} {e = e} {ls = ls} {es = es} T Ts) c space name l =
    rw (
      or_else_just (map {B = ℕ × ℕ} (λ (n : ℕ). (c, n)) (find (table_of e) space name)) (walk es (suc c) space name),
      map_just {B = ℕ × ℕ} (λ (n : ℕ). (c, n)) (find (table_of e) space name),
      find_has (table_of e) space name,
      T.same space name l,
      walk_just Ts (suc c) space name l,
      or_else_just (declared v space name) (outward ls space name),
      declared_has v space name T.low,
    )

if_just : {A : Type 0} (b : Bool) (a : A) (o : Option A) (t : Bool) → is_just o ≡ t → is_just (when b then some a else o) ≡ b || t
unfolding when◌then◌else◌
if_just true a o t e = refl
if_just false a o t e = e

-- ---- a walked name at its turn

-- what step B made of it is in the table exactly if the outward reading gives a declaration
in_heads_has : (hs : List Head) (space name : ℕ) → is_just (first_named (in_heads hs) space name) ≡ has (heads_decls hs) space name
unfolding in_heads heads_decls has first_named
in_heads_has [] space name = refl
in_heads_has (h ∷ hs) space name = rw (Lookups.first_of_heads h hs space name, has_append h.decls (heads_decls hs) space name) (if_just (has h.decls space name) (inserted h) (first_named (in_heads hs) space name) (has (heads_decls hs) space name) (in_heads_has hs space name))

module _ (l : Level) (ins : List Level) (here : Env) (outside : Outside) (T : Tabled l here) (Ts : Tables ins outside.scopes) (space name z b : ℕ) (low : name ≤ top_name) where
  -- what step B made of the name is in the table exactly if a scope around declares the name
  made_has : (now : Operand) (new : List Head) → Made (declarations l.fields) outside space name z b now new
      → ((j : ℕ) → has (heads_decls new) space (fresh j) ≡ true → has (table_of here) space (fresh j) ≡ true)
      → (y : ℕ) × (now ≡ ref space (Id y) [] z) × (has (table_of here) space y ≡ is_just (outward (l ∷ ins) space name))
  unfolding outward
  made_has now new (left e p) h = (
    name,
    e,
    rw (
      or_else_just (declared l space name) (outward ins space name),
      declared_has l space name T.low,
      ← walk_just Ts 1 space name low,
      T.same space name low,
    )
        (sym (rw (find_has (declarations l.fields) space name) at p)),
  )
  made_has now new (aliased j at f w b e a) h = (
    fresh j,
    e,
    rw (
      or_else_just (declared l space name) (outward ins space name),
      declared_has l space name T.low,
      ← walk_just Ts 1 space name low,
      w,
    )
        (h j (sym (in_heads_has new space (fresh j)) ∙ ap is_just a) ∙ sym (or-true (has (declarations l.fields) space name))),
  )

pub tabled : (name : ℕ) (fs : Fields) (outside : Outside) (k : ℕ) (p : Env × ℕ) (w : List ℕ) → LowFields fs → prepare name fs outside k ≡ ok p → Tabled (level w fs) p.0
tabled name fs outside k p w low e =
    let P = Runs.prepared name fs outside k p e in
    record {
      low = low;
      same = λ space x l. ap (λ (es : List Entry). has (decls_in es) space x) P.2 ∙ holds_of _ _ P.0 (table_has fs (declarations fs) outside k space x l) P.1;
    }

-- the field that step C comes to, as the readings find it
pub comes_at : {ds : List Declaration} {here : Env} {outside : Outside} {fs : Fields} {b k n : ℕ} {i : Item} {rest : Fields} {b' k' : ℕ} {seen : Before}
    → Comes ds here outside fs b k n i rest b' k' seen → LowFields fs → (get_elem? (originals fs) n ≡ some i) × LowHead (head_of i) × LowItem i
comes_at (at_once {i = i} {fs = fs}) low = (rw (Lookups.originals_original i fs (Lookups.low_original (head_of i) low.0.decls)), low.0, low.1)
comes_at (past {i = i} {fs = fs} e new h q e₁ e₂ e₃ e₄ C) low =
    let I = comes_at C low.2 in
    (rw (Lookups.originals_original i fs (Lookups.low_original (head_of i) low.0.decls)) I.0, I.1, I.2)

low_fields : (s : Scope) → LowScope s → LowFields (Readings.fields_of s)
low_fields (scope kind name fs) low = low.1

-- What is known of a walked name at its turn, with the scopes `ls` around it: `y` is the name that step B left or gave it.
abbrev Known : (ls : List Level) (space name z : ℕ) (here : Env) (now : Operand) → Type 0
Known ls space name z here now = (y : ℕ) × (now ≡ ref space (Id y) [] z) × (has (table_of here) space y ≡ is_just (outward ls space name))

own_known : (scope-name : ℕ) (fs : Fields) (outside : Outside) (k n o b k' : ℕ) (i : Item) (rest : Fields) (now : Operand) (seen : Before) (p : Env × ℕ) (e : Expanded Head)
    (w : List ℕ) (ins : List Level) (space name z : ℕ) → LowFields fs → Tables ins outside.scopes
    → prepare scope-name fs outside k ≡ ok p → Comes (declarations fs) p.0 outside fs k p.1 n i rest b k' seen
    → expand_head (declarations fs) (seeing outside seen) b (head_of i) ≡ ok e → get_elem? e.now.operands o ≡ some now
    → here_only (head_of i).code ≡ false → get_elem? (head_of i).operands o ≡ some (ref space (Id name) [] z)
    → Known (level w fs ∷ ins) space name z p.0 now
own_known scope-name fs outside k n o b k' i rest now seen p e w ins space name z low Ts ep C ee en c er =
    let l : LowOperand (ref space (Id name) [] z) = low_operand (head_of i).operands o (ref space (Id name) [] z) (comes_at C low).1.operands er in
    let M = holds_of _ _ e (head_made (declarations fs) (seeing outside seen) space name z b (head_of i) o c er) ee in
    let P = Runs.prepared scope-name fs outside k p ep in
    made_has (level w fs) ins p.0 (seeing outside seen) (tabled scope-name fs outside k p w low ep) Ts space name z b l.1 now e.inserted
    (subst (λ (x : Operand). Made (declarations fs) (seeing outside seen) space name z b x e.inserted) (some_same M.0 now (sym M.1 ∙ en)) M.2)
    (λ j h. ap (λ (es : List Entry). has (decls_in es) space (fresh j)) P.2 ∙ comes_has C P.0 e space (fresh j) P.1 ee h)

own_turn : (scope-name : ℕ) (fs : Fields) (outside : Outside) (k n o b k' : ℕ) (i : Item) (rest : Fields) (now : Operand) (seen : Before) (p : Env × ℕ) (e : Expanded Head)
    (w : List ℕ) (ins : List Level) (u : Readings.Use) (x : ℕ × ℕ) → LowFields fs → Tables ins outside.scopes
    → prepare scope-name fs outside k ≡ ok p → Comes (declarations fs) p.0 outside fs k p.1 n i rest b k' seen
    → expand_head (declarations fs) (seeing outside seen) b (head_of i) ≡ ok e → get_elem? e.now.operands o ≡ some now
    → Readings.use_in (level w fs ∷ ins) n o ≡ some u → Readings.walked u.head u.operand ≡ some x
    → Known (level w fs ∷ ins) x.0 x.1 (place_of u.operand) p.0 now
own_turn scope-name fs outside k n o b k' i rest now seen p e w ins u x low Ts ep C ee en eu ew =
    let U = Agree.use_inv (level w fs) ins n o u eu in
    let same : U.0 ≡ i = some_same U.0 i (sym U.1 ∙ (comes_at C low).0) in
    let W = walked_ref u.head u.operand x ew in
    subst (λ (z : ℕ). Known (level w fs ∷ ins) x.0 x.1 z p.0 now) (sym (ap place_of W.1))
    (own_known scope-name fs outside k n o b k' i rest now seen p e w ins x.0 x.1 W.0 low Ts ep C ee en
    (ap (λ (j : Item). here_only (head_of j).code) (sym same) ∙ (ap (λ (h : Head). here_only h.code) U.3 ∙ W.2))
    (ap (λ (j : Item). get_elem? (head_of j).operands o) (sym same) ∙ (U.2 ∙ ap {B = Option Operand} some W.1)))

around_known : (n : ℕ) (way : List ℕ) (l : Level) (outside : List Level) (h : Head) (s : Scope) (ls : List Level) → get_elem? (originals l.fields) n ≡ some (holds h s)
    → Readings.around (n ∷ way) l outside ≡ some ls → Readings.around way (level (l.way ++ (n ∷ [])) (Readings.fields_of s)) (l ∷ outside) ≡ some ls
unfolding Readings.around Readings.held ◌then◌
around_known n way l outside h s ls e q = rw e at q

turn_has : {s : Scope} {outside : Outside} {k : ℕ} {way : List ℕ} {f o : ℕ} {here : Env} {now : Operand} → Turn s outside k way f o here now
    → (w : List ℕ) (ins ls : List Level) (u : Readings.Use) (x : ℕ × ℕ) → LowScope s → Tables ins outside.scopes
    → Readings.around way (level w (Readings.fields_of s)) ins ≡ some ls → Readings.use_in ls f o ≡ some u → Readings.walked u.head u.operand ≡ some x
    → Known ls x.0 x.1 (place_of u.operand) here now
unfolding Readings.around Readings.held
turn_has (own {name = name} {fs = fs} {outside = outside} {k = k} {n = n} {o = o} {b = b} {k' = k'} {i = i} {rest = rest} {now = now} {seen = seen} p e new os ep C ee en eo et) w ins ls u x low Ts ea eu ew =
    let same : (level w fs ∷ ins) ≡ ls = some_same _ ls ea in
    subst (λ (v : List Level). Known v x.0 x.1 (place_of u.operand) p.0 now) same
    (own_turn name fs outside k n o b k' i rest now seen p e w ins u x low.1 Ts ep C ee et (ap (λ (v : List Level). Readings.use_in v n o) same ∙ eu) ew)
turn_has (further {name = name} {fs = fs} {outside = outside} {k = k} {n = n} {way = way} {h₀ = h₀} {s = s} {seen = seen} p e new h ep C ee en eh t) w ins ls u x low Ts ea eu ew =
    let I = comes_at C low.1 in
    turn_has t (w ++ (n ∷ [])) (level w fs ∷ ins) ls u x I.2 (inside (held_by (tabled name fs outside k p w low.1 ep) seen.decls) Ts)
    (around_known n way (level w fs) ins h₀ s ls I.0 ea) eu ew

-- ---- a refusal at its turn is the run's

module _ (here : Env) (outside : Outside) (m : Refusal) (p : ℕ) where
  operands_refuse : (fz : ℕ) (seen : List ℕ) (os : List Operand) (o : ℕ) (os₁ : List Operand) (now : Operand) → resolve_operands here outside fz seen (take o os) ≡ ok os₁
      → get_elem? os o ≡ some now → lookup here now ≡ refused m p → resolve_operands here outside fz seen os ≡ refused m p
  unfolding resolve_operands when◌then◌else◌
  operands_refuse fz seen [] o os₁ now e g l = no_option now g
  operands_refuse fz seen (x ∷ os) zero os₁ now e g l = at_first x (ap (lookup here) (some_same x now g) ∙ l)
    where
      at_first : (x : Operand) → lookup here x ≡ refused m p → resolve_operands here outside fz seen (x ∷ os) ≡ refused m p
      at_first (ref space at paths z) q = refused_first (Rules.number_in here.entries space at z) _ m p q
      at_first (outer space up at z) q = not_refused 0 m p q
      at_first (case name z) q = not_refused 0 m p q
  operands_refuse fz seen (ref space at paths z ∷ os) (suc o) os₁ now e g l =
      let s₁ = bind_inv (Rules.number_in here.entries space at z) _ os₁ e in
      let s₂ = bind_inv (resolve_operands here outside fz seen (take o os)) _ os₁ s₁.2 in
      refused_then (Rules.number_in here.entries space at z) _ s₁.0 m p s₁.1
      (refused_first (resolve_operands here outside fz seen os) _ m p (operands_refuse fz seen os o s₂.0 now s₂.1 g l))
  operands_refuse fz seen (outer space up at z ∷ os) (suc o) os₁ now e g l =
      let s₁ = bind_inv (Rules.resolve_outer outside.early (opened here outside) fz space up at z) _ os₁ e in
      let s₂ = bind_inv (resolve_operands here outside fz seen (take o os)) _ os₁ s₁.2 in
      refused_then (Rules.resolve_outer outside.early (opened here outside) fz space up at z) _ s₁.0 m p s₁.1
      (refused_first (resolve_operands here outside fz seen os) _ m p (operands_refuse fz seen os o s₂.0 now s₂.1 g l))
  operands_refuse fz seen (case name z ∷ os) (suc o) os₁ now e g l =
      passed (not (eqb name 0) && is_in name seen) e (λ os₂ e₂. operands_refuse fz (name ∷ seen) os o os₂ now e₂ g l)
    where
      passed : (b : Bool) → (when b then refused Rules.case_twice z else (resolve_operands here outside fz (name ∷ seen) (take o os) >>= λ os'. ok (case name z ∷ os'))) ≡ ok os₁
          → ((os₂ : List Operand) → resolve_operands here outside fz (name ∷ seen) (take o os) ≡ ok os₂ → resolve_operands here outside fz (name ∷ seen) os ≡ refused m p)
          → (when b then refused Rules.case_twice z else (resolve_operands here outside fz (name ∷ seen) os >>= λ os'. ok (case name z ∷ os'))) ≡ refused m p
      passed true e below = no_result Rules.case_twice z os₁ e
      passed false e below =
          let s₁ = bind_inv (resolve_operands here outside fz (name ∷ seen) (take o os)) _ os₁ e in
          refused_first (resolve_operands here outside fz (name ∷ seen) os) _ m p (below s₁.0 s₁.1)

fields_refuse : {ds : List Declaration} {here : Env} {outside : Outside} {fs : Fields} {b k n : ℕ} {i : Item} {rest : Fields} {b' k' : ℕ} {seen : Before}
    → Comes ds here outside fs b k n i rest b' k' seen → (m : Refusal) (p : ℕ) → resolve_fields (i ▸ rest) ds here (seeing outside seen) b' k' ≡ refused m p → resolve_fields fs ds here outside b k ≡ refused m p
unfolding resolve_scope
fields_refuse at_once m p r = r
fields_refuse {ds} {here} (past {outside = outside} {i = i} {fs = fs} {b = b} {k = k} e new h q e₁ e₂ e₃ e₄ C) m p r =
    refused_then (expand_head ds outside b (head_of i)) _ e m p e₁
    (refused_then (resolve_inserted here outside e.inserted) _ new m p e₂
    (refused_then (resolve_head here outside e.now) _ h m p e₃
    (refused_then (resolve_item i h here outside k) _ q m p e₄
    (refused_first (resolve_fields fs ds here (onward i outside) e.k q.1) _ m p (fields_refuse C m p r)))))

-- the field that the turn is in
head_refuses : (ds : List Declaration) (here : Env) (outside : Outside) (i : Item) (rest : Fields) (b k : ℕ) (m : Refusal) (p : ℕ) (e : Expanded Head) (new : List Head)
    → expand_head ds outside b (head_of i) ≡ ok e → resolve_inserted here outside e.inserted ≡ ok new → resolve_head here outside e.now ≡ refused m p
    → resolve_fields (i ▸ rest) ds here outside b k ≡ refused m p
unfolding resolve_scope
head_refuses ds here outside i rest b k m p e new e₁ e₂ r =
    refused_then (expand_head ds outside b (head_of i)) _ e m p e₁
    (refused_then (resolve_inserted here outside e.inserted) _ new m p e₂ (refused_first (resolve_head here outside e.now) _ m p r))

inner_refuses : (ds : List Declaration) (here : Env) (outside : Outside) (h₀ : Head) (s : Scope) (rest : Fields) (b k : ℕ) (m : Refusal) (p : ℕ) (e : Expanded Head) (new : List Head) (h : Head)
    → expand_head ds outside b h₀ ≡ ok e → resolve_inserted here outside e.inserted ≡ ok new → resolve_head here outside e.now ≡ ok h
    → resolve_scope s (inward h₀ here outside) k ≡ refused m p → resolve_fields (holds h₀ s ▸ rest) ds here outside b k ≡ refused m p
unfolding resolve_scope head_of
inner_refuses ds here outside h₀ s rest b k m p e new h e₁ e₂ e₃ r =
    refused_then (expand_head ds outside b h₀) _ e m p e₁
    (refused_then (resolve_inserted here outside e.inserted) _ new m p e₂
    (refused_then (resolve_head here outside e.now) _ h m p e₃
    (refused_first (resolve_item (holds h₀ s) h here outside k) _ m p (refused_first (resolve_scope s (inward h₀ here outside) k) _ m p r))))

scope_refuses : (kind name : ℕ) (fs : Fields) (outside : Outside) (k : ℕ) (m : Refusal) (p : ℕ) (e : Env × ℕ) → prepare name fs outside k ≡ ok e
    → resolve_fields fs (declarations fs) e.0 outside k e.1 ≡ refused m p → resolve_scope (scope kind name fs) outside k ≡ refused m p
unfolding resolve_scope
scope_refuses kind name fs outside k m p e e₁ r =
    refused_then (prepare name fs outside k) _ e m p e₁ (refused_first (resolve_fields fs (declarations fs) e.0 outside k e.1) _ m p r)

operand_refuses : (here : Env) (outside : Outside) (h : Head) (o : ℕ) (os : List Operand) (now : Operand) (m : Refusal) (p : ℕ) → resolve_operands here outside h.z [] (take o h.operands) ≡ ok os
    → get_elem? h.operands o ≡ some now → lookup here now ≡ refused m p → resolve_head here outside h ≡ refused m p
unfolding resolve_head
operand_refuses here outside h o os now m p e g l =
    refused_first (resolve_operands here outside h.z [] h.operands) _ m p (operands_refuse here outside m p h.z [] h.operands o os now e g l)

pub turn_refuses : {s : Scope} {outside : Outside} {k : ℕ} {way : List ℕ} {f o : ℕ} {here : Env} {now : Operand} → Turn s outside k way f o here now
    → (m : Refusal) (p : ℕ) → lookup here now ≡ refused m p → resolve_scope s outside k ≡ refused m p
turn_refuses (own {kind = kind} {name = name} {fs = fs} {outside = outside} {k = k} {o = o} {b = b} {k' = k'} {i = i} {rest = rest} {now = now} {seen = seen} q e new os ep C ee en eo et) m p l =
    scope_refuses kind name fs outside k m p q ep
    (fields_refuse C m p (head_refuses (declarations fs) q.0 (seeing outside seen) i rest b k' m p e new ee en (operand_refuses q.0 (seeing outside seen) e.now o os now m p eo et l)))
turn_refuses (further {kind = kind} {name = name} {fs = fs} {outside = outside} {k = k} {b = b} {k' = k'} {h₀ = h₀} {s = s} {rest = rest} {seen = seen} q e new h ep C ee en eh t) m p l =
    scope_refuses kind name fs outside k m p q ep
    (fields_refuse C m p (inner_refuses (declarations fs) q.0 (seeing outside seen) h₀ s rest b k' m p e new h ee en eh (turn_refuses t m p l)))

-- ---- the theorem

-- refused with 9 at its own place, exactly if the table lacks it
lookup_unknown : (es : List Entry) (space y z : ℕ) → (Rules.number_in es space (Id y) z ≡ refused (unknown space) z) ↔ (has (decls_in es) space y ≡ false)
unfolding Rules.or_refused
lookup_unknown es space y z = rw (number_is es space y z, ← find_has (decls_in es) space y) (go (find (decls_in es) space y))
  where
    go : (o : Option ℕ) → (Rules.or_refused o (unknown space) z ≡ refused (unknown space) z) ↔ (is_just o ≡ false)
    go none = (λ e. refl, λ e. refl)
    go (some n) = (λ e. not_refused n (unknown space) z e, λ e. let c : ◌≡◌ {A = ℕ} 0 1 = cc in absurd (omega arith))

-- and with nothing else
number_unknown : (es : List Entry) (space y z : ℕ) (why : Refusal) (z' : ℕ) → Rules.number_in es space (Id y) z ≡ refused why z' → why ≡ unknown space
unfolding Rules.or_refused
number_unknown es space y z why z' e = go (find (decls_in es) space y) (sym (number_is es space y z) ∙ e)
  where
    go : (o : Option ℕ) → Rules.or_refused o (unknown space) z ≡ refused why z' → why ≡ unknown space
    go none e = cc
    go (some n) e = not_refused n why z' e

pub reading_is : (base : List ℕ) (ins : List Level) (s : Scope) (p : Place) (u : Readings.Use) (x : ℕ × ℕ) → Readings.use_inside base ins s p ≡ some u → Readings.walked u.head u.operand ≡ some x
    → Readings.outward_inside base ins s p ≡ outward u.levels x.0 x.1
unfolding Readings.outward_inside ◌then◌
reading_is base ins s p u x e₁ e₂ = rw (e₁, e₂)

-- At its turn a walked name is refused as unknown, at its own place, exactly if no scope around it declares it; and then so is the run.
pub unknown_exactly : (rules : RuleSet) (base : List ℕ) {ins outs : List Level} {around : List Env} → Frames ins outs around
    → (s : Scope) (p : Place) (u : Readings.Use) (x : ℕ × ℕ) (here : Env) (now : Operand) → LowScope s
    → Readings.use_inside base ins s p ≡ some u → Readings.walked u.head u.operand ≡ some x → Turn s (at_root rules around) 0 p.way p.field p.at here now
    → ((lookup here now ≡ refused (unknown x.0) (place_of u.operand)) ↔ (Readings.outward_inside base ins s p ≡ none))
    × (Readings.outward_inside base ins s p ≡ none → resolve_inside rules around s ≡ refused (unknown x.0) (place_of u.operand))
    × ((why : Refusal) (z : ℕ) → lookup here now ≡ refused why z → why ≡ unknown x.0)
unfolding Readings.use_inside
unknown_exactly rules base {ins} Fs s p u x here now low eu ew t =
    let s₁ = then_some (Readings.around p.way (level base (Readings.fields_of s)) ins) _ u eu in
    let T = turn_has t base ins s₁.0 u x low (tables Fs) s₁.1 s₁.2 ew in
    let looks : lookup here now ≡ Rules.number_in here.entries x.0 (Id T.0) (place_of u.operand) = ap (lookup here) T.1 in
    let reads : Readings.outward_inside base ins s p ≡ outward s₁.0 x.0 x.1 =
    reading_is base ins s p u x eu ew ∙ ap (λ (v : List Level). outward v x.0 x.1) (Agree.use_levels s₁.0 p.field p.at u s₁.2) in
    let there : Readings.outward_inside base ins s p ≡ none → lookup here now ≡ refused (unknown x.0) (place_of u.operand) =
    λ e. looks ∙ (lookup_unknown here.entries x.0 T.0 (place_of u.operand)).1 (T.2 ∙ ap is_just (sym reads ∙ e)) in (
      (
        λ e. reads ∙ just_none (outward s₁.0 x.0 x.1) (sym T.2 ∙ (lookup_unknown here.entries x.0 T.0 (place_of u.operand)).0 (sym looks ∙ e)),
        there,
      ),
      λ e. turn_refuses t (unknown x.0) (place_of u.operand) (there e),
      λ why z e. number_unknown here.entries x.0 T.0 (place_of u.operand) why z (sym looks ∙ e),
    )
