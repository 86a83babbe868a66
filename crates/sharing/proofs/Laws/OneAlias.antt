-- "Written, it has exactly one inserted outer alias per scope and outer declaration": in a scope that the planner proposes no two
-- inserted outer aliases have the same space, count and index.
use Rattle.std.specs.Prelude.{◌≡◌, Bool, ◌&&◌, ◌||◌}
use Rattle.std.proofs.Math.Path.{refl, ap, sym, subst}
use Rattle.std.proofs.Common.{ap₂, ◌∙◌}
use Rattle.std.proofs.Math.Bool.{true, false}
use Rattle.std.proofs.Math.Option
use Rattle.std.proofs.Math.Option.{Option, none, some}
use mathlib.Core.List.{List, [], ◌∷◌, ◌++◌, map, append_assoc}
use Prim.Native.Nat.{ℕ, zero, suc, ◌≤◌}
use native.Mathlib.Omega.{arith}
use Rattle.std.proofs.Math.Dec.{eqb}
use Rattle.rules.specs.Tools.{when◌then◌else◌, only, is_just, ◌or_else◌}
use Rattle.rules.specs.Rows.{Index, Num, Id}
use Rattle.rules.specs.Tree.{Declaration, Operand, ref, outer, case, Head, Scope, scope, Fields, end, ◌▸◌, Item, plain, holds, head_of, with_operands}
use Rattle.rules.specs.Shapes.{here_only}
use Rattle.rules.specs.Rules
use Rattle.rules.specs.Rules.{ok, Env, table_of, Before, Outside, onward, find, fresh, walk, declarations, Expanded, expand_operand, expand_operands, expand_head, path_aliases, export_alias, outer_alias, resolve_head, resolve_inserted, resolve_fields, ◌before◌}
use Rattle.rules.specs.Readings.{is_inserted, fields_of, walked}
use Rattle.checking.specs.Check.{table}
use Rattle.sharing.specs.Sharing.{Served, served_by, Marked, mark_outer, mark_operand, mark_operands, mark_head, mark_fields}
use Rattle.rules.specs.Laws.ToolLaws.{Ok, ok_at, false_not, and_left, and_right, or-true, eqb-true, eqb_same, All, done, ◌&◌, all_append, all_map}
use Rattle.rules.specs.Laws.Results.{OkR, bind_ok, bind_any, bind_eq, if_both, holds_of, ok_same, some_same, no_option}
use Rattle.rules.specs.Laws.Meaning.Names.{LowDecls, LowFields}
use Rattle.rules.proofs.Laws.Meaning.Runs
use Rattle.rules.proofs.Laws.Meaning.Runs.{seeing, ran_end, AllNew}
use Rattle.rules.proofs.Laws.Meaning.Lookups
use Rattle.rules.proofs.Laws.Meaning.StepC.{alias_resolved}
use Rattle.rules.proofs.Laws.Meaning.Agree
use Rattle.checking.proofs.Laws.Plainly.{plain_of, plain_walk}
use Rattle.sharing.proofs.Laws.Planned
use Rattle.sharing.proofs.Laws.Planned.{Under, Late, late_operand, late_head, now, item, marked_ran, marked_head, marked_end, head_decls}

-- ---- what is said

-- what an outer alias denotes: a space, a count and an index
abbrev pub Key : Type 0
Key = ℕ × ℕ × ℕ

unfoldable pub operand_keys : List Operand → List Key
operand_keys [] = []
operand_keys (ref space at paths z ∷ os) = []
operand_keys (outer space (Num d) (Num n) z ∷ os) = (space, d, n) ∷ []
operand_keys (outer space (Num d) (Id name) z ∷ os) = []
operand_keys (outer space (Id name) at z ∷ os) = []
operand_keys (case name z ∷ os) = []

-- that of an inserted outer alias
unfoldable pub head_keys : Head → List Key
head_keys h = when is_inserted h && eqb h.code 11 then operand_keys h.operands else []

-- those of a scope
unfoldable pub outer_keys : Fields → List Key
outer_keys end = []
outer_keys (i ▸ fs) = head_keys (head_of i) ++ outer_keys fs

unfoldable pub same_key : Key → Key → Bool
same_key a b = eqb a.0 b.0 && (eqb a.1 b.1 && eqb a.2 b.2)

unfoldable pub has_key : Key → List Key → Bool
has_key k [] = false
has_key k (x ∷ xs) = same_key k x || has_key k xs

-- no two of them are the same
abbrev pub Distinct : List Key → Type 0
Distinct [] = Unit {0}
Distinct (k ∷ ks) = (has_key k ks ≡ false) × Distinct ks

-- so in every scope of a tree
abbrev mutual
  pub DistinctScope : Scope → Type 0
  DistinctScope (scope kind name fs) = Distinct (outer_keys fs) × DistinctFields fs

  pub DistinctFields : Fields → Type 0
  DistinctFields end = Unit {0}
  DistinctFields (i ▸ fs) = DistinctItem i × DistinctFields fs

  pub DistinctItem : Item → Type 0
  DistinctItem (plain h) = Unit {0}
  DistinctItem (holds h s) = DistinctScope s

-- ---- one name reaches a declaration

find_same : (ds : List Declaration) (space a b n : ℕ) → find ds space a ≡ some n → find ds space b ≡ some n → a ≡ b
unfolding find
find_same [] space a b n e f = no_option n e
find_same (d ∷ ds) space a b n e f = go (eqb d.space space) (eqb d.name a) (eqb d.name b) n refl refl e f (λ m p q. find_same ds space a b m p q)
  where
    suc_same : (m : ℕ) (o : Option ℕ) → Option.map suc o ≡ some (suc m) → o ≡ some m
    suc_same m none p = no_option (suc m) p
    suc_same m (some x) p = let q : suc x ≡ suc m = some_same (suc x) (suc m) p in ap {B = Option ℕ} some (omega arith)

    never_zero : {X : Type 0} (o : Option ℕ) → Option.map suc o ≡ some 0 → X
    never_zero none p = no_option 0 p
    never_zero (some x) p = let q : suc x ≡ 0 = some_same (suc x) 0 p in absurd (omega arith)

    go : (s x y : Bool) (n : ℕ) → eqb d.name a ≡ x → eqb d.name b ≡ y
        → (when s then when x then some 0 else Option.map suc (find ds space a) else find ds space a) ≡ some n
        → (when s then when y then some 0 else Option.map suc (find ds space b) else find ds space b) ≡ some n
        → ((m : ℕ) → find ds space a ≡ some m → find ds space b ≡ some m → a ≡ b) → a ≡ b
    go false x y n p q e f r = unfold when◌then◌else◌ in r n e f
    go true true true n p q e f r = sym (eqb-true d.name a p) ∙ eqb-true d.name b q
    go true true false n p q e f r = unfold when◌then◌else◌ in never_zero (find ds space b) (f ∙ sym e)
    go true false true n p q e f r = unfold when◌then◌else◌ in never_zero (find ds space a) (e ∙ sym f)
    go true false false zero p q e f r = unfold when◌then◌else◌ in never_zero (find ds space a) e
    go true false false (suc n) p q e f r = unfold when◌then◌else◌ in r n (suc_same n (find ds space a) e) (suc_same n (find ds space b) f)

walk_far : (es : List Env) (d space name : ℕ) → Ok (λ at. d ≤ at.0) (walk es d space name)
unfolding walk ◌or_else◌
walk_far [] d space name = tt
walk_far (e ∷ es) d space name = go (find (table_of e) space name) (walk es (suc d) space name) (walk_far es (suc d) space name)
  where
    go : (o : Option ℕ) (w : Option (ℕ × ℕ)) → Ok (λ (at : ℕ × ℕ). suc d ≤ at.0) w → Ok (λ (at : ℕ × ℕ). d ≤ at.0) (Option.map (λ n. (d, n)) o or_else w)
    go none none h = tt
    go none (some at) h = omega arith
    go (some n) w h = omega arith

walk_same : (es : List Env) (d space a b : ℕ) (at : ℕ × ℕ) → walk es d space a ≡ some at → walk es d space b ≡ some at → a ≡ b
unfolding walk ◌or_else◌
walk_same [] d space a b at e f = no_option at e
walk_same (x ∷ es) d space a b at e f =
    go (find (table_of x) space a) (find (table_of x) space b) (walk es (suc d) space a) (walk es (suc d) space b) refl refl (walk_far es (suc d) space a) (walk_far es (suc d) space b) e f (λ p q. walk_same es (suc d) space a b at p q)
  where
    go : (m n : Option ℕ) (v w : Option (ℕ × ℕ)) → find (table_of x) space a ≡ m → find (table_of x) space b ≡ n → Ok (λ (y : ℕ × ℕ). suc d ≤ y.0) v → Ok (λ (y : ℕ × ℕ). suc d ≤ y.0) w
        → (Option.map (λ n. (d, n)) m or_else v) ≡ some at → (Option.map (λ n. (d, n)) n or_else w) ≡ some at → (v ≡ some at → w ≡ some at → a ≡ b) → a ≡ b
    go none none v w p q h i e f r = r e f
    go none (some n) v w p q h i e f r =
        let far : suc d ≤ at.0 = ok_at (λ (y : ℕ × ℕ). suc d ≤ y.0) v at h e in
        let here : d ≡ at.0 = ap (λ (y : ℕ × ℕ). y.0) (some_same (d, n) at f) in
        absurd (omega arith)
    go (some m) none v w p q h i e f r =
        let far : suc d ≤ at.0 = ok_at (λ (y : ℕ × ℕ). suc d ≤ y.0) w at i f in
        let here : d ≡ at.0 = ap (λ (y : ℕ × ℕ). y.0) (some_same (d, m) at e) in
        absurd (omega arith)
    go (some m) (some n) v w p q h i e f r =
        let m-is : m ≡ at.1 = ap (λ (y : ℕ × ℕ). y.1) (some_same (d, m) at e) in
        let n-is : n ≡ at.1 = ap (λ (y : ℕ × ℕ). y.1) (some_same (d, n) at f) in
        find_same (table_of x) space a b at.1 (p ∙ ap {B = Option ℕ} some m-is) (q ∙ ap {B = Option ℕ} some n-is)

-- ---- what is remembered covers a key

unfoldable pub matches : Option (ℕ × ℕ) → Key → Bool
matches none k = false
matches (some at) k = eqb at.0 k.1 && eqb at.1 k.2

unfoldable pub covers : List Env → Served → Key → Bool
covers outside m k = eqb m.space k.0 && matches (walk outside 1 m.space m.name) k

-- an alias with this key has been inserted for one of these
unfoldable pub covered : List Env → List Served → Key → Bool
covered outside [] k = false
covered outside (m ∷ ms) k = covers outside m k || covered outside ms k

matches_at : (o : Option (ℕ × ℕ)) (k : Key) → matches o k ≡ true → o ≡ some (k.1, k.2)
unfolding matches
matches_at none k e = false_not e
matches_at (some at) k e =
    let p = eqb-true at.0 k.1 (and_left (eqb at.0 k.1) _ e) in
    let q = eqb-true at.1 k.2 (and_right (eqb at.0 k.1) _ e) in
    ap₂ {C = Option (ℕ × ℕ)} (λ (x y : ℕ). some (x, y)) p q

matches_self : (at : ℕ × ℕ) (space : ℕ) → matches (some at) (space, at.0, at.1) ≡ true
unfolding matches
matches_self at space = rw (eqb_same at.0, eqb_same at.1)

-- a name that nothing remembered serves: its key is new
new_key : (outside : List Env) (seen : List Served) (space name : ℕ) (at : ℕ × ℕ) → served_by seen space name ≡ none → walk outside 1 space name ≡ some at → covered outside seen (space, at.0, at.1) ≡ false
unfolding served_by covered covers when◌then◌else◌
new_key outside [] space name at e w = refl
new_key outside (m ∷ ms) space name at e w =
    go (eqb m.space space) (matches (walk outside 1 m.space m.name) (space, at.0, at.1)) (eqb m.name name) refl refl refl e (λ f. new_key outside ms space name at f w)
  where
    go : (a b n : Bool) → eqb m.space space ≡ a → matches (walk outside 1 m.space m.name) (space, at.0, at.1) ≡ b → eqb m.name name ≡ n
        → (when a && n then some m.k else served_by ms space name) ≡ none → (served_by ms space name ≡ none → covered outside ms (space, at.0, at.1) ≡ false)
        → (a && b) || covered outside ms (space, at.0, at.1) ≡ false
    go true true true p q r f g = unfold when◌then◌else◌ in no_option m.k (sym f)
    go true true false p q r f g =
        let same_space : m.space ≡ space = eqb-true m.space space p in
        let there : walk outside 1 m.space m.name ≡ some at = matches_at (walk outside 1 m.space m.name) (space, at.0, at.1) q in
        let same_name : m.name ≡ name = walk_same outside 1 space m.name name at (ap (λ (x : ℕ). walk outside 1 x m.name) (sym same_space) ∙ there) w in
        false_not (sym r ∙ (ap (λ (x : ℕ). eqb x name) same_name ∙ eqb_same name))
    go true false n p q r f g = g (unserved n f)
      where
        unserved : (n : Bool) → (when true && n then some m.k else served_by ms space name) ≡ none → served_by ms space name ≡ none
        unserved true f = unfold when◌then◌else◌ in no_option m.k (sym f)
        unserved false f = unfold when◌then◌else◌ in f
    go false b n p q r f g = g (unfold when◌then◌else◌ in f)

-- ---- keys that are new, and are then remembered

record NewKeys (outside : List Env) (seen seen' : List Served) (ks : List Key) : Type 0 where
  first : All (λ k. covered outside seen k ≡ false) ks
  kept : (k : Key) → covered outside seen k ≡ true → covered outside seen' k ≡ true
  known : All (λ k. covered outside seen' k ≡ true) ks
  distinct : Distinct ks

same_key_lem : (a b : Key) → same_key a b ≡ true → a ≡ b
unfolding same_key
same_key_lem a b e =
    let p = eqb-true a.0 b.0 (and_left (eqb a.0 b.0) _ e) in
    let r = and_right (eqb a.0 b.0) _ e in
    let q = eqb-true a.1 b.1 (and_left (eqb a.1 b.1) _ r) in
    let t = eqb-true a.2 b.2 (and_right (eqb a.1 b.1) _ r) in
    ap (λ (x : ℕ). (x, a.1, a.2)) p ∙ (ap (λ (x : ℕ). (b.0, x, a.2)) q ∙ ap (λ (x : ℕ). (b.0, b.1, x)) t)

-- a key that is covered is none of those that are not
apart : (outside : List Env) (seen : List Served) (k : Key) (ks : List Key) → covered outside seen k ≡ true → All (λ x. covered outside seen x ≡ false) ks → has_key k ks ≡ false
unfolding has_key
apart outside seen k [] c done = refl
apart outside seen k (x ∷ xs) c (h & a) = go (same_key k x) refl (apart outside seen k xs c a)
  where
    go : (b : Bool) → same_key k x ≡ b → has_key k xs ≡ false → b || has_key k xs ≡ false
    go true e r = false_not (sym h ∙ (ap (covered outside seen) (sym (same_key_lem k x e)) ∙ c))
    go false e r = r

has_append : (k : Key) (xs ys : List Key) → has_key k xs ≡ false → has_key k ys ≡ false → has_key k (xs ++ ys) ≡ false
unfolding has_key
has_append k [] ys p q = q
has_append k (x ∷ xs) ys p q = go (same_key k x) p (λ r. has_append k xs ys r q)
  where
    go : (b : Bool) → b || has_key k xs ≡ false → (has_key k xs ≡ false → has_key k (xs ++ ys) ≡ false) → b || has_key k (xs ++ ys) ≡ false
    go true p f = p
    go false p f = f p

distinct_append : (outside : List Env) (seen : List Served) (xs ys : List Key) → Distinct xs → Distinct ys → All (λ k. covered outside seen k ≡ true) xs → All (λ k. covered outside seen k ≡ false) ys → Distinct (xs ++ ys)
distinct_append outside seen [] ys d e p q = e
distinct_append outside seen (x ∷ xs) ys d e (h & p) q = (has_append x xs ys d.0 (apart outside seen x ys h q), distinct_append outside seen xs ys d.1 e p q)

keys_then : (outside : List Env) (s t u : List Served) (xs ys : List Key) → NewKeys outside s t xs → NewKeys outside t u ys → NewKeys outside s u (xs ++ ys)
keys_then outside s t u xs ys A B =
    record {
      first = all_append xs ys A.first (all_map ys (λ k f. not_before k (covered outside s k) refl f) B.first);
      kept = λ k c. B.kept k (A.kept k c);
      known = all_append xs ys (all_map xs (λ k c. B.kept k c) A.known) B.known;
      distinct = distinct_append outside t xs ys A.distinct B.distinct A.known B.first;
    }
  where
    not_before : (k : Key) (b : Bool) → covered outside s k ≡ b → covered outside t k ≡ false → covered outside s k ≡ false
    not_before k true e f = false_not (sym f ∙ A.kept k e)
    not_before k false e f = e

no_keys : (outside : List Env) (seen : List Served) → NewKeys outside seen seen []
no_keys outside seen = record { first = done; kept = λ k c. c; known = done; distinct = tt }

-- ---- the keys of inserted fields

keys_of : List Head → List Key
keys_of [] = []
keys_of (h ∷ hs) = head_keys h ++ keys_of hs

-- an outer alias, or an alias of an export
data Sort : Head → Type 0 where
  outward : (space k d n z : ℕ) → Sort (outer_alias space (fresh k) d n z)
  other : {h : Head} → eqb h.code 11 ≡ false → Sort h

outer_keys_lem : (space k d n z : ℕ) → head_keys (outer_alias space (fresh k) d n z) ≡ (space, d, n) ∷ []
unfolding head_keys outer_alias operand_keys when◌then◌else◌
outer_keys_lem space k d n z =
    let t : is_inserted (outer_alias space (fresh k) d n z) ≡ true = Lookups.new_inserted k (suc k) (outer_alias space (fresh k) d n z)
    (record { decl = record { space = space; name = fresh k; z = z }; alone = unfold outer_alias in refl; number = k; named = refl; low = omega arith; high = omega arith }) in
    rw t

other_keys : (h : Head) → eqb h.code 11 ≡ false → head_keys h ≡ []
unfolding head_keys when◌then◌else◌
other_keys h e = rw e (go (is_inserted h))
  where
    go : (b : Bool) → (when b && false then operand_keys h.operands else []) ≡ []
    go true = unfold when◌then◌else◌ in refl
    go false = unfold when◌then◌else◌ in refl

paths_sort : (space : ℕ) (at : Index) (p : ℕ) (ps : List ℕ) (z k : ℕ) → All Sort (path_aliases space at p ps z k)
unfolding path_aliases export_alias
paths_sort space at p [] z k = if_both Sort _ _ _ (other refl) (other refl) & done
paths_sort space at p (q ∷ ps) z k = other refl & paths_sort space (Id (fresh k)) q ps z (suc k)

export_keys : (code space new from : ℕ) (at : Index) (p z : ℕ) → eqb code 11 ≡ false → head_keys (export_alias code space new from at p z) ≡ []
export_keys code space new from at p z e = other_keys (export_alias code space new from at p z) (unfold export_alias in e)

paths_keys : (space : ℕ) (at : Index) (p : ℕ) (ps : List ℕ) (z k : ℕ) → keys_of (path_aliases space at p ps z k) ≡ []
unfolding path_aliases keys_of
paths_keys space at p [] z k =
    if_both (λ (h : Head). head_keys h ++ [] ≡ []) _ _ _ (ap (λ (l : List Key). l ++ []) (export_keys 10 space (fresh k) 6 at p z refl)) (ap (λ (l : List Key). l ++ []) (export_keys 9 space (fresh k) 10 at p z refl))
paths_keys space at p (q ∷ ps) z k = ap₂ (λ (xs ys : List Key). xs ++ ys) (export_keys 9 10 (fresh k) 10 at p z refl) (paths_keys space (Id (fresh k)) q ps z (suc k))

keys_append : (xs ys : List Head) → keys_of (xs ++ ys) ≡ keys_of xs ++ keys_of ys
unfolding keys_of
keys_append [] ys = refl
keys_append (x ∷ xs) ys = ap (λ (l : List Key). head_keys x ++ l) (keys_append xs ys) ∙ sym (append_assoc (head_keys x) (keys_of xs) (keys_of ys))

resolved_keys : (here : Env) (outside : Outside) (hs : List Head) → All Sort hs → OkR (λ new. keys_of new ≡ keys_of hs) (resolve_inserted here outside hs)
unfolding resolve_inserted keys_of
resolved_keys here outside [] done = refl
resolved_keys here outside (h ∷ hs) (s & a) =
    bind_any _ _ _ (λ u. bind_eq _ _ _ (λ h' e. bind_ok _ _ _ _ (resolved_keys here outside hs a) (λ hs' r. ap₂ (λ (xs ys : List Key). xs ++ ys) (one h h' s e) r)))
  where
    one : (h h' : Head) → Sort h → resolve_head here outside h ≡ ok h' → head_keys h' ≡ head_keys h
    one h h' (outward space k d n z) e = ap head_keys (ok_same h' _ (sym e ∙ alias_resolved here outside space (fresh k) d n z))
    one h h' (other c) e =
        let code : h'.code ≡ h.code = (holds_of (Runs.SameDecls h) _ h' (Runs.head_same here outside h) e).1 in
        other_keys h' (ap (λ (x : ℕ). eqb x 11) code ∙ c) ∙ sym (other_keys h c)

-- ---- what step B inserts for an operand that is marked

module _ (outside : Outside) (start : ℕ) (under : Under start outside.scopes) (ds : List Declaration) where
  abbrev Keys : {A B : Type 0} → List Served → Marked B → Expanded A → Type 0
  Keys seen m e = NewKeys outside.scopes seen m.seen (keys_of e.inserted) × All Sort e.inserted

  no_heads : keys_of [] ≡ []
  unfolding keys_of
  no_heads = refl

  nothing_new : (seen : List Served) → NewKeys outside.scopes seen seen (keys_of [])
  nothing_new seen = subst (NewKeys outside.scopes seen seen) (sym no_heads) (no_keys outside.scopes seen)

  -- one more is remembered, and nothing is inserted
  only_remembered : (m : Served) (seen : List Served) → NewKeys outside.scopes seen (m ∷ seen) (keys_of [])
  unfolding covered
  only_remembered m seen = subst (NewKeys outside.scopes seen (m ∷ seen)) (sym no_heads) (record { first = done; kept = λ k c. rw c (or-true (covers outside.scopes m k)); known = done; distinct = tt })

  first_keys : (seen : List Served) (k k' space name z : ℕ) (o : Option (ℕ × ℕ)) → served_by seen space name ≡ none → walk outside.scopes 1 space name ≡ o
      → OkR (Keys seen (mark_outer seen k' space name z none)) (Rules.found_at space name z k o)
  unfolding Rules.found_at Rules.as_it_is Rules.through mark_outer
  first_keys seen k k' space name z none f w = (only_remembered _ seen, done)
  first_keys seen k k' space name z (some at) f w = if_both (OkR (Keys seen (mark_outer seen k' space name z none))) _ _ _ (go, outward space k at.0 at.1 z & done) tt
    where
      covers_it : covered outside.scopes (record { space = space; name = name; k = k' } ∷ seen) (space, at.0, at.1) ≡ true
      covers_it = unfold covered covers in rw (eqb_same space, w, matches_self at space)

      one : keys_of (outer_alias space (fresh k) at.0 at.1 z ∷ []) ≡ (space, at.0, at.1) ∷ []
      one = unfold keys_of in ap (λ (l : List Key). l ++ []) (outer_keys_lem space k at.0 at.1 z)

      go : NewKeys outside.scopes seen (record { space = space; name = name; k = k' } ∷ seen) (keys_of (outer_alias space (fresh k) at.0 at.1 z ∷ []))
      go =
          subst (NewKeys outside.scopes seen (record { space = space; name = name; k = k' } ∷ seen)) (sym one)
          (record {
            first = new_key outside.scopes seen space name at f w & done;
            kept = (only_remembered (record { space = space; name = name; k = k' }) seen).kept;
            known = covers_it & done;
            distinct = (unfold has_key in refl, tt);
          })

  later_keys : (seen : List Served) (k k' space name z j : ℕ) → served_by seen space name ≡ some j → Late start seen
      → OkR (Keys seen (mark_outer seen k' space name z (some j))) (expand_operand ds outside k (ref space (Id (fresh j)) [] z))
  unfolding expand_operand Rules.found_at Rules.as_it_is mark_outer
  later_keys seen k k' space name z j f late =
      let new : walk outside.scopes 1 space (fresh j) ≡ none = under 1 space j (ok_at (λ (x : ℕ). start ≤ x) _ j (Planned.served_holds (λ (m : Served). start ≤ m.k) seen space name late) f) in
      rw new (bind_any _ _ _ (λ u. if_both (OkR _) _ _ _ (nothing_new seen, done) (nothing_new seen, done)))

  abbrev Keyed : List Served → ℕ → Marked Operand → Type 0
  Keyed seen k m = OkR (Keys seen m) (expand_operand ds outside k m.now)

  outer_keyed : (seen : List Served) (k k' space name z : ℕ) (o : Option ℕ) → Late start seen → find ds space name ≡ none → served_by seen space name ≡ o → Keyed seen k (mark_outer seen k' space name z o)
  unfolding expand_operand when◌then◌else◌ mark_outer
  outer_keyed seen k k' space name z none late e f = bind_any _ _ _ (λ u. rw e (first_keys seen k k' space name z (walk outside.scopes 1 space name) f refl))
  outer_keyed seen k k' space name z (some j) late e f = later_keys seen k k' space name z j f late

  name_keyed : (seen : List Served) (k k' space name z : ℕ) (o : Option ℕ) → Late start seen → find ds space name ≡ o
      → Keyed seen k (when is_just o then record { now = ref space (Id name) [] z; seen = seen; k = k' } else mark_outer seen k' space name z (served_by seen space name))
  unfolding expand_operand when◌then◌else◌ Rules.as_it_is
  name_keyed seen k k' space name z none late e = outer_keyed seen k k' space name z (served_by seen space name) late e refl
  name_keyed seen k k' space name z (some n) late e = bind_any _ _ _ (λ u. rw e (nothing_new seen, done))

  operand_keyed : (seen : List Served) (k k' : ℕ) (o : Operand) → Late start seen → Keyed seen k (mark_operand ds seen k' o)
  unfolding expand_operand mark_operand Rules.as_it_is Rules.through
  operand_keyed seen k k' (ref space (Num n) [] z) late = (nothing_new seen, done)
  operand_keyed seen k k' (ref space (Id name) [] z) late = name_keyed seen k k' space name z (find ds space name) late refl
  operand_keyed seen k k' (ref space at (p ∷ ps) z) late =
      if_both (OkR _) _ _ _ tt (subst (NewKeys outside.scopes seen seen) (sym (paths_keys space at p ps z k)) (no_keys outside.scopes seen), paths_sort space at p ps z k)
  operand_keyed seen k k' (outer space up at z) late = (nothing_new seen, done)
  operand_keyed seen k k' (case name z) late = (nothing_new seen, done)

  operands_keyed : (seen : List Served) (k k' : ℕ) (os : List Operand) → Late start seen → start ≤ k' → OkR (Keys seen (mark_operands ds seen k' os)) (expand_operands ds outside k (mark_operands ds seen k' os).now)
  unfolding expand_operands mark_operands Rules.as_it_is
  operands_keyed seen k k' [] late h = (nothing_new seen, done)
  operands_keyed seen k k' (o ∷ os) late h =
      let m = mark_operand ds seen k' o in
      let L = late_operand start ds seen k' o late h in
      bind_ok _ _ _ _ (operand_keyed seen k k' o late) (λ e f. bind_ok _ _ _ _ (operands_keyed m.seen e.k m.k os L.0 L.1) (λ es g. (
        subst (NewKeys outside.scopes seen (mark_operands ds m.seen m.k os).seen) (sym (keys_append e.inserted es.inserted)) (keys_then outside.scopes seen m.seen (mark_operands ds m.seen m.k os).seen (keys_of e.inserted) (keys_of es.inserted) f.0 g.0),
        all_append e.inserted es.inserted f.1 g.1,
      )))

  head_keyed : (seen : List Served) (k k' : ℕ) (h : Head) → Late start seen → start ≤ k' → OkR (Keys seen (mark_head ds seen k' h)) (expand_head ds outside k (mark_head ds seen k' h).now)
  head_keyed seen k k' h late s = subst (λ (m : Marked Head). OkR (Keys seen m) (expand_head ds outside k m.now)) (sym (Planned.head_by_lem ds seen k' h)) (go (here_only h.code) refl)
    where
      go : (b : Bool) → here_only h.code ≡ b → OkR (Keys seen (Planned.head_by b ds seen k' h)) (expand_head ds outside k (Planned.head_by b ds seen k' h).now)
      go true e = unfold expand_head when◌then◌else◌ Rules.as_it_is in rw e (nothing_new seen, done)
      go false e = unfold expand_head when◌then◌else◌ with_operands in rw e (bind_ok _ _ _ _ (operands_keyed seen k k' h.operands late s) (λ es f. f))

-- ---- and each is asked for

-- the walked names of a scope that its own declarations do not have
unfoldable pub asked_of : List Declaration → Option (ℕ × ℕ) → List Served
asked_of ds none = []
asked_of ds (some w) = when is_just (find ds w.0 w.1) then [] else record { space = w.0; name = w.1; k = 0 } ∷ []

unfoldable pub asked_by : List Declaration → Head → List Operand → List Served
asked_by ds h [] = []
asked_by ds h (o ∷ os) = asked_of ds (walked h o) ++ asked_by ds h os

unfoldable pub asked : List Declaration → Fields → List Served
asked ds end = []
asked ds (i ▸ fs) = asked_by ds (head_of i) (head_of i).operands ++ asked ds fs

covered_append : (outside : List Env) (xs ys : List Served) (k : Key) → covered outside (xs ++ ys) k ≡ covered outside xs k || covered outside ys k
unfolding covered
covered_append outside [] ys k = refl
covered_append outside (x ∷ xs) ys k = ap (λ (b : Bool). covers outside x k || b) (covered_append outside xs ys k) ∙ go (covers outside x k)
  where
    go : (a : Bool) → a || (covered outside xs k || covered outside ys k) ≡ (a || covered outside xs k) || covered outside ys k
    go true = refl
    go false = refl

-- what is remembered after was remembered before, or is asked for
abbrev From : List Env → (old need new : List Served) → Type 0
From outside s a t = (k : Key) → covered outside t k ≡ true → covered outside s k || covered outside a k ≡ true

from_same : (outside : List Env) (s a : List Served) → From outside s a s
from_same outside s a k c = rw c

from_nothing : (outside : List Env) (a t : List Served) → From outside [] a t → (k : Key) → covered outside t k ≡ true → covered outside a k ≡ true
unfolding covered
from_nothing outside a t f k c = f k c

from_then : (outside : List Env) (s t u a b : List Served) → From outside s a t → From outside t b u → From outside s (a ++ b) u
from_then outside s t u a b f g k c = rw (covered_append outside a b k) (go (covered outside s k) (covered outside a k) (covered outside b k) (covered outside t k) refl (f k) (g k c))
  where
    go : (x y z w : Bool) → covered outside t k ≡ w → (covered outside t k ≡ true → x || y ≡ true) → w || z ≡ true → x || (y || z) ≡ true
    go x y z true e p q = both x y z (p e)
      where
        both : (x y z : Bool) → x || y ≡ true → x || (y || z) ≡ true
        both true y z e = refl
        both false true z e = refl
        both false false z e = false_not e
    go true y z false e p q = refl
    go false true z false e p q = refl
    go false false z false e p q = q

module _ (outside : List Env) (ds : List Declaration) where
  outer_from : (seen : List Served) (k space name z : ℕ) (o : Option ℕ) → From outside seen (record { space = space; name = name; k = 0 } ∷ []) (mark_outer seen k space name z o).seen
  unfolding mark_outer covered covers
  outer_from seen k space name z none key c = go (eqb space key.0 && matches (walk outside 1 space name) key) (covered outside seen key) c
    where
      go : (a b : Bool) → a || b ≡ true → b || (a || false) ≡ true
      go true true e = refl
      go true false e = refl
      go false true e = refl
      go false false e = e
  outer_from seen k space name z (some j) key c = rw c

  operand_from : (h : Head) (seen : List Served) (k : ℕ) (o : Operand) → here_only h.code ≡ false → From outside seen (asked_of ds (walked h o)) (mark_operand ds seen k o).seen
  unfolding mark_operand
  operand_from h seen k (ref space (Num n) [] z) e = from_same outside seen _
  operand_from h seen k (ref space (Id name) [] z) e = unfold walked only in rw e (go (find ds space name) refl)
    where
      go : (o : Option ℕ) → find ds space name ≡ o → From outside seen (asked_of ds (some (space, name))) (when is_just o then record { now = ref space (Id name) [] z; seen = seen; k = k } else mark_outer seen k space name z (served_by seen space name)).seen
      go none q = unfold asked_of when◌then◌else◌ in rw q (outer_from seen k space name z (served_by seen space name))
      go (some n) q = unfold when◌then◌else◌ in from_same outside seen _
  operand_from h seen k (ref space at (p ∷ ps) z) e = from_same outside seen _
  operand_from h seen k (outer space up at z) e = from_same outside seen _
  operand_from h seen k (case name z) e = from_same outside seen _

  operands_from : (h : Head) (seen : List Served) (k : ℕ) (os : List Operand) → here_only h.code ≡ false → From outside seen (asked_by ds h os) (mark_operands ds seen k os).seen
  unfolding mark_operands asked_by
  operands_from h seen k [] e = from_same outside seen []
  operands_from h seen k (o ∷ os) e =
      from_then outside seen (mark_operand ds seen k o).seen _ (asked_of ds (walked h o)) (asked_by ds h os) (operand_from h seen k o e) (operands_from h (mark_operand ds seen k o).seen (mark_operand ds seen k o).k os e)

  head_from : (seen : List Served) (k : ℕ) (h : Head) → From outside seen (asked_by ds h h.operands) (mark_head ds seen k h).seen
  head_from seen k h = subst (λ (m : Marked Head). From outside seen (asked_by ds h h.operands) m.seen) (sym (Planned.head_by_lem ds seen k h)) (go (here_only h.code) refl)
    where
      go : (b : Bool) → here_only h.code ≡ b → From outside seen (asked_by ds h h.operands) (Planned.head_by b ds seen k h).seen
      go true e = unfold when◌then◌else◌ in from_same outside seen _
      go false e = unfold when◌then◌else◌ in operands_from h seen k h.operands e

-- ---- the fields of a scope

before_keys : (hs : List Head) (fs : Fields) → outer_keys (◌before◌ hs fs) ≡ keys_of hs ++ outer_keys fs
unfolding ◌before◌ outer_keys keys_of head_of
before_keys [] fs = refl
before_keys (h ∷ hs) fs = ap (λ (l : List Key). head_keys h ++ l) (before_keys hs fs) ∙ sym (append_assoc (head_keys h) (keys_of hs) (outer_keys fs))

own_keys : (i : Item) (fs : Fields) → is_inserted (head_of i) ≡ false → outer_keys (i ▸ fs) ≡ outer_keys fs
unfolding outer_keys head_keys when◌then◌else◌
own_keys i fs e = rw e

end_keys : outer_keys end ≡ []
unfolding outer_keys
end_keys = refl

pub before_distinct : (hs : List Head) (fs : Fields) → DistinctFields fs → DistinctFields (◌before◌ hs fs)
unfolding ◌before◌
before_distinct [] fs d = d
before_distinct (h ∷ hs) fs d = (tt, before_distinct hs fs d)

-- so in every scope of a claim, beside the input's: its inserted outer aliases are those that walked names ask for
abbrev pub Choose : Bool → Type 0 → Type 0 → Type 0
Choose true A B = A
Choose false A B = B

abbrev mutual
  pub AskedScope : Scope → List Env → Scope → Type 0
  AskedScope (scope kind name fs) outside was =
      All (λ key. covered outside (asked (declarations (fields_of was)) (fields_of was)) key ≡ true) (outer_keys fs) × AskedFields fs (table (scope kind name fs) ∷ outside) (fields_of was)

  pub AskedFields : Fields → List Env → Fields → Type 0
  AskedFields end around was = Unit {0}
  AskedFields (i ▸ fs) around end = Unit {0}
  AskedFields (i ▸ fs) around (w ▸ was) = Choose (is_inserted (head_of i)) (AskedFields fs around (w ▸ was)) (AskedItem i around w × AskedFields fs around was)

  pub AskedItem : Item → List Env → Item → Type 0
  AskedItem (plain h) around w = Unit {0}
  AskedItem (holds h s) around (plain w) = Unit {0}
  AskedItem (holds h s) around (holds w t) = AskedScope s around t

pub before_asked : (lo hi : ℕ) (hs : List Head) (i w : Item) (fs was : Fields) (around : List Env) → AllNew lo hi hs → is_inserted (head_of i) ≡ false → AskedItem i around w → AskedFields fs around was
    → AskedFields (◌before◌ hs (i ▸ fs)) around (w ▸ was)
unfolding ◌before◌ head_of
before_asked lo hi [] i w fs was around n e p q = rw e (p, q)
before_asked lo hi (h ∷ hs) i w fs was around n e p q = rw (Lookups.new_inserted lo hi h n.0) (before_asked lo hi hs i w fs was around n.1 e p q)

-- scopes by their names and declarations alone cover the same
pub plain_covered : (es : List Env) (ms : List Served) (k : Key) → covered (map plain_of es) ms k ≡ covered es ms k
unfolding covered covers
plain_covered es [] k = refl
plain_covered es (m ∷ ms) k = rw (plain_walk es 1 m.space m.name, plain_covered es ms k)

module _ (outside : Outside) (start : ℕ) (under : Under start outside.scopes) (ds : List Declaration) (here : Env) where
  asked_next : (i : Item) (gs : Fields) (seen seen' : List Served) → From outside.scopes seen (asked_by ds (head_of i) (head_of i).operands ++ asked ds gs) seen' → From outside.scopes seen (asked ds (i ▸ gs)) seen'
  unfolding asked
  asked_next i gs seen seen' f = f

  level_keys : (past : Before) (gs : Fields) (seen : List Served) (b b' k k' : ℕ) (res : Fields × ℕ) → LowFields gs → Late start seen → start ≤ b → resolve_fields (mark_fields gs ds seen b k).0 ds here (seeing outside past) b' k' ≡ ok res
      → (seen' : List Served) × NewKeys outside.scopes seen seen' (outer_keys res.0) × From outside.scopes seen (asked ds gs) seen'
  level_keys past end seen b b' k k' res low late h eq =
      let e : (end, k') ≡ res = ran_end ds here (seeing outside past) b' k' res (subst (λ (x : Fields × ℕ). resolve_fields x.0 ds here (seeing outside past) b' k' ≡ ok res) (marked_end ds seen b k) eq) in
      (seen, subst (λ (x : Fields × ℕ). NewKeys outside.scopes seen seen (outer_keys x.0)) e (subst (NewKeys outside.scopes seen seen) (sym end_keys) (no_keys outside.scopes seen)), from_same outside.scopes seen _)
  level_keys past (i ▸ gs) seen b b' k k' res low late h eq =
      let N = now i gs ds seen b k in
      let I = item i gs ds seen b k in
      let R = marked_ran i gs ds seen b k here (seeing outside past) b' k' res eq in
      let L = late_head start ds seen b (head_of i) late h in
      let same : head_of I.0 ≡ N.now = marked_head i N.now k in
      let lows : LowDecls (head_of I.0).decls = subst LowDecls (sym (ap (λ (x : Head). x.decls) same ∙ head_decls ds seen b (head_of i))) low.0.decls in
      let K = holds_of (Keys (seeing outside past) start under ds seen N) _ R.e (head_keyed (seeing outside past) start under ds seen b' b (head_of i) late h) (ap (expand_head ds (seeing outside past) b') (sym same) ∙ R.expands) in
      let new : keys_of R.new ≡ keys_of R.e.inserted = holds_of (λ (x : List Head). keys_of x ≡ keys_of R.e.inserted) _ R.new (resolved_keys here (seeing outside past) R.e.inserted K.1) R.adds in
      let T = level_keys (onward I.0 (seeing outside past)).before gs N.seen N.k R.e.k I.1 R.q.1 R.rs low.2 L.0 L.1 R.goes_on_lem in
      let keys : outer_keys res.0 ≡ keys_of R.e.inserted ++ outer_keys R.rs.0 =
      ap (λ (x : Fields × ℕ). outer_keys x.0) (sym R.result)
      ∙ (before_keys R.new (R.q.0 ▸ R.rs.0) ∙ ap₂ (λ (xs ys : List Key). xs ++ ys) new (own_keys R.q.0 R.rs.0 (Agree.stays_original R lows))) in (
        T.0,
        subst (NewKeys outside.scopes seen T.0) (sym keys) (keys_then outside.scopes seen N.seen T.0 (keys_of R.e.inserted) (outer_keys R.rs.0) K.0 T.1),
        asked_next i gs seen T.0 (from_then outside.scopes seen N.seen T.0 (asked_by ds (head_of i) (head_of i).operands) (asked ds gs) (head_from outside.scopes ds seen b (head_of i)) T.2),
      )

  pub level_distinct : (past : Before) (gs : Fields) (b b' k k' : ℕ) (res : Fields × ℕ) → LowFields gs → start ≤ b → resolve_fields (mark_fields gs ds [] b k).0 ds here (seeing outside past) b' k' ≡ ok res → Distinct (outer_keys res.0)
  level_distinct past gs b b' k k' res low h eq = (level_keys past gs [] b b' k k' res low done h eq).1.distinct

  -- every one of them is asked for by a walked name
  pub level_asked : (past : Before) (gs : Fields) (b b' k k' : ℕ) (res : Fields × ℕ) → LowFields gs → start ≤ b → resolve_fields (mark_fields gs ds [] b k).0 ds here (seeing outside past) b' k' ≡ ok res
      → All (λ key. covered outside.scopes (asked ds gs) key ≡ true) (outer_keys res.0)
  level_asked past gs b b' k k' res low h eq =
      let L = level_keys past gs [] b b' k k' res low done h eq in
      all_map (outer_keys res.0) (from_nothing outside.scopes (asked ds gs) L.0 L.2) L.1.known
