-- Looking up a name among the declarations of a scope: by `find` in a table, and among standings.
use Rattle.std.specs.Prelude.{◌≡◌, refl, Bool, true, false, ◌&&◌, ◌||◌, List, [], ◌∷◌, ◌++◌, map, ℕ, suc, ◌+◌, ◌≤◌, ◌<◌, eqb}
use Rattle.std.proofs.Common.{ap, sym, ◌∙◌, append_assoc, arith}
use Rattle.std.proofs.Math.Option
use Rattle.std.proofs.Math.Option.{Option, none, some}
use Rattle.std.proofs.Math.ListN.{get_elem?}
use Rattle.rules.specs.Tools.{when◌then◌else◌, ◌or_else◌}
use Rattle.rules.specs.Tree.{Declaration, Head, Fields, end, ◌▸◌, Item, head_of}
use Rattle.rules.specs.Rules.{find, fresh, declarations, ◌before◌}
use Rattle.rules.specs.Readings.{is_fresh, any_fresh, is_inserted, originals, Spot, original, inserted, Standing, in_original, in_inserted, standings, first_named, of_space}
use Rattle.rules.specs.Laws.ToolLaws.{leb-true, leb-false, eqb-false, and-false}
use Rattle.rules.specs.Laws.Meaning.Names.{LowDecls}
use Rattle.rules.proofs.Laws.Meaning.Runs.{New, AllNew}

-- ---- inserted fields have fresh names, original ones have not

low_fresh : (ds : List Declaration) → LowDecls ds → any_fresh ds ≡ false
unfolding any_fresh is_fresh
low_fresh [] l = refl
low_fresh (d ∷ ds) l = rw (leb-false 2147483648 d.name (omega arith), low_fresh ds l.1)

pub low_original : (h : Head) → LowDecls h.decls → is_inserted h ≡ false
unfolding is_inserted
low_original h l = low_fresh h.decls l

pub new_inserted : (lo hi : ℕ) (h : Head) → New lo hi h → is_inserted h ≡ true
unfolding is_inserted any_fresh is_fresh fresh
new_inserted lo hi h n = rw (n.alone, n.named, leb-true {m = 2147483648} {n = 2147483648 + n.number} (omega arith))

-- ---- the standings of a scope

unfoldable pub in_heads : List Head → List Standing
in_heads [] = []
in_heads (h ∷ hs) = in_inserted h h.decls ++ in_heads hs

pub standings_original : (n : ℕ) (i : Item) (fs : Fields) → is_inserted (head_of i) ≡ false → standings n (i ▸ fs) ≡ in_original n 0 (head_of i).decls ++ standings (suc n) fs
unfolding standings when◌then◌else◌
standings_original n i fs e = rw e

pub standings_before : (lo hi n : ℕ) (hs : List Head) (fs : Fields) → AllNew lo hi hs → standings n (◌before◌ hs fs) ≡ in_heads hs ++ standings n fs
unfolding ◌before◌ standings when◌then◌else◌ in_heads head_of
standings_before lo hi n [] fs a = refl
standings_before lo hi n (h ∷ hs) fs a = rw (new_inserted lo hi h a.0, standings_before lo hi n hs fs a.1, append_assoc)

pub originals_original : (i : Item) (fs : Fields) → is_inserted (head_of i) ≡ false → originals (i ▸ fs) ≡ i ∷ originals fs
unfolding originals when◌then◌else◌
originals_original i fs e = rw e

pub originals_before : (lo hi : ℕ) (hs : List Head) (fs : Fields) → AllNew lo hi hs → originals (◌before◌ hs fs) ≡ originals fs
unfolding ◌before◌ originals when◌then◌else◌ head_of
originals_before lo hi [] fs a = refl
originals_before lo hi (h ∷ hs) fs a = rw (new_inserted lo hi h a.0) (originals_before lo hi hs fs a.1)

abbrev decls_of : List Standing → List Declaration
decls_of ss = map (λ (s : Standing). s.decl) ss

in_original_decls : (n m : ℕ) (ds : List Declaration) → decls_of (in_original n m ds) ≡ ds
unfolding in_original
in_original_decls n m [] = refl
in_original_decls n m (d ∷ ds) = rw (in_original_decls n (suc m) ds)

in_inserted_decls : (h : Head) (ds : List Declaration) → decls_of (in_inserted h ds) ≡ ds
unfolding in_inserted
in_inserted_decls h [] = refl
in_inserted_decls h (d ∷ ds) = rw (in_inserted_decls h ds)

map-append : (xs ys : List Standing) → decls_of (xs ++ ys) ≡ decls_of xs ++ decls_of ys
map-append [] ys = refl
map-append (x ∷ xs) ys = ap (λ (l : List Declaration). x.decl ∷ l) (map-append xs ys)

own_decls : (b : Bool) (n : ℕ) (h : Head) → decls_of (when b then in_inserted h h.decls else in_original n 0 h.decls) ≡ h.decls
unfolding when◌then◌else◌
own_decls true n h = in_inserted_decls h h.decls
own_decls false n h = in_original_decls n 0 h.decls

pub standings_decls : (n : ℕ) (fs : Fields) → decls_of (standings n fs) ≡ declarations fs
unfolding standings declarations
standings_decls n end = refl
standings_decls n (i ▸ fs) =
    rw (
      map-append (when is_inserted (head_of i) then in_inserted (head_of i) (head_of i).decls else in_original n 0 (head_of i).decls) (standings (when is_inserted (head_of i) then n else suc n) fs),
      own_decls (is_inserted (head_of i)) n (head_of i),
      standings_decls (when is_inserted (head_of i) then n else suc n) fs,
    )

-- ---- the first of a name

if_or_else : {A : Type 0} (b : Bool) (a : A) (x y z : Option A) → y ≡ x or_else z → (when b then some a else y) ≡ (when b then some a else x) or_else z
unfolding when◌then◌else◌ ◌or_else◌
if_or_else true a x y z e = refl
if_or_else false a x y z e = e

if_or : {A : Type 0} (b : Bool) (a : A) (o : Option A) → ((when b then some a else none) or_else o) ≡ (when b then some a else o)
unfolding when◌then◌else◌ ◌or_else◌
if_or true a o = refl
if_or false a o = refl

pub first_append : (xs ys : List Standing) (space name : ℕ) → first_named (xs ++ ys) space name ≡ first_named xs space name or_else first_named ys space name
unfolding first_named ◌or_else◌
first_append [] ys space name = refl
first_append (x ∷ xs) ys space name = if_or_else (eqb x.decl.space space && eqb x.decl.name name) x.spot _ _ _ (first_append xs ys space name)

-- past those that have not the name
pub first_past : (xs ys : List Standing) (space name : ℕ) → first_named xs space name ≡ none → first_named (xs ++ ys) space name ≡ first_named ys space name
unfolding ◌or_else◌
first_past xs ys space name e = rw (first_append xs ys space name, e)

pub first_within : (xs ys : List Standing) (space name : ℕ) (s : Spot) → first_named xs space name ≡ some s → first_named (xs ++ ys) space name ≡ some s
unfolding ◌or_else◌
first_within xs ys space name s e = rw (first_append xs ys space name, e)

pub first_other : (s : Standing) (ss : List Standing) (space name : ℕ) → ¬ (s.decl.name ≡ name) → first_named (s ∷ ss) space name ≡ first_named ss space name
unfolding first_named when◌then◌else◌
first_other s ss space name h = rw (eqb-false s.decl.name name h, and-false (eqb s.decl.space space))

-- fresh names are never found by others
pub first_in_heads : (lo hi : ℕ) (hs : List Head) (space name : ℕ) → AllNew lo hi hs → ((t : ℕ) → lo ≤ t → t < hi → ¬ (fresh t ≡ name)) → first_named (in_heads hs) space name ≡ none
unfolding first_named in_heads in_inserted
first_in_heads lo hi [] space name a h = refl
first_in_heads lo hi (x ∷ hs) space name a h =
    ap (λ (ds : List Declaration). first_named (in_inserted x ds ++ in_heads hs) space name) a.0.alone
    ∙ (first_other (record { decl = a.0.decl; spot = inserted x }) (in_heads hs) space name (λ e. h a.0.number a.0.low a.0.high (sym a.0.named ∙ e))
    ∙ first_in_heads lo hi hs space name a.1 h)

pub first_in_original : (n m : ℕ) (ds : List Declaration) (space j : ℕ) → LowDecls ds → first_named (in_original n m ds) space (fresh j) ≡ none
unfolding first_named in_original fresh
first_in_original n m [] space j l = refl
first_in_original n m (d ∷ ds) space j l =
    first_other (record { decl = d; spot = original n m }) (in_original n (suc m) ds) space (fresh j) (omega arith) ∙ first_in_original n (suc m) ds space j l.1

pub heads_append : (xs ys : List Head) → in_heads (xs ++ ys) ≡ in_heads xs ++ in_heads ys
unfolding in_heads
heads_append [] ys = refl
heads_append (x ∷ xs) ys = rw (heads_append xs ys, append_assoc)

-- does a field declare the name?
unfoldable pub has : List Declaration → (space name : ℕ) → Bool
has [] space name = false
has (d ∷ ds) space name = (eqb d.space space && eqb d.name name) || has ds space name

has_step : (a b : Bool) (s : Spot) (o : Option Spot) → o ≡ (when b then some s else none) → (when a then some s else o) ≡ (when a || b then some s else none)
unfolding when◌then◌else◌
has_step true b s o e = refl
has_step false b s o e = e

first_of_head : (h : Head) (ds : List Declaration) (space name : ℕ) → first_named (in_inserted h ds) space name ≡ (when has ds space name then some (inserted h) else none)
unfolding has first_named in_inserted when◌then◌else◌
first_of_head h [] space name = refl
first_of_head h (d ∷ ds) space name = has_step (eqb d.space space && eqb d.name name) (has ds space name) (inserted h) _ (first_of_head h ds space name)

pub first_of_heads : (h : Head) (hs : List Head) (space name : ℕ)
    → first_named (in_heads (h ∷ hs)) space name ≡ (when has h.decls space name then some (inserted h) else first_named (in_heads hs) space name)
unfolding in_heads
first_of_heads h hs space name = rw (first_append (in_inserted h h.decls) (in_heads hs) space name, first_of_head h h.decls space name) (if_or (has h.decls space name) (inserted h) (first_named (in_heads hs) space name))

-- ---- `find` gives the number of the first of a name

abbrev pub Found : List Spot → Option ℕ → Option Spot → Type 0
Found ss none none = Unit {0}
Found ss none (some s) = ⊥
Found ss (some n) none = ⊥
Found ss (some n) (some s) = get_elem? ss n ≡ some s

found_next : (s : Spot) (ss : List Spot) (o : Option ℕ) (q : Option Spot) → Found ss o q → Found (s ∷ ss) (Option.map suc o) q
found_next s ss none none f = tt
found_next s ss none (some t) f = f
found_next s ss (some n) none f = f
found_next s ss (some n) (some t) f = f

found_one : (a b : Bool) (s : Spot) (ss : List Spot) (o : Option ℕ) (q : Option Spot) → Found ss o q
    → Found (when a then s ∷ ss else ss) (when a then when b then some 0 else Option.map suc o else o) (when a && b then some s else q)
unfolding when◌then◌else◌
found_one true true s ss o q f = refl
found_one true false s ss o q f = found_next s ss o q f
found_one false b s ss o q f = f

pub found : (ss : List Standing) (space name : ℕ) → Found (of_space ss space) (find (decls_of ss) space name) (first_named ss space name)
unfolding of_space find first_named
found [] space name = tt
found (s ∷ ss) space name = found_one (eqb s.decl.space space) (eqb s.decl.name name) s.spot (of_space ss space) (find (decls_of ss) space name) (first_named ss space name) (found ss space name)
