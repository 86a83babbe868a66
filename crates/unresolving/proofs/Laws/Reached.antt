-- The name that an outer alias was made for is the one that its two numbers reach.
use Rattle.std.specs.Prelude.{◌≡◌, refl, Bool, true, false, List, [], ◌∷◌, ℕ, suc, ◌+◌, eqb}
use Rattle.std.proofs.Common.{ap, sym, ◌∙◌, arith}
use Rattle.std.proofs.Math.Option.{Option, none, some, map}
use Rattle.std.proofs.Math.ListN.{get_elem?}
use Rattle.rules.specs.Tools.{when◌then◌else◌, ◌then◌, ◌or_else◌}
use Rattle.rules.specs.Tree.{Declaration}
use Rattle.rules.specs.Rules.{Env, table_of, Outside, find, walk}
use Rattle.unresolving.specs.Back.{or_zero, is_number, names_in, name_out}
use Rattle.rules.specs.Laws.ToolLaws.{eqb-true, eqb_same, false_not}
use Rattle.rules.specs.Laws.Results.{some_same, no_option}

-- ---- what was found is the number asked for

pub number_is : (o : Option ℕ) (n : ℕ) → is_number o n ≡ true → o ≡ some n
unfolding is_number
number_is none n e = false_not e
number_is (some m) n e = ap {B = Option ℕ} some (eqb-true m n e)

pub is_number_lem : (o : Option ℕ) (n : ℕ) → o ≡ some n → is_number o n ≡ true
unfolding is_number
is_number_lem o n e = rw e (eqb_same n)

-- ---- what `find` counts to

map_some : (o : Option ℕ) (n : ℕ) → map suc o ≡ some n → (m : ℕ) × (o ≡ some m) × (suc m ≡ n)
map_some none n e = no_option n e
map_some (some m) n e = (m, refl, some_same (suc m) n e)

pub found_name : (ds : List Declaration) (space name n : ℕ) → find ds space name ≡ some n → get_elem? (names_in ds space) n ≡ some name
unfolding find names_in when◌then◌else◌
found_name [] space name n e = no_option n e
found_name (d ∷ ds) space name n e = go (eqb d.space space) (eqb d.name name) refl e (λ m q. found_name ds space name m q)
  where
    go : (a b : Bool) → eqb d.name name ≡ b → (when a then when b then some 0 else map suc (find ds space name) else find ds space name) ≡ some n
        → ((m : ℕ) → find ds space name ≡ some m → get_elem? (names_in ds space) m ≡ some name)
        → get_elem? (when a then d.name ∷ names_in ds space else names_in ds space) n ≡ some name
    go true true t e below = rw (← some_same 0 n e) (ap {B = Option ℕ} some (eqb-true d.name name t))
    go true false t e below = let M = map_some (find ds space name) n e in rw (← M.2) (below M.0 M.1)
    go false b t e below = below n e

-- ---- what a walk counts to

-- the declarations of scopes
abbrev pub tables_of : List Env → List (List Declaration)
tables_of [] = []
tables_of (e ∷ es) = table_of e ∷ tables_of es

abbrev pub tables : Outside → List (List Declaration)
tables o = tables_of o.scopes

pub record Walked (es : List Env) (c space name : ℕ) (at : ℕ × ℕ) : Type 0 where
  pub i : ℕ
  pub table : List Declaration
  pub far : at.0 ≡ i + c
  pub there : get_elem? (tables_of es) i ≡ some table
  pub found : find table space name ≡ some at.1

pub walked : (es : List Env) (c space name : ℕ) (at : ℕ × ℕ) → walk es c space name ≡ some at → Walked es c space name at
unfolding walk ◌or_else◌
walked [] c space name at e = no_option at e
walked (x ∷ es) c space name at e = go (find (table_of x) space name) refl e (λ q. walked es (suc c) space name at q)
  where
    go : (o : Option ℕ) → find (table_of x) space name ≡ o → (map (λ n. (c, n)) o or_else walk es (suc c) space name) ≡ some at
        → (walk es (suc c) space name ≡ some at → Walked es (suc c) space name at) → Walked (x ∷ es) c space name at
    go none f e below = let W = below e in record { i = suc W.i; table = W.table; far = omega (arith, W.far); there = W.there; found = W.found }
    go (some n) f e below =
        let same : (c, n) ≡ at = some_same (c, n) at e in
        let near : at.0 ≡ c = sym (ap (λ (v : ℕ × ℕ). v.0) same) in
        record { i = 0; table = table_of x; far = omega arith; there = refl; found = f ∙ ap (λ (v : ℕ × ℕ). some v.1) same }

pub name_out_lem : (here : Env) (outside : Outside) (space name : ℕ) (at : ℕ × ℕ) → walk outside.scopes 1 space name ≡ some at
    → name_out (table_of here ∷ tables outside) space at.0 at.1 ≡ name
unfolding name_out or_zero ◌then◌
name_out_lem here outside space name at e =
    let W = walked outside.scopes 1 space name at e in
    let far : at.0 ≡ suc W.i = omega (arith, W.far) in
    rw (far, W.there, found_name W.table space name at.1 W.found)
