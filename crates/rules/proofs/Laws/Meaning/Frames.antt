-- The scopes around a place: as the input has them, as the output has them, and as the tables of the steps.
use Rattle.std.specs.Prelude.{◌≡◌, Bool, true, false, ◌&&◌, List, [], ◌∷◌, ℕ, suc, ◌+◌, ◌≤◌, eqb}
use Rattle.std.proofs.Math.Option.{Option, none, some, map}
use Rattle.std.proofs.Common.{arith}
use Rattle.std.proofs.Math.ListN.{get_elem?}
use Rattle.rules.specs.Tools.{when◌then◌else◌, ◌then◌, ◌or_else◌}
use Rattle.rules.specs.Versions.{top_name}
use Rattle.rules.specs.Tree.{Declaration, Fields, end, ◌▸◌, head_of}
use Rattle.rules.specs.Rules.{table_of, Env, find, walk, declarations}
use Rattle.rules.specs.Readings.{Place, Level, Spot, original, inserted, in_original, standings, first_named, of_space, place, declared, outward, counted}
use Rattle.rules.specs.Laws.Meaning.Names.{LowFields}
use Rattle.rules.proofs.Laws.Meaning.Lookups
use Rattle.rules.proofs.Laws.Meaning.Lookups.{Found, found}

pub record Framed (l l' : Level) (e : Env) : Type 0 where
  pub same_way : l'.way ≡ l.way
  pub same_first : (space name : ℕ) → name ≤ top_name → first_named (standings 0 l'.fields) space name ≡ first_named (standings 0 l.fields) space name
  pub table : declarations l'.fields ≡ table_of e
  pub low : LowFields l.fields

pub data Frames : List Level → List Level → List Env → Type 0 where
  nowhere : Frames [] [] []
  inside : {l l' : Level} {e : Env} {ls ls' : List Level} {es : List Env} → Framed l l' e → Frames ls ls' es → Frames (l ∷ ls) (l' ∷ ls') (e ∷ es)

-- of a scope around it matters what it declares
pub pushed : {l l' : Level} {e : Env} → Framed l l' e → (seen : List Declaration) → Framed l l' (record { name = e.name; entries = e.entries; before = seen })
pushed F seen = record { same_way = F.same_way; same_first = F.same_first; table = F.table; low = F.low }

-- in the input all stand in original fields
abbrev pub InOriginal : Option Spot → Type 0
InOriginal none = Unit {0}
InOriginal (some (original field at)) = Unit {0}
InOriginal (some (inserted h)) = ⊥

or_else_original : (a b : Option Spot) → InOriginal a → InOriginal b → InOriginal (a or_else b)
unfolding ◌or_else◌
or_else_original none b p q = q
or_else_original (some (original field at)) b p q = tt
or_else_original (some (inserted h)) b p q = p

one_original : (b : Bool) (n m : ℕ) (o : Option Spot) → InOriginal o → InOriginal (when b then some (original n m) else o)
unfolding when◌then◌else◌
one_original true n m o p = tt
one_original false n m o p = p

decls_original : (n m : ℕ) (ds : List Declaration) (space name : ℕ) → InOriginal (first_named (in_original n m ds) space name)
unfolding first_named in_original
decls_original n m [] space name = tt
decls_original n m (d ∷ ds) space name = one_original (eqb d.space space && eqb d.name name) n m _ (decls_original n (suc m) ds space name)

pub low_original : (n : ℕ) (fs : Fields) (space name : ℕ) → LowFields fs → InOriginal (first_named (standings n fs) space name)
unfolding standings first_named
low_original n end space name low = tt
low_original n (i ▸ fs) space name low =
    rw (
      Lookups.standings_original n i fs (Lookups.low_original (head_of i) low.0.decls),
      Lookups.first_append (in_original n 0 (head_of i).decls) (standings (suc n) fs) space name,
    )
    (or_else_original _ _ (decls_original n 0 (head_of i).decls space name) (low_original (suc n) fs space name low.2))

-- what `find` gives in a table counts, in the output, to the declaration in the input
abbrev pub Meets : Level → (space : ℕ) → Option ℕ → Option Place → Type 0
Meets l space none none = Unit {0}
Meets l space none (some p) = ⊥
Meets l space (some n) none = ⊥
Meets l space (some n) (some p) = (counted l space n then place l) ≡ some p

meets : (l l' : Level) (space : ℕ) (o : Option ℕ) (q : Option Spot) → l'.way ≡ l.way → InOriginal q → Found (of_space (standings 0 l'.fields) space) o q
    → Meets l' space o (q then place l)
unfolding counted place ◌then◌
meets l l' space none none w i f = tt
meets l l' space none (some s) w i f = absurd f
meets l l' space (some n) none w i f = absurd f
meets l l' space (some n) (some (original field at)) w i f = rw (f, w)
meets l l' space (some n) (some (inserted h)) w i f = absurd i

pub here_meets : {l l' : Level} {e : Env} → Framed l l' e → (space name : ℕ) → name ≤ top_name → Meets l' space (find (table_of e) space name) (declared l space name)
unfolding declared
here_meets {l} {l'} {e} F space name low =
    meets l l' space (find (table_of e) space name) (first_named (standings 0 l.fields) space name) F.same_way (low_original 0 l.fields space name F.low)
    (rw (Lookups.standings_decls 0 l'.fields, F.table, F.same_first space name low) at (found (standings 0 l'.fields) space name))

-- what `walk` gives, `c` scopes from here, is the outward reading
abbrev pub Walks : List Level → (space c : ℕ) → Option (ℕ × ℕ) → Option Place → Type 0
Walks ls space c none none = Unit {0}
Walks ls space c none (some p) = ⊥
Walks ls space c (some at) none = ⊥
Walks ls space c (some at) (some p) = (i : ℕ) × (at.0 ≡ i + c) × ((get_elem? ls i then λ l. counted l space at.1 then place l) ≡ some p)

walk_step : (l : Level) (ls : List Level) (space c : ℕ) (o : Option ℕ) (q : Option Place) (w : Option (ℕ × ℕ)) (p : Option Place)
    → Meets l space o q → Walks ls space (suc c) w p → Walks (l ∷ ls) space c (map (λ n. (c, n)) o or_else w) (q or_else p)
unfolding ◌or_else◌ ◌then◌
walk_step l ls space c none none none none m r = tt
walk_step l ls space c none none none (some p) m r = r
walk_step l ls space c none none (some at) none m r = r
walk_step l ls space c none none (some at) (some p) m r = (suc r.0, omega (arith, r.1), r.2)
walk_step l ls space c none (some q) w p m r = absurd m
walk_step l ls space c (some n) none w p m r = absurd m
walk_step l ls space c (some n) (some q) w p m r = (0, omega arith, m)

pub walks : {ls ls' : List Level} {es : List Env} → Frames ls ls' es → (c space name : ℕ) → name ≤ top_name → Walks ls' space c (walk es c space name) (outward ls space name)
unfolding walk outward
walks nowhere c space name low = tt
walks (inside {l = l} {l' = l'} {e = e} {ls = ls} {ls' = ls'} {es = es} F Fs) c space name low =
    walk_step l' ls' space c (find (table_of e) space name) (declared l space name) (walk es (suc c) space name) (outward ls space name)
    (here_meets F space name low) (walks Fs (suc c) space name low)
