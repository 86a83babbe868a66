-- The scopes around a field of the output, as the explainer sees them and as the tables of the steps: what a table has before the field that
-- holds us, the output defines before that field. So what a walk finds in time stands before it.
use Rattle.std.specs.Prelude.{◌≡◌, refl, Bool, true, false, ◌&&◌, not, List, [], ◌∷◌, ◌++◌}
use Rattle.std.proofs.Math.Path.{ap}
use Rattle.std.proofs.Common.{sym, ◌∙◌, arith}
use Rattle.std.proofs.Math.Option.{Option, none, some, map}
use Prim.Native.Nat.{ℕ, suc, ◌+◌}
use Rattle.std.proofs.Math.ListN.{get_elem?}
use Rattle.rules.specs.Tools.{when◌then◌else◌, is_just, ◌or_else◌}
use Rattle.rules.specs.Tree.{Declaration}
use Rattle.rules.specs.Rules as steps
use Rattle.rules.specs.Rules.{table_of, Env, find, walk, declarations}
use Rattle.rules.specs.Readings.{Level}
use Rattle.rules.specs.Explainer.{Definition, index_space}
use Rattle.rules.specs.Laws.ToolLaws.{false_not}
use Rattle.rules.specs.Laws.Results.{no_option, some_same}
use Rattle.rules.proofs.Laws.Meaning.Lookups.{has}
use Rattle.rules.proofs.Laws.Meaning.Unknown.{find_has}
use Rattle.rules.proofs.Laws.Meaning.Early.{firsts}
use Rattle.earlier.specs.Order.{StandsBefore}
use Rattle.earlier.specs.Numbers.{entry_below}

-- `steps` lead on from the component of `l` through its field `through`
pub record Holder (steps : List ℕ) (l : Level) (e : Env) : Type 0 where
  pub through : ℕ
  pub rest : List ℕ
  pub towards : steps ≡ l.way ++ (through ∷ rest)
  pub table : declarations l.fields ≡ table_of e
  pub before : (space name : ℕ) → has e.before space name ≡ true → has (firsts through l.fields) space name ≡ true

-- the same of each scope around, with its table
pub data Holders (steps : List ℕ) : List Level → List Env → Type 0 where
  nowhere : Holders steps [] []
  inside : {l : Level} {e : Env} {ls : List Level} {es : List Env} → Holder steps l e → Holders steps ls es → Holders steps (l ∷ ls) (e ∷ es)

-- around a component at the end of `way`, wherever in it the field is
abbrev pub HoldersAround : (way : List ℕ) → List Level → List Env → Type 0
HoldersAround way ls es = (steps rest : List ℕ) → steps ≡ way ++ rest → Holders steps ls es

-- the definition number `n` of a space in a component, before what the steps go through
abbrev pub DefinedBefore : (steps : List ℕ) (space n : ℕ) → Level → Type 0
DefinedBefore steps space n l = (d : Definition) × (get_elem? (index_space l.way space 0 l.fields) n ≡ some d) × StandsBefore d steps

-- a name that is in the table, and among what stands before
pub defined_before : {steps : List ℕ} {l : Level} {e : Env} → (H : Holder steps l e) → (space name n : ℕ) → find (table_of e) space name ≡ some n
    → has (firsts H.through l.fields) space name ≡ true → DefinedBefore steps space n l
defined_before {steps} {l} {e} H space name n f h =
    let E = entry_below l.way space name 0 H.through l.fields n (ap (λ (ds : List Declaration). find ds space name) H.table ∙ f) h in
    (E.0, E.1, record { through = H.through; rest = H.rest; towards = H.towards ∙ ap (λ (w : List ℕ). w ++ (H.through ∷ H.rest)) (sym E.2); earlier = omega (arith, E.3) })

not_later : (found before : Bool) → found ≡ true → found && not before ≡ false → before ≡ true
not_later true true e h = refl
not_later true false e h = sym h
not_later false before e h = false_not e

-- what is found and does not come later stands before
pub before_if : (decls before : List Declaration) (space name n : ℕ) → find decls space name ≡ some n → steps.comes_later decls before space name ≡ false → has before space name ≡ true
unfolding steps.comes_later
before_if decls before space name n f late =
    sym (find_has before space name) ∙ not_later (is_just (find decls space name)) (is_just (find before space name)) (ap is_just f) late

-- where a walk ends that finds nothing late: this many scopes out
pub record Ends (steps : List ℕ) (ls : List Level) (c space : ℕ) (at : ℕ × ℕ) : Type 0 where
  pub i : ℕ
  pub far : at.0 ≡ i + c
  pub l : Level
  pub there : get_elem? ls i ≡ some l
  pub defined : DefinedBefore steps space at.1 l

-- a walk that finds something, and nothing late, ends so
pub walk_ends : {way : List ℕ} {ls : List Level} {es : List Env} → Holders way ls es → (c space name : ℕ) (at : ℕ × ℕ) → walk es c space name ≡ some at
    → steps.comes_later_out es space name ≡ false → Ends way ls c space at
unfolding walk steps.comes_later_out
walk_ends nowhere c space name at w late = no_option at w
walk_ends {way} (inside {l = l} {e = e} {ls = ls} {es = es} H Hs) c space name at w late =
    go (find (table_of e) space name) refl w late (λ w late. walk_ends Hs (suc c) space name at w late)
  where
    go : (o : Option ℕ) → find (table_of e) space name ≡ o → map (λ n. (c, n)) o or_else walk es (suc c) space name ≡ some at
        → (when is_just o then steps.comes_later (table_of e) e.before space name else steps.comes_later_out es space name) ≡ false
        → (walk es (suc c) space name ≡ some at → steps.comes_later_out es space name ≡ false → Ends way ls (suc c) space at) → Ends way (l ∷ ls) c space at
    go none f w late further =
        let E = further (unfold ◌or_else◌ in w) (unfold when◌then◌else◌ in late) in
        record { i = suc E.i; far = omega (arith, E.far); l = E.l; there = E.there; defined = E.defined }
    go (some n) f w late further =
        let is : (c, n) ≡ at = some_same (c, n) at (unfold ◌or_else◌ in w) in
        let number : n ≡ at.1 = ap (λ (x : ℕ × ℕ). x.1) is in
        let count : c ≡ at.0 = ap (λ (x : ℕ × ℕ). x.0) is in
        record {
          i = 0;
          far = omega (arith, count);
          l = l;
          there = refl;
          defined = defined_before H space name at.1 (f ∙ ap {B = Option ℕ} some number) (H.before space name (before_if (table_of e) e.before space name n f (unfold when◌then◌else◌ in late)));
        }
