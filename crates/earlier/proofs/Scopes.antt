-- A scope that a run has come to: what is late in its tables is what its names mean late.
use Rattle.std.specs.Prelude.{◌≡◌, refl, Bool, true, false, ◌&&◌, not, List, [], ◌∷◌, ◌++◌, map, ℕ, zero, suc, ◌≤◌}
use Rattle.std.proofs.Math.Path.{ap, sym}
use Rattle.std.proofs.Common.{◌∙◌, subst, append_assoc}
use Rattle.std.proofs.Math.Option.{Option, none, some}
use Rattle.std.proofs.Math.ListN.{get_elem?}
use Rattle.rules.specs.Tools.{when◌then◌else◌, is_just, ◌then◌}
use Rattle.rules.specs.Versions.{top_name}
use Rattle.rules.specs.Rows.{Index, Num, Id}
use Rattle.rules.specs.Tree.{Declaration, Scope, scope, Fields, holds}
use Rattle.rules.specs.Rules as steps
use Rattle.rules.specs.Rules.{table_of, Before, opened, ok, Env, Outside, find, prepare}
use Rattle.rules.specs.Readings as readings
use Rattle.rules.specs.Readings.{Place, Level, level, outward}
use Rattle.rules.specs.Laws.ToolLaws.{false_not, not-true}
use Rattle.rules.specs.Laws.Results.{bind_inv, ok_same, no_option, some_same, no_result}
use Rattle.rules.specs.Laws.Meaning.Names.{LowScope}
use Rattle.rules.proofs.Laws.Meaning.Lookups.{has}
use Rattle.rules.proofs.Laws.Meaning.Runs.{seeing}
use Rattle.rules.proofs.Laws.Meaning.Unknown.{tabled}
use Rattle.rules.proofs.Laws.Meaning.Early.{firsts, Times, nowhere, inside, TimesAround, late_by, late_is, Enters, this, further, entered}
use Rattle.earlier.specs.Tested.{held_scope, names_around, nearest, upward}

-- ---- the names of the scopes around

-- the names of these scopes
abbrev pub names_of : List Env → List ℕ
names_of es = map (λ (e : Env). e.name) es

prepared_name : (name : ℕ) (fs : Fields) (outside : Outside) (k : ℕ) (p : Env × ℕ) → prepare name fs outside k ≡ ok p → p.0.name ≡ name
unfolding prepare
prepared_name name fs outside k p e =
    let s₁ = bind_inv (steps.distinct [] (steps.declarations fs)) _ p e in
    let s₂ = bind_inv (steps.expand_fields s₁.0 outside k fs) _ p s₁.2 in
    ap (λ (x : Env × ℕ). x.0.name) (sym (ok_same _ p s₂.2))

names_step : (n : ℕ) (way : List ℕ) (kind name : ℕ) (fs : Fields) (outside ns : List ℕ) (s : Scope) (h : _) → get_elem? (readings.originals fs) n ≡ some (holds h s)
    → names_around way s (name ∷ outside) ≡ some ns → names_around (n ∷ way) (scope kind name fs) outside ≡ some ns
unfolding names_around held_scope ◌then◌
names_step n way kind name fs outside ns s h e q = rw e q

-- the names of the scopes around a scope that the run has come to are those that its steps see
pub entered_names : {s : Scope} {outside : Outside} {way : List ℕ} {kind name : ℕ} {fs : Fields} {inner : Outside} → Enters s outside way (scope kind name fs) inner
    → names_around way s (names_of outside.scopes) ≡ some (name ∷ names_of inner.scopes)
unfolding names_around
entered_names this = refl
entered_names (further {kind = kind} {name = name} {n = n} {fs = fs} {outside = outside} {way = way} {h₀ = h₀} {s = s} seen k p ep there is E) =
    names_step n way kind name fs (names_of outside.scopes) _ s h₀ there
    (ap (λ (x : ℕ). names_around way s (x ∷ names_of outside.scopes)) (sym (prepared_name name fs outside k p ep)) ∙ entered_names E)

nearest_is : (es : List Env) (name : ℕ) → nearest (names_of es) name ≡ steps.named es name
unfolding nearest steps.named
nearest_is [] name = refl
nearest_is (e ∷ es) name = rw (nearest_is es name)

-- an OUTER leads as far out as the steps say
pub up_is : (es : List Env) (up : Index) (z d : ℕ) → steps.up_number es up z ≡ ok d → upward (names_of es) up ≡ some d
unfolding steps.up_number upward
up_is es (Num n) z d e = ap {B = Option ℕ} some (ok_same n d e)
up_is es (Id name) z d e = nearest_is es name ∙ go (steps.named es name) e
  where
    go : (o : Option ℕ) → steps.or_refused o steps.no_such_scope z ≡ ok d → o ≡ some d
    go none e = unfold steps.or_refused in no_result steps.no_such_scope z d e
    go (some n) e = unfold steps.or_refused in ap {B = Option ℕ} some (ok_same n d e)

-- ---- the scope and those around it

-- a place in the field `f` of the scope at the end of `way`: `ls` are that scope and those around it in the input, `es` their tables
pub record Scopes (base : List ℕ) (ins : List Level) (names : List ℕ) (s : Scope) (way : List ℕ) (f : ℕ) (fs : Fields) (es : List Env) : Type 0 where
  pub w : List ℕ
  pub around_it : List Level
  pub arrives : readings.around way (level base (readings.fields_of s)) ins ≡ some (level w fs ∷ around_it)
  pub names_are : names_around way s names ≡ some (names_of es)
  pub times : Times ((base ++ way) ++ (f ∷ [])) (level w fs ∷ around_it) es

-- every scope that a run has come to is so, at each of its fields
pub scopes : (base : List ℕ) {ins : List Level} {s : Scope} {outside : Outside} → LowScope s → outside.before.decls ≡ [] → TimesAround base ins outside.scopes
    → {way : List ℕ} {kind name : ℕ} {fs : Fields} {inner : Outside} → Enters s outside way (scope kind name fs) inner → (k : ℕ) (p : Env × ℕ) → prepare name fs inner k ≡ ok p
    → (f : ℕ) (seen : Before) → seen.decls ≡ inner.before.decls ++ firsts f fs → Scopes base ins (names_of outside.scopes) s way f fs (opened p.0 (seeing inner seen))
scopes base {ins} {s} {outside} low begins Ts {way} {kind} {name} {fs} {inner} E k p ep f seen is =
    let steps = (base ++ way) ++ (f ∷ []) in
    let from-base : steps ≡ base ++ (way ++ (f ∷ [])) = append_assoc base way (f ∷ []) in
    let En = entered E base ins steps (f ∷ []) from-base low begins (Ts steps (way ++ (f ∷ [])) from-base) in
    let T = tabled name fs inner k p En.w En.low.1 ep in
    record {
      w = En.w;
      around_it = En.around_it;
      arrives = En.arrives;
      names_are = entered_names E ∙ ap {B = Option (List ℕ)} (λ (x : ℕ). some (x ∷ names_of inner.scopes)) (sym (prepared_name name fs inner k p ep));
      times = inside
          (record {
            n = f;
            rest = [];
            towards = En.towards;
            low = En.low.1;
            same = T.same;
            earlier = λ space name l. ap (λ (ds : List Declaration). has ds space name) (is ∙ ap (λ (ds : List Declaration). ds ++ firsts f fs) En.begins);
          })
          En.times;
    }

-- one of the scopes, and its table
pub one_of : {way : List ℕ} {ls : List Level} {es : List Env} → Times way ls es → (d : ℕ) (e : Env) → steps.nth es d ≡ some e → (l : Level) × (get_elem? ls d ≡ some l) × Times way (l ∷ []) (e ∷ [])
unfolding steps.nth
one_of nowhere d e q = no_option e q
one_of {way} (inside {l = l} T Ts) zero e q = (l, refl, subst (λ (x : Env). Times way (l ∷ []) (x ∷ [])) (some_same _ e q) (inside T nowhere))
one_of (inside T Ts) (suc d) e q = one_of Ts d e q

-- ---- late in one table

later_one : (a b : Bool) → (when a then a && not b else false) ≡ a && not b
unfolding when◌then◌else◌
later_one true b = refl
later_one false b = refl

-- in one scope a name comes later by the scope's table exactly if the declaration that it means there is late
pub late_in_one : {way : List ℕ} {l : Level} {e : Env} → Times way (l ∷ []) (e ∷ []) → (space name : ℕ) → name ≤ top_name
    → steps.comes_later (table_of e) e.before space name ≡ late_by way (outward (l ∷ []) space name)
late_in_one {e = e} T space name low = alone ∙ late_is T space name low
  where
    alone : steps.comes_later (table_of e) e.before space name ≡ steps.comes_later_out (e ∷ []) space name
    alone = unfold steps.comes_later steps.comes_later_out in sym (later_one (is_just (find (table_of e) space name)) (is_just (find e.before space name)))

-- ---- what late says of a declaration

-- late: there is a declaration, and it does not stand earlier
pub late_declaration : (base way : List ℕ) (f o : ℕ) (d : Option Place) → late_by ((base ++ way) ++ (f ∷ [])) d ≡ true
    → (x : Place) × (d ≡ some x) × (readings.is_earlier x (record { way = base ++ way; field = f; at = o }) ≡ false)
unfolding late_by readings.is_earlier
late_declaration base way f o none e = false_not e
late_declaration base way f o (some x) e = (x, refl, not-true _ e)

not-false : (b : Bool) → not b ≡ false → b ≡ true
not-false true e = refl
not-false false e = sym e

-- not late: the declaration stands earlier
pub early_declaration : (base way : List ℕ) (f o : ℕ) (d : Place) → late_by ((base ++ way) ++ (f ∷ [])) (some d) ≡ false
    → readings.is_earlier d (record { way = base ++ way; field = f; at = o }) ≡ true
unfolding late_by readings.is_earlier
early_declaration base way f o d e = not-false _ e
