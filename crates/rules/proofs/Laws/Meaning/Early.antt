-- Which declarations stand earlier: among the tables of the steps, and by the outward reading.
use Rattle.std.specs.Prelude.{◌≡◌, Bool, true, ◌&&◌, ◌||◌, not, eqb, ltb, length, get_or}
use Rattle.std.proofs.Math.Path.{refl, ap, sym, subst}
use Rattle.std.proofs.Common.{◌∙◌, arith}
use Rattle.std.proofs.Math.Bool.{false}
use Rattle.std.proofs.Math.Option.{Option, none, some}
use mathlib.Core.List.{List, [], ◌∷◌, ◌++◌, append_assoc, append-nil}
use Prim.Native.Nat.{ℕ, zero, suc, ◌+◌, ◌≤◌, ◌<◌}
use Rattle.std.proofs.Math.ListN.{get_elem?}
use Rattle.rules.specs.Tools.{when◌then◌else◌, is_just, ◌then◌, ◌or_else◌}
use Rattle.rules.specs.Versions.{top_name}
use Rattle.rules.specs.Tree.{Declaration, Head, Scope, scope, Fields, end, ◌▸◌, Item, holds, head_of}
use Rattle.rules.specs.Rules
use Rattle.rules.specs.Rules.{table_of, Before, ok, Env, Outside, inward, find, declarations, prepare}
use Rattle.rules.specs.Readings
use Rattle.rules.specs.Readings.{originals, Place, Level, level, Spot, original, inserted, in_original, standings, first_named, place, declared, outward}
use Rattle.rules.proofs.Laws.Meaning.Runs.{seeing}
use Rattle.rules.specs.Laws.ToolLaws.{false_not, leb-true, leb-false, leb_lt, snoc_append}
use Rattle.rules.specs.Laws.Results.{some_same, no_option}
use Rattle.rules.specs.Laws.Meaning.Names.{LowScope, LowFields, LowItem}
use Rattle.rules.proofs.Laws.Meaning.Runs
use Rattle.rules.proofs.Laws.Meaning.Lookups
use Rattle.rules.proofs.Laws.Meaning.Lookups.{has}
use Rattle.rules.proofs.Laws.Meaning.Frames
use Rattle.rules.proofs.Laws.Meaning.Agree
use Rattle.rules.proofs.Laws.Meaning.Turns.{Comes, at_once, past}
use Rattle.rules.proofs.Laws.Meaning.Unknown

-- ---- the declarations of the first fields of a scope

unfoldable pub firsts : ℕ → Fields → List Declaration
firsts zero fs = []
firsts (suc n) end = []
firsts (suc n) (i ▸ fs) = (head_of i).decls ++ firsts n fs

-- tests on numbers

below : (m n : ℕ) → m < n → ltb m n ≡ true
below m n h = leb-true h

at_least : (m n : ℕ) → n ≤ m → ltb m n ≡ false
at_least m n h = leb-false (suc m) n (omega arith)

not_below : (m n : ℕ) → ltb m n ≡ false → n ≤ m
not_below m n e = let l = leb_lt (suc m) n e in omega arith

-- a name of a field is found there
own_first : (k m : ℕ) (ds : List Declaration) (space name : ℕ) → has ds space name ≡ true → (at : ℕ) × (first_named (in_original k m ds) space name ≡ some (original k at))
unfolding has first_named in_original
own_first k m [] space name e = false_not e
own_first k m (d ∷ ds) space name e = go (eqb d.space space && eqb d.name name) e (λ e. own_first k (suc m) ds space name e)
  where
    go : (b : Bool) → b || has ds space name ≡ true → (has ds space name ≡ true → (at : ℕ) × (first_named (in_original k (suc m) ds) space name ≡ some (original k at)))
        → (at : ℕ) × ((when b then some (original k m) else first_named (in_original k (suc m) ds) space name) ≡ some (original k at))
    go true e f = unfold when◌then◌else◌ in (m, refl)
    go false e f = unfold when◌then◌else◌ in f e

own_none : (k m : ℕ) (ds : List Declaration) (space name : ℕ) → has ds space name ≡ false → first_named (in_original k m ds) space name ≡ none
unfolding has first_named in_original
own_none k m [] space name e = refl
own_none k m (d ∷ ds) space name e = go (eqb d.space space && eqb d.name name) e (λ e. own_none k (suc m) ds space name e)
  where
    go : (b : Bool) → b || has ds space name ≡ false → (has ds space name ≡ false → first_named (in_original k (suc m) ds) space name ≡ none) → (when b then some (original k m) else first_named (in_original k (suc m) ds) space name) ≡ none
    go true e f = false_not (sym e)
    go false e f = unfold when◌then◌else◌ in f e

-- What is found at `o` in fields before which `k` stand: it is among the first `n` exactly if its field is.
abbrev Among : (k n : ℕ) → Fields → (space name : ℕ) → Option Spot → Type 0
Among k n fs space name none = Unit {0}
Among k n fs space name (some (original field at)) = has (firsts n fs) space name ≡ ltb field (k + n)
Among k n fs space name (some (inserted h)) = Unit {0}

-- behind a field that does not declare the name
behind : (k n : ℕ) (i : Item) (fs : Fields) (space name : ℕ) (o : Option Spot) → has (head_of i).decls space name ≡ false
    → ((m : ℕ) → Among (suc k) m fs space name o) → Among k n (i ▸ fs) space name o
unfolding firsts has
behind k n i fs space name none e f = tt
behind k zero i fs space name (some (original field at)) e f =
    let l = not_below field (suc k + 0) (sym (f 0)) in
    sym (at_least field (k + 0) (omega arith))
behind k (suc n) i fs space name (some (original field at)) e f =
    let same : suc k + n ≡ k + suc n = omega arith in
    Unknown.has_append (head_of i).decls (firsts n fs) space name ∙ (rw e (f n ∙ ap (ltb field) same))
behind k n i fs space name (some (inserted h)) e f = tt

among : (k n : ℕ) (fs : Fields) (space name : ℕ) → LowFields fs → Among k n fs space name (first_named (standings k fs) space name)
unfolding standings first_named
among k n end space name low = tt
among k n (i ▸ fs) space name low =
    rw (
      Lookups.standings_original k i fs (Lookups.low_original (head_of i) low.0.decls),
      Lookups.first_append (in_original k 0 (head_of i).decls) (standings (suc k) fs) space name,
    )
    (go (has (head_of i).decls space name) refl (λ m. among (suc k) m fs space name low.2))
  where
    here : (n : ℕ) → has (head_of i).decls space name ≡ true → has (firsts n (i ▸ fs)) space name ≡ ltb k (k + n)
    here zero e = unfold firsts has in sym (at_least k (k + 0) (omega arith))
    here (suc n) e = unfold firsts in (Unknown.has_append (head_of i).decls (firsts n fs) space name ∙ (rw e (sym (below k (k + suc n) (omega arith)))))

    go : (b : Bool) → has (head_of i).decls space name ≡ b → ((m : ℕ) → Among (suc k) m fs space name (first_named (standings (suc k) fs) space name))
        → Among k n (i ▸ fs) space name (first_named (in_original k 0 (head_of i).decls) space name or_else first_named (standings (suc k) fs) space name)
    go true e f = let F = own_first k 0 (head_of i).decls space name e in
        subst (λ (o : Option Spot). Among k n (i ▸ fs) space name (o or_else first_named (standings (suc k) fs) space name)) (sym F.1) (unfold ◌or_else◌ in here n e)
    go false e f =
        subst (λ (o : Option Spot). Among k n (i ▸ fs) space name (o or_else first_named (standings (suc k) fs) space name)) (sym (own_none k 0 (head_of i).decls space name e))
        (unfold ◌or_else◌ in behind k n i fs space name (first_named (standings (suc k) fs) space name) e f)

-- ---- the scopes around a place, in the input and as tables with what stands before

-- `steps` are the fields on the way from the root to the place, its own field last
pub record Timed (steps : List ℕ) (l : Level) (e : Env) : Type 0 where
  pub n : ℕ
  pub rest : List ℕ
  pub towards : steps ≡ l.way ++ (n ∷ rest)
  pub low : LowFields l.fields
  pub same : (space name : ℕ) → name ≤ top_name → has (table_of e) space name ≡ has (declarations l.fields) space name
  pub earlier : (space name : ℕ) → name ≤ top_name → has e.before space name ≡ has (firsts n l.fields) space name

pub data Times (steps : List ℕ) : List Level → List Env → Type 0 where
  nowhere : Times steps [] []
  inside : {l : Level} {e : Env} {ls : List Level} {es : List Env} → Timed steps l e → Times steps ls es → Times steps (l ∷ ls) (e ∷ es)

-- around a form at the end of `base`, wherever in it the place is
abbrev pub TimesAround : (base : List ℕ) → List Level → List Env → Type 0
TimesAround base ls es = (steps rest : List ℕ) → steps ≡ base ++ rest → Times steps ls es

-- not earlier than the field that the steps go through
unfoldable pub late_by : (steps : List ℕ) → Option Place → Bool
late_by steps none = false
late_by steps (some d) = not (ltb d.field (get_or steps (length d.way) 0))

step_at : (w rest : List ℕ) (n : ℕ) → get_or (w ++ (n ∷ rest)) (length w) 0 ≡ n
step_at [] rest n = refl
step_at (m ∷ w) rest n = step_at w rest n

spot_late : (steps : List ℕ) (l : Level) (n : ℕ) (rest : List ℕ) (space name : ℕ) (o : Option Spot) → steps ≡ l.way ++ (n ∷ rest) → Frames.InOriginal o
    → Among 0 n l.fields space name o → is_just o ≡ true → late_by steps (o then place l) ≡ not (has (firsts n l.fields) space name)
unfolding late_by place ◌then◌
spot_late steps l n rest space name none t i a e = false_not e
spot_late steps l n rest space name (some (original field at)) t i a e =
    let same : n ≡ 0 + n = omega arith in
    ap not (ap (λ (m : ℕ). ltb field m) (ap (λ (s : List ℕ). get_or s (length l.way) 0) t ∙ (step_at l.way rest n ∙ same)) ∙ sym a)
spot_late steps l n rest space name (some (inserted h)) t i a e = absurd i

late_step : (steps : List ℕ) (b c : Bool) (d : Option Place) (o : Option Place) (rest : Bool) → is_just d ≡ b → (b ≡ true → late_by steps d ≡ not c) → rest ≡ late_by steps o
    → (when b then b && not c else rest) ≡ late_by steps (d or_else o)
unfolding when◌then◌else◌ ◌or_else◌
late_step steps true c none o rest e f r = false_not e
late_step steps true c (some d) o rest e f r = sym (f refl)
late_step steps false c none o rest e f r = r
late_step steps false c (some d) o rest e f r = false_not (sym e)

-- one scope with these declarations, and what is late further out
late_first : (steps rest : List ℕ) (l : Level) (n : ℕ) (decls before : List Declaration) (space name : ℕ) (late : Bool) (o : Option Place) → steps ≡ l.way ++ (n ∷ rest) → LowFields l.fields
    → has decls space name ≡ has (declarations l.fields) space name → has before space name ≡ has (firsts n l.fields) space name → late ≡ late_by steps o
    → (when is_just (find decls space name) then Rules.comes_later decls before space name else late) ≡ late_by steps (declared l space name or_else o)
unfolding Rules.comes_later
late_first steps rest l n decls before space name late o towards low same earlier far =
    rw (Unknown.find_has decls space name, same, Unknown.find_has before space name, earlier)
    (late_step steps (has (declarations l.fields) space name) (has (firsts n l.fields) space name) (declared l space name) o late (Unknown.declared_has l space name low) own far)
  where
    own : has (declarations l.fields) space name ≡ true → late_by steps (declared l space name) ≡ not (has (firsts n l.fields) space name)
    own h = unfold declared in
        (spot_late steps l n rest space name (first_named (standings 0 l.fields) space name) towards (Frames.low_original 0 l.fields space name low) (among 0 n l.fields space name low)
        (sym (Unknown.placed_just l (first_named (standings 0 l.fields) space name) (Frames.low_original 0 l.fields space name low)) ∙ (Unknown.declared_has l space name low ∙ h)))

-- the first scope outward that has the name declares it late exactly if the outward reading is late
pub late_is : {steps : List ℕ} {ls : List Level} {es : List Env} → Times steps ls es → (space name : ℕ) → name ≤ top_name
    → Rules.comes_later_out es space name ≡ late_by steps (outward ls space name)
unfolding Rules.comes_later_out outward late_by
late_is nowhere space name low = refl
late_is {steps} (inside {l = l} {e = e} {ls = ls} {es = es} T Ts) space name low =
    late_first steps T.rest l T.n (table_of e) e.before space name (Rules.comes_later_out es space name) (outward ls space name) T.towards T.low (T.same space name low) (T.earlier space name low)
    (late_is Ts space name low)

-- ---- what stands before a field that step C comes to

pub comes_seen : {ds : List Declaration} {here : Env} {outside : Outside} {fs : Fields} {b k n : ℕ} {i : Item} {rest : Fields} {b' k' : ℕ} {seen : Before}
    → Comes ds here outside fs b k n i rest b' k' seen → seen.decls ≡ outside.before.decls ++ firsts n fs
unfolding firsts
comes_seen (at_once {outside = outside}) = sym (append-nil outside.before.decls)
comes_seen (past {outside = outside} {i = i} {fs = fs} {n = n} e new h q e₁ e₂ e₃ e₄ C) = comes_seen C ∙ append_assoc outside.before.decls (head_of i).decls (firsts n fs)

-- ---- where the run enters a scope

-- Steps A and B of the scopes around it have passed, and each is at the field that holds the next.
pub data Enters : (s : Scope) (outside : Outside) (way : List ℕ) (t : Scope) (inner : Outside) → Type 0 where
  this : {s : Scope} {outside : Outside} → Enters s outside [] s outside
  further : {kind name n : ℕ} {fs : Fields} {outside : Outside} {way : List ℕ} {h₀ : Head} {s t : Scope} {inner : Outside} (seen : Before) (k : ℕ) (p : Env × ℕ)
      → prepare name fs outside k ≡ ok p → get_elem? (originals fs) n ≡ some (holds h₀ s) → seen.decls ≡ outside.before.decls ++ firsts n fs
      → Enters s (inward h₀ p.0 (seeing outside seen)) way t inner → Enters (scope kind name fs) outside (n ∷ way) t inner

low_item : (fs : Fields) (n : ℕ) (i : Item) → LowFields fs → get_elem? (originals fs) n ≡ some i → LowItem i
unfolding originals
low_item end n i low e = no_option i e
low_item (i₀ ▸ fs) zero i low e =
    let here : get_elem? (i₀ ∷ originals fs) 0 ≡ some i = rw (Lookups.originals_original i₀ fs (Lookups.low_original (head_of i₀) low.0.decls)) at e in
    subst LowItem (some_same i₀ i here) low.1
low_item (i₀ ▸ fs) (suc n) i low e =
    let later : get_elem? (originals fs) n ≡ some i = rw (Lookups.originals_original i₀ fs (Lookups.low_original (head_of i₀) low.0.decls)) at e in
    low_item fs n i low.2 later

-- what is known of that scope: `rest` of the steps go on from it
pub record Entered (steps rest : List ℕ) (way : List ℕ) (l : Level) (ins : List Level) (outside : Outside) (t : Scope) (inner : Outside) : Type 0 where
  pub w : List ℕ
  pub around_it : List Level
  pub arrives : Readings.around way l ins ≡ some (level w (Readings.fields_of t) ∷ around_it)
  pub towards : steps ≡ w ++ rest
  pub times : Times steps around_it inner.scopes
  pub begins : inner.before.decls ≡ []
  pub same_early : inner.early ≡ outside.early
  pub low : LowScope t

pub entered : {s : Scope} {outside : Outside} {way : List ℕ} {t : Scope} {inner : Outside} → Enters s outside way t inner
    → (w : List ℕ) (ins : List Level) (steps rest : List ℕ) → steps ≡ w ++ (way ++ rest) → LowScope s → outside.before.decls ≡ [] → Times steps ins outside.scopes
    → Entered steps rest way (level w (Readings.fields_of s)) ins outside t inner
unfolding Readings.around Readings.held
entered this w ins steps rest e low none_before Ts =
    record { w = w; around_it = ins; arrives = refl; towards = e; times = Ts; begins = none_before; same_early = refl; low = low }
entered (further {kind = kind} {name = name} {n = n} {fs = fs} {outside = outside} {way = way} {h₀ = h₀} {s = s} {inner = inner} seen k p ep there is E) w ins steps rest e low none_before Ts =
    let T = Unknown.tabled name fs outside k p w low.1 ep in
    let I = entered E (w ++ (n ∷ [])) (level w fs ∷ ins) steps rest (e ∙ sym (snoc_append w n (way ++ rest))) (low_item fs n (holds h₀ s) low.1 there) refl
    (inside (record { n = n; rest = way ++ rest; towards = e; low = low.1; same = T.same; earlier = λ space name l. ap (λ (ds : List Declaration). has ds space name) (is ∙ ap (λ (ds : List Declaration). ds ++ firsts n fs) none_before) }) Ts) in
    record {
      w = I.w;
      around_it = I.around_it;
      arrives = Agree.around_step n way (level w fs) ins (holds h₀ s) (Readings.fields_of s) _ there refl I.arrives;
      towards = I.towards;
      times = I.times;
      begins = I.begins;
      same_early = I.same_early;
      low = I.low;
    }

low_fields : (t : Scope) → LowScope t → LowFields (Readings.fields_of t)
low_fields (scope kind name fs) low = low.1

-- a walked name of field `f` there is late exactly if its outward reading is
pub late_at_lem : {steps way : List ℕ} {l : Level} {ins : List Level} {outside : Outside} {t : Scope} {inner : Outside} {f : ℕ} (E : Entered steps (f ∷ []) way l ins outside t inner)
    → (seen : Before) → seen.decls ≡ inner.before.decls ++ firsts f (Readings.fields_of t) → (space name : ℕ) → name ≤ top_name
    → Rules.late_name (declarations (Readings.fields_of t)) (seeing inner seen) space name ≡ outside.early && late_by steps (outward (level E.w (Readings.fields_of t) ∷ E.around_it) space name)
unfolding Rules.late_name
late_at_lem {steps} {outside = outside} {t = t} {inner = inner} {f = f} E seen is space name low =
    rw E.same_early
    (ap (λ (b : Bool). outside.early && b)
    (unfold outward in late_first steps [] (level E.w (Readings.fields_of t)) f (declarations (Readings.fields_of t)) seen.decls space name
    (Rules.comes_later_out inner.scopes space name) (outward E.around_it space name) E.towards (low_fields t E.low) refl
    (ap (λ (ds : List Declaration). has ds space name) (is ∙ ap (λ (ds : List Declaration). ds ++ firsts f (Readings.fields_of t)) E.begins)) (late_is E.times space name low)))
