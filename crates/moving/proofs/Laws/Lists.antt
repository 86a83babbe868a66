-- Moved numbers: what is on the two lists, and that nothing else is.
use Rattle.std.specs.Prelude.{◌≡◌, refl, Bool, true, false, not, List, [], ◌∷◌, ◌++◌, ℕ, zero, suc, ◌+◌, ◌≤◌, ◌<◌, eqb, length}
use Rattle.std.proofs.Common.{ap, sym, ◌∙◌, subst, append_assoc, append-nil, arith}
use Rattle.std.proofs.Math.Option.{Option, none, some, map}
use Rattle.std.proofs.Math.ListN.{get_elem?}
use Rattle.rules.specs.Tools.{when◌then◌else◌, only, ◌then◌, is_just}
use Rattle.rules.specs.Versions.{RuleSet}
use Rattle.rules.specs.Tree.{Declaration, Operand, Head, Scope, scope, Fields, end, ◌▸◌, Item, plain, holds, head_of}
use Rattle.rules.specs.Answer.{same_numbers}
use Rattle.rules.specs.Rules.{ok, Env, Outside, onward, at_root, resolve_fields, resolve}
use Rattle.rules.specs.Readings
use Rattle.rules.specs.Readings.{is_inserted, originals, Place, Level, level, fields_of, Use, use_at, Standing, Spot, original, inserted, in_original, in_inserted, standings, of_space, place, counted}
use Rattle.places.specs.PlaceRows.{Floor, floors_at, Located, counted_row}
use Rattle.moving.specs.Moved.{places_at, places_in, places_inside, places, Written, written_at, counted_in, Denoted, denoted, same_place, MovedNumber, NoItem, moved_at, apart_at, if_any, collect, moved, apart}
use Rattle.rules.specs.Laws.ToolLaws.{false_not, and_left, and_right, eqb-true, eqb_same, then_some, snoc_append, not-true, All, done, ◌&◌, all_append}
use Rattle.rules.specs.Laws.Results.{some_same, no_option, just_none}
use Rattle.places.specs.Counting.{levels, floors_at_lem, spot_of, counted_row_lem, elem_map}
use Rattle.places.proofs.RowAt.{all_at}
use Rattle.places.proofs.RowsApart.{elem_lt}
use Rattle.rules.specs.Laws.Meaning.Names.{LowScope, LowFields}
use Rattle.rules.proofs.Laws.Meaning.Runs.{seeing, ran, ran_end}
use Rattle.rules.proofs.Laws.Meaning.Lookups
use Rattle.rules.proofs.Laws.Meaning.Lookups.{in_heads}
use Rattle.rules.proofs.Laws.Meaning.Agree
use Rattle.rules.proofs.Laws.Meaning.Agree.{Ended, ended, at_ended, within, around_step}

-- ---- entries of a list

-- `x` is an entry
pub data In {A : Type 0} (x : A) : List A → Type 0 where
  first : {xs : List A} → In x (x ∷ xs)
  later : {y : A} {xs : List A} → In x xs → In x (y ∷ xs)

in_left : {A : Type 0} {x : A} {xs : List A} (ys : List A) → In x xs → In x (xs ++ ys)
in_left ys first = first
in_left ys (later i) = later (in_left ys i)

in_right : {A : Type 0} {x : A} {ys : List A} (xs : List A) → In x ys → In x (xs ++ ys)
in_right [] i = i
in_right (y ∷ xs) i = later (in_right xs i)

in_nothing : {A : Type 0} (xs : List A) → ((x : A) → ¬ In x xs) → xs ≡ []
in_nothing [] h = refl
in_nothing (x ∷ xs) h = absurd (h x first)

-- ---- what is collected

not_in : {A X : Type 0} {x : A} {xs : List A} → In x xs → xs ≡ [] → X
not_in (first {xs = xs}) e = let z : ◌≡◌ {A = ℕ} (suc (length xs)) 0 = ap length e in absurd (omega arith)
not_in (later {xs = xs} i) e = let z : ◌≡◌ {A = ℕ} (suc (length xs)) 0 = ap length e in absurd (omega arith)

collected : {A B : Type 0} (f : A → Option B) (xs : List A) (y : B) → In y (collect f xs) → (x : A) × In x xs × (f x ≡ some y)
unfolding collect if_any
collected f [] y i = not_in i refl
collected {A} {B} f (x ∷ xs) y i = go (f x) refl i (λ j. collected f xs y j)
  where
    onwards : (x' : A) × In x' xs × (f x' ≡ some y) → (x' : A) × In x' (x ∷ xs) × (f x' ≡ some y)
    onwards (x', l, m) = (x', later l, m)

    go : (o : Option B) → f x ≡ o → In y (if_any o (collect f xs)) → (In y (collect f xs) → (x' : A) × In x' xs × (f x' ≡ some y)) → (x' : A) × In x' (x ∷ xs) × (f x' ≡ some y)
    go none q j below = onwards (below j)
    go (some z) q first below = (x, first, q)
    go (some z) q (later j) below = onwards (below j)

collects : {A B : Type 0} (f : A → Option B) (x : A) {xs : List A} (y : B) → In x xs → f x ≡ some y → In y (collect f xs)
unfolding collect if_any
collects f x y first q = rw q first
collects {A} {B} f x y (later {y = z} {xs = xs} i) q = go (f z) (collects f x y i q)
  where
    go : (o : Option B) → In y (collect f xs) → In y (if_any o (collect f xs))
    go none j = j
    go (some w) j = later j

pub any_append : {A : Type 0} (o : Option A) (xs : List A) → if_any o xs ≡ if_any o [] ++ xs
unfolding if_any
any_append none xs = refl
any_append (some x) xs = refl

pub collect_append : {A B : Type 0} (f : A → Option B) (xs ys : List A) → collect f (xs ++ ys) ≡ collect f xs ++ collect f ys
unfolding collect
collect_append f [] ys = refl
collect_append f (x ∷ xs) ys =
    any_append (f x) (collect f (xs ++ ys))
    ∙ (ap (λ l. if_any (f x) [] ++ l) (collect_append f xs ys)
    ∙ (sym (append_assoc (if_any (f x) []) (collect f xs) (collect f ys)) ∙ ap (λ l. l ++ collect f ys) (sym (any_append (f x) (collect f xs)))))

-- ---- every operand is at one of the places

places_has : (w : List ℕ) (f at : ℕ) (os : List Operand) (k : ℕ) (o : Operand) → get_elem? os k ≡ some o → In (record { way = w; field = f; at = at + k }) (places_at w f at os)
unfolding places_at
places_has w f at [] k o e = no_option o e
places_has w f at (x ∷ os) zero o e = subst (λ (n : ℕ). In (record { way = w; field = f; at = n }) (record { way = w; field = f; at = at } ∷ places_at w f (suc at) os)) (omega arith) first
places_has w f at (x ∷ os) (suc k) o e =
    subst (λ (n : ℕ). In (record { way = w; field = f; at = n }) (record { way = w; field = f; at = at } ∷ places_at w f (suc at) os)) (omega arith)
    (later (places_has w f (suc at) os k o e))

-- the places of an original field's operands and of the scope that it holds are among those of its scope
of_field : (w : List ℕ) (n : ℕ) (fs : Fields) (m : ℕ) (i : Item) (p : Place) → get_elem? (originals fs) m ≡ some i
    → In p (places_at w (n + m) 0 (head_of i).operands ++ places_inside (w ++ ((n + m) ∷ [])) i) → In p (places_in w n fs)
unfolding originals places_in when◌then◌else◌
of_field w n end m i p e q = no_option i e
of_field w n (j ▸ fs) m i p e q = go (is_inserted (head_of j)) m e q (λ n' m' e' q'. of_field w n' fs m' i p e' q')
  where
    go : (b : Bool) (m : ℕ) → get_elem? (when b then originals fs else j ∷ originals fs) m ≡ some i
        → In p (places_at w (n + m) 0 (head_of i).operands ++ places_inside (w ++ ((n + m) ∷ [])) i)
        → ((n' m' : ℕ) → get_elem? (originals fs) m' ≡ some i → In p (places_at w (n' + m') 0 (head_of i).operands ++ places_inside (w ++ ((n' + m') ∷ [])) i) → In p (places_in w n' fs))
        → In p (when b then places_in w n fs else places_at w n 0 (head_of j).operands ++ (places_inside (w ++ (n ∷ [])) j ++ places_in w (suc n) fs))
    go true m e q below = below n m e q
    go false zero e q below =
        let same : j ≡ i = some_same j i e in
        let q₁ : In p (places_at w n 0 (head_of i).operands ++ places_inside (w ++ (n ∷ [])) i) = subst (λ (x : ℕ). In p (places_at w x 0 (head_of i).operands ++ places_inside (w ++ (x ∷ [])) i)) (omega arith) q in
        let q₂ : In p (places_at w n 0 (head_of j).operands ++ places_inside (w ++ (n ∷ [])) j) = rw same q₁ in
        rw (← (append_assoc (places_at w n 0 (head_of j).operands) (places_inside (w ++ (n ∷ [])) j) (places_in w (suc n) fs))) (in_left (places_in w (suc n) fs) q₂)
    go false (suc m) e q below =
        in_right (places_at w n 0 (head_of j).operands) (in_right (places_inside (w ++ (n ∷ [])) j)
        (below (suc n) m e (subst (λ (x : ℕ). In p (places_at w x 0 (head_of i).operands ++ places_inside (w ++ (x ∷ [])) i)) (omega arith) q)))

inside_held : (w : List ℕ) (i : Item) (gs : Fields) → Readings.held i ≡ some gs → places_inside w i ≡ places_in w 0 gs
unfolding Readings.held places_in
inside_held w (plain h) gs e = no_option gs e
inside_held w (holds h (scope kind name fs)) gs e = ap (places_in w 0) (some_same fs gs e)

same_parts_lem : {w v : List ℕ} {f g a b : ℕ} → w ≡ v → f ≡ g → a ≡ b → ◌≡◌ {A = Place} (record { way = w; field = f; at = a }) (record { way = v; field = g; at = b })
same_parts_lem e₁ e₂ e₃ = rw (e₁, e₂, e₃)

places_found : (way w : List ℕ) (fs : Fields) (outside ls : List Level) (f o : ℕ) (u : Use) → Readings.around way (level w fs) outside ≡ some ls → Readings.use_in ls f o ≡ some u
    → In (record { way = w ++ way; field = f; at = o }) (places_in w 0 fs)
unfolding Readings.around
places_found [] w fs outside ls f o u e q =
    let q₁ : Readings.use_in (level w fs ∷ outside) f o ≡ some u = ap (λ (x : List Level). Readings.use_in x f o) (some_same _ ls e) ∙ q in
    let U = Agree.use_inv (level w fs) outside f o u q₁ in
    let here : In (record { way = w ++ []; field = f; at = o }) (places_at w (0 + f) 0 (head_of U.0).operands) =
    subst (λ (p : Place). In p (places_at w (0 + f) 0 (head_of U.0).operands)) (same_parts_lem (sym (append-nil w)) (omega arith) (omega arith)) (places_has w (0 + f) 0 (head_of U.0).operands o u.operand U.2) in
    of_field w 0 fs f U.0 _ U.1 (in_left (places_inside (w ++ ((0 + f) ∷ [])) U.0) here)
places_found (n ∷ way) w fs outside ls f o u e q =
    let s₁ = then_some (get_elem? (originals fs) n) _ ls e in
    let s₂ = then_some (Readings.held s₁.0) _ ls s₁.2 in
    let I = places_found way (w ++ (n ∷ [])) s₂.0 (level w fs ∷ outside) ls f o u s₂.2 q in
    let I₁ : In (record { way = w ++ (n ∷ way); field = f; at = o }) (places_in (w ++ (n ∷ [])) 0 s₂.0) =
    subst (λ (v : List ℕ). In (record { way = v; field = f; at = o }) (places_in (w ++ (n ∷ [])) 0 s₂.0)) (snoc_append w n way) I in
    let I₂ : In (record { way = w ++ (n ∷ way); field = f; at = o }) (places_inside (w ++ (n ∷ [])) s₁.0) = rw (inside_held (w ++ (n ∷ [])) s₁.0 s₂.0 s₂.1) I₁ in
    let I₃ : In (record { way = w ++ (n ∷ way); field = f; at = o }) (places_inside (w ++ ((0 + n) ∷ [])) s₁.0) =
    subst (λ (m : ℕ). In (record { way = w ++ (n ∷ way); field = f; at = o }) (places_inside (w ++ (m ∷ [])) s₁.0)) (omega arith) I₂ in
    of_field w 0 fs n s₁.0 _ s₁.1 (in_right (places_at w (0 + n) 0 (head_of s₁.0).operands) I₃)

-- Every operand of a tree is at one of its places.
pub all_places : (s : Scope) (p : Place) (u : Use) → use_at s p ≡ some u → In p (places s)
unfolding Readings.use_inside places places_in Readings.root
all_places (scope kind name fs) p u e =
    let s₁ = then_some (Readings.around p.way (Readings.root (scope kind name fs)) []) _ u e in
    places_found p.way [] fs [] s₁.0 p.field p.at u s₁.1 s₁.2

-- ---- the lists, said of places

only_some : {A : Type 0} (b : Bool) (a c : A) → only b a ≡ some c → (b ≡ true) × (a ≡ c)
unfolding only
only_some true a c e = (refl, some_same a c e)
only_some false a c e = no_option c e

-- the number at a place, what it counted to in the input, and what it counts to in the output
pub record Counts (before after : Scope) (p : Place) (w : Written) (was now : Denoted) : Type 0 where
  pub number : written_at before p ≡ some w
  pub scope_was : Floor
  pub in_was : counted_in before p w ≡ some scope_was
  pub counted_was : denoted scope_was w ≡ some was
  pub scope_now : Floor
  pub in_now : counted_in after p w ≡ some scope_now
  pub counted_now : denoted scope_now w ≡ some now

-- the entry that says so
abbrev pub entry : Written → (was now : Denoted) → MovedNumber
entry w was now = record { z = w.z; space = w.space; meant = was.row; gets = now.row }

-- A number that counts to a declaration in the input and to one at another place in the output.
pub record Moves (before after : Scope) (m : MovedNumber) : Type 0 where
  pub p : Place
  pub w : Written
  pub was : Denoted
  pub now : Denoted
  pub counts : Counts before after p w was now
  pub differ : same_place was.place now.place ≡ false
  pub is_entry : entry w was now ≡ m

moved_at_lem : (before after : Scope) (p : Place) (m : MovedNumber) → moved_at before after p ≡ some m → Moves before after m
unfolding moved_at
moved_at_lem before after p m e =
    let s₁ = then_some (written_at before p) _ m e in
    let s₂ = then_some (counted_in before p s₁.0) _ m s₁.2 in
    let s₃ = then_some (denoted s₂.0 s₁.0) _ m s₂.2 in
    let s₄ = then_some (counted_in after p s₁.0) _ m s₃.2 in
    let s₅ = then_some (denoted s₄.0 s₁.0) _ m s₄.2 in
    let o = only_some (not (same_place s₃.0.place s₅.0.place)) _ m s₅.2 in
    record {
      p = p;
      w = s₁.0;
      was = s₃.0;
      now = s₅.0;
      counts = record { number = s₁.1; scope_was = s₂.0; in_was = s₂.1; counted_was = s₃.1; scope_now = s₄.0; in_now = s₄.1; counted_now = s₅.1 };
      differ = not-true _ o.0;
      is_entry = o.1;
    }

at_moved : (before after : Scope) (m : MovedNumber) → (M : Moves before after m) → moved_at before after M.p ≡ some m
unfolding moved_at ◌then◌ only
at_moved before after m M =
    rw (M.counts.number, M.counts.in_was, M.counts.counted_was, M.counts.in_now, M.counts.counted_now, M.differ) (ap {B = Option MovedNumber} some M.is_entry)

written_use : (s : Scope) (p : Place) (w : Written) → written_at s p ≡ some w → In p (places s)
unfolding written_at
written_use s p w e = let s₁ = then_some (use_at s p) _ w e in all_places s p s₁.0 s₁.1

-- On the first list is exactly what moves.
pub listed_moves : (before after : Scope) (m : MovedNumber) → In m (moved before after) → Moves before after m
unfolding moved
listed_moves before after m i = let c = collected (moved_at before after) (places before) m i in moved_at_lem before after c.0 m c.2

pub moves_listed : (before after : Scope) (m : MovedNumber) → Moves before after m → In m (moved before after)
unfolding moved
moves_listed before after m M = collects (moved_at before after) M.p m (written_use before M.p M.w M.counts.number) (at_moved before after m M)

-- A number that counts to nothing in the input, in a scope that is there.
pub record CountsToNothing (before : Scope) (a : NoItem) : Type 0 where
  pub p : Place
  pub w : Written
  pub number : written_at before p ≡ some w
  pub floor : Floor
  pub in_scope_lem : counted_in before p w ≡ some floor
  pub nothing : denoted floor w ≡ none
  pub is_entry : ◌≡◌ {A = NoItem} (record { z = w.z; space = w.space; number = w.number }) a

-- On the second list are exactly these.
pub listed_apart : (before : Scope) (a : NoItem) → In a (apart before) → CountsToNothing before a
unfolding apart apart_at
listed_apart before a i =
    let c = collected (apart_at before) (places before) a i in
    let s₁ = then_some (written_at before c.0) _ a c.2 in
    let s₂ = then_some (counted_in before c.0 s₁.0) _ a s₁.2 in
    let o = only_some (not (is_just (denoted s₂.0 s₁.0))) _ a s₂.2 in
    record { p = c.0; w = s₁.0; number = s₁.1; floor = s₂.0; in_scope_lem = s₂.1; nothing = just_none _ (not-true _ o.0); is_entry = o.1 }

pub apart_listed : (before : Scope) (a : NoItem) → CountsToNothing before a → In a (apart before)
unfolding apart apart_at ◌then◌ only
apart_listed before a N =
    collects (apart_at before) N.p a (written_use before N.p N.w N.number)
    (rw (N.number, N.in_scope_lem, N.nothing) (ap {B = Option NoItem} some N.is_entry))

-- A tree without written numbers has empty lists.
pub no_numbers : (before after : Scope) → ((p : Place) → written_at before p ≡ none) → (moved before after ≡ []) × (apart before ≡ [])
no_numbers before after h = (
  in_nothing (moved before after) (λ m i. let M = listed_moves before after m i in no_option M.w (sym (h M.p) ∙ M.counts.number)),
  in_nothing (apart before) (λ a i. let N = listed_apart before a i in no_option N.w (sym (h N.p) ∙ N.number)),
)

-- ---- the same, in the words of the readings

-- the scope that a number is counted in, among those around its place
abbrev pub scope_of : Scope → Place → Written → Option Level
scope_of s p w = Readings.around p.way (Readings.root s) [] then λ ls. get_elem? ls w.out

pub counted_in_lem : (s : Scope) (p : Place) (w : Written) → map (λ (f : Floor). f.level) (counted_in s p w) ≡ scope_of s p w
unfolding counted_in ◌then◌
counted_in_lem s p w = rw (← (floors_at_lem s p.way)) (go (floors_at s p.way))
  where
    go : (o : Option (List Floor)) → map (λ (f : Floor). f.level) (o then λ fs. get_elem? fs w.out) ≡ (map levels o then λ ls. get_elem? ls w.out)
    go none = refl
    go (some fs) = sym (elem_map (λ (f : Floor). f.level) fs w.out)

-- What a number denotes in a scope is the declaration that the readings count to.
pub denoted_place : (f : Floor) (w : Written) → map (λ (d : Denoted). d.place) (denoted f w) ≡ map (place f.level) (counted f.level w.space w.number)
unfolding denoted ◌then◌
denoted_place f w = rw (← (counted_row_lem f w.space w.number)) (go (counted_row f w.space w.number))
  where
    go : (o : Option Located) → map (λ (d : Denoted). d.place) (o then λ d. some (record { place = place f.level d.standing.spot; row = d.row })) ≡ map (place f.level) (map spot_of o)
    go none = refl
    go (some d) = refl

pub same_lists : (a b : List ℕ) → same_numbers a b ≡ true → a ≡ b
unfolding same_numbers
same_lists [] [] e = refl
same_lists [] (y ∷ b) e = false_not e
same_lists (x ∷ a) [] e = false_not e
same_lists (x ∷ a) (y ∷ b) e = rw (eqb-true x y (and_left (eqb x y) (same_numbers a b) e), same_lists a b (and_right (eqb x y) (same_numbers a b) e))

lists_same : (a : List ℕ) → same_numbers a a ≡ true
unfolding same_numbers
lists_same [] = refl
lists_same (x ∷ a) = rw (eqb_same x, lists_same a)

-- `same_place` says yes exactly if both are that place.
pub same_place_lem : (a : Place) (b : Option Place) → same_place (some a) b ≡ true → b ≡ some a
unfolding same_place
same_place_lem a none e = false_not e
same_place_lem a (some b) e =
    ap {B = Option Place} some
    (sym (same_parts_lem (same_lists a.way b.way (and_left _ _ e)) (eqb-true a.field b.field (and_left _ _ (and_right (same_numbers a.way b.way) _ e)))
    (eqb-true a.at b.at (and_right (eqb a.field b.field) _ (and_right (same_numbers a.way b.way) _ e)))))

pub place_same : (a : Place) → same_place (some a) (some a) ≡ true
unfolding same_place
place_same a = rw (lists_same a.way, eqb_same a.field, eqb_same a.at)

-- ---- what insertions do to the declarations of a scope

-- those of the input in their order, with inserted ones among them
pub data Kin : List Standing → List Standing → Type 0 where
  nothing_left : Kin [] []
  stays : {x : Standing} {xs ys : List Standing} → Kin xs ys → Kin (x ∷ xs) (x ∷ ys)
  comes : {d : Declaration} {h : Head} {xs ys : List Standing} → Kin xs ys → Kin xs (record { decl = d; spot = inserted h } ∷ ys)

kin_stay : (zs : List Standing) {xs ys : List Standing} → Kin xs ys → Kin (zs ++ xs) (zs ++ ys)
kin_stay [] k = k
kin_stay (z ∷ zs) k = stays (kin_stay zs k)

kin_head : (h : Head) (ds : List Declaration) {xs ys : List Standing} → Kin xs ys → Kin xs (in_inserted h ds ++ ys)
unfolding in_inserted
kin_head h [] k = k
kin_head h (d ∷ ds) k = comes (kin_head h ds k)

kin_heads : (hs : List Head) {xs ys : List Standing} → Kin xs ys → Kin xs (in_heads hs ++ ys)
unfolding in_heads
kin_heads [] k = k
kin_heads (h ∷ hs) {xs} {ys} k = rw (append_assoc (in_inserted h h.decls) (in_heads hs) ys) (kin_head h h.decls (kin_heads hs k))

kin_fields : (fs : Fields) (ds : List Declaration) (here : Env) (outside : Outside) (b k n : ℕ) (r : Fields × ℕ) → LowFields fs → resolve_fields fs ds here outside b k ≡ ok r
    → Kin (standings n fs) (standings n r.0)
unfolding standings
kin_fields end ds here outside b k n r low eq = rw (← ran_end ds here outside b k r eq) nothing_left
kin_fields (i ▸ fs) ds here outside b k n r low eq =
    let R = ran i fs ds here outside b k r eq in
    let below = kin_fields fs ds here (onward i outside) R.e.k R.q.1 (suc n) R.rs low.2 R.goes_on_lem in
    let new = Agree.ran_standings R low.0.decls n in
    let old = Lookups.standings_original n i fs (Lookups.low_original (head_of i) low.0.decls) in
    subst (λ (x : List Standing). Kin x (standings n r.0)) (sym old)
    (subst (Kin (in_original n 0 (head_of i).decls ++ standings (suc n) fs)) (sym new) (kin_heads R.new (kin_stay (in_original n 0 (head_of i).decls) below)))

-- a scope of the input and the same scope of the output
pub record Same (l l' : Level) : Type 0 where
  pub way : l'.way ≡ l.way
  pub kin : Kin (standings 0 l.fields) (standings 0 l'.fields)

pub data Sames : List Level → List Level → Type 0 where
  no_more : Sames [] []
  further : {l l' : Level} {ls ls' : List Level} → Same l l' → Sames ls ls' → Sames (l ∷ ls) (l' ∷ ls')

same_ended : {fs : Fields} {outside : Outside} {here : Env} {out : Fields} (w : List ℕ) → Ended fs outside here out → Same (level w fs) (level w out)
same_ended {fs} {outside} {here} {out} w E =
    record { way = refl; kin = kin_fields fs _ here outside E.k E.k' 0 (out, E.k'') E.low E.resolves }

same_way : (way : List ℕ) {fs : Fields} {outside : Outside} {here : Env} {out : Fields} (w : List ℕ) → Ended fs outside here out → {ins outs : List Level} → Sames ins outs
    → (ls : List Level) → Readings.around way (level w fs) ins ≡ some ls → (ls' : List Level) × (Readings.around way (level w out) outs ≡ some ls') × Sames ls ls'
unfolding Readings.around
same_way [] {fs} {outside} {here} {out} w E {ins} {outs} S ls e = (_, refl, subst (λ (x : List Level). Sames x (level w out ∷ outs)) (some_same _ ls e) (further (same_ended w E) S))
same_way (n ∷ way) {fs} {outside} {here} {out} w E {ins} {outs} S ls e =
    let s₁ = then_some (get_elem? (originals fs) n) _ ls e in
    let s₂ = then_some (Readings.held s₁.0) _ ls s₁.2 in
    let A = at_ended E n s₁.0 s₁.1 in
    let W = within s₁.0 A.h s₂.0 here (seeing outside A.seen) A.k A.q A.low_item s₂.1 A.items in
    let I = same_way way {here = W.here} {out = W.out} (w ++ (n ∷ [])) W.ends (further (same_ended w E) S) ls s₂.2 in
    (I.0, around_step n way (level w out) outs A.q.0 W.out I.0 A.there W.holding I.1, I.2)

sames_at : {ls ls' : List Level} → Sames ls ls' → (n : ℕ) (l : Level) → get_elem? ls n ≡ some l → (l' : Level) × (get_elem? ls' n ≡ some l') × Same l l'
sames_at no_more n l e = no_option l e
sames_at (further {l = l₀} {l' = l'} s ss) zero l e = (l', refl, subst (λ (x : Level). Same x l') (some_same l₀ l e) s)
sames_at (further s ss) (suc n) l e = sames_at ss n l e

scope_is : (s : Scope) (p : Place) (w : Written) (ls : List Level) (l : Level) → Readings.around p.way (Readings.root s) [] ≡ some ls → get_elem? ls w.out ≡ some l → scope_of s p w ≡ some l
unfolding ◌then◌
scope_is s p w ls l e₁ e₂ = rw e₁ e₂

-- In an accepted run the scope that a number is counted in is there in the output too, with the same declarations in their order and inserted
-- ones among them.
pub same_scope : (rules : RuleSet) (s : Scope) (r : Scope × ℕ) (p : Place) (w : Written) (l : Level) → LowScope s → resolve rules s ≡ ok r → scope_of s p w ≡ some l
    → (l' : Level) × (scope_of r.0 p w ≡ some l') × Same l l'
unfolding resolve Readings.root ◌then◌
same_scope rules (scope kind name fs) r p w l low eq e =
    let E = ended kind name fs (at_root rules []) 0 r low.1 eq in
    let s₁ = then_some (Readings.around p.way (Readings.root (scope kind name fs)) []) _ l e in
    let D = same_way p.way [] E.2 no_more s₁.0 s₁.1 in
    let A = sames_at D.2 w.out l s₁.2 in
    (A.0, scope_is r.0 p w D.0 A.0 (ap (λ (t : Scope). Readings.around p.way (Readings.root t) []) E.3 ∙ D.1) A.1, A.2)

-- ---- a number with an item in the input has one in the output

lt_elem : {A : Type 0} (xs : List A) (n : ℕ) → n < length xs → (x : A) × (get_elem? xs n ≡ some x)
lt_elem [] n h = absurd (omega arith)
lt_elem (y ∷ xs) zero h = (y, refl)
lt_elem (y ∷ xs) (suc n) h = lt_elem xs n (omega arith)

kin_longer : {xs ys : List Standing} → Kin xs ys → (space : ℕ) → length (of_space xs space) ≤ length (of_space ys space)
unfolding of_space when◌then◌else◌
kin_longer nothing_left space = omega arith
kin_longer (stays {x = x} {xs = xs} {ys = ys} k) space = go (eqb x.decl.space space) (kin_longer k space)
  where
    go : (b : Bool) → length (of_space xs space) ≤ length (of_space ys space)
        → length (when b then x.spot ∷ of_space xs space else of_space xs space) ≤ length (when b then x.spot ∷ of_space ys space else of_space ys space)
    go true h = omega arith
    go false h = h
kin_longer (comes {d = d} {h = h} {xs = xs} {ys = ys} k) space = go (eqb d.space space) (kin_longer k space)
  where
    go : (b : Bool) → length (of_space xs space) ≤ length (of_space ys space) → length (of_space xs space) ≤ length (when b then inserted h ∷ of_space ys space else of_space ys space)
    go true l = omega arith
    go false l = l

pub item_after : (l l' : Level) → Same l l' → (space n : ℕ) (x : Spot) → counted l space n ≡ some x → (y : Spot) × (counted l' space n ≡ some y)
unfolding counted
item_after l l' S space n x e =
    let a = elem_lt (of_space (standings 0 l.fields) space) n x e in
    let b = kin_longer S.kin space in
    lt_elem (of_space (standings 0 l'.fields) space) n (omega (arith, a, b))

pub map_some : {A B : Type 0} (g : A → B) (o : Option A) (b : B) → map g o ≡ some b → (a : A) × (o ≡ some a) × (g a ≡ b)
map_some g none b e = no_option b e
map_some g (some a) b e = (a, refl, some_same (g a) b e)

-- the scope of a floor, and back
pub floor_level : (s : Scope) (p : Place) (w : Written) (f : Floor) → counted_in s p w ≡ some f → scope_of s p w ≡ some f.level
floor_level s p w f e = sym (counted_in_lem s p w) ∙ ap (map (λ (g : Floor). g.level)) e

pub level_floor : (s : Scope) (p : Place) (w : Written) (l : Level) → scope_of s p w ≡ some l → (f : Floor) × (counted_in s p w ≡ some f) × (f.level ≡ l)
level_floor s p w l e = map_some (λ (g : Floor). g.level) (counted_in s p w) l (counted_in_lem s p w ∙ e)

pub denoted_counted : (f : Floor) (w : Written) (d : Denoted) → denoted f w ≡ some d → (x : Spot) × (counted f.level w.space w.number ≡ some x) × (place f.level x ≡ d.place)
denoted_counted f w d e = map_some (place f.level) (counted f.level w.space w.number) d.place (sym (denoted_place f w) ∙ ap (map (λ (x : Denoted). x.place)) e)

counted_denoted : (f : Floor) (w : Written) (x : Spot) → counted f.level w.space w.number ≡ some x → (d : Denoted) × (denoted f w ≡ some d) × (d.place ≡ place f.level x)
counted_denoted f w x e = map_some (λ (d : Denoted). d.place) (denoted f w) (place f.level x) (denoted_place f w ∙ ap (map (place f.level)) e)

-- A number with an item in the input has one in the output too: it denotes the same declaration, or it is on the first list.
pub item_stays : (rules : RuleSet) (s : Scope) (r : Scope × ℕ) (p : Place) (w : Written) (f : Floor) (was : Denoted) → LowScope s → resolve rules s ≡ ok r
    → written_at s p ≡ some w → counted_in s p w ≡ some f → denoted f w ≡ some was → (now : Denoted) × Counts s r.0 p w was now
item_stays rules s r p w f was low eq number e₁ e₂ =
    let L = same_scope rules s r p w f.level low eq (floor_level s p w f e₁) in
    let F = level_floor r.0 p w L.0 L.1 in
    let C = denoted_counted f w was e₂ in
    let D = item_after f.level L.0 L.2 w.space w.number C.0 C.1 in
    let N = counted_denoted F.0 w D.0 (rw F.2 D.1) in
    (N.0, record { number = number; scope_was = f; in_was = e₁; counted_was = e₂; scope_now = F.0; in_now = F.1; counted_now = N.1 })

-- ---- nothing was inserted

abbrev mutual
  pub NoneInserted : Scope → Type 0
  NoneInserted (scope kind name fs) = NoneInFields fs

  pub NoneInFields : Fields → Type 0
  NoneInFields end = Unit {0}
  NoneInFields (i ▸ fs) = (is_inserted (head_of i) ≡ false) × NoneInItem i × NoneInFields fs

  pub NoneInItem : Item → Type 0
  NoneInItem (plain h) = Unit {0}
  NoneInItem (holds h s) = NoneInserted s

none_original : (fs : Fields) (n : ℕ) (i : Item) → NoneInFields fs → get_elem? (originals fs) n ≡ some i → NoneInItem i
unfolding originals when◌then◌else◌
none_original end n i h e = no_option i e
none_original (j ▸ fs) zero i h e = let q : some j ≡ some i = rw h.0 at e in subst NoneInItem (some_same j i q) h.1
none_original (j ▸ fs) (suc n) i h e = none_original fs n i h.2 (rw h.0 at e)

none_held : (i : Item) (gs : Fields) → NoneInItem i → Readings.held i ≡ some gs → NoneInFields gs
unfolding Readings.held
none_held (plain h) gs n e = no_option gs e
none_held (holds h (scope kind name fs)) gs n e = subst NoneInFields (some_same fs gs e) n

pub none_around : (way : List ℕ) (l : Level) (outside ls : List Level) → Readings.around way l outside ≡ some ls → NoneInFields l.fields → All (λ (x : Level). NoneInFields x.fields) outside
    → All (λ (x : Level). NoneInFields x.fields) ls
unfolding Readings.around
none_around [] l outside ls e h hs = subst (All (λ (x : Level). NoneInFields x.fields)) (some_same _ ls e) (h & hs)
none_around (n ∷ way) l outside ls e h hs =
    let s₁ = then_some (get_elem? (originals l.fields) n) _ ls e in
    let s₂ = then_some (Readings.held s₁.0) _ ls s₁.2 in
    none_around way _ (l ∷ outside) ls s₂.2 (none_held s₁.0 s₂.0 (none_original l.fields n s₁.0 h s₁.1) s₂.1) (h & hs)

-- a spot in an original field
abbrev pub OnOriginal : Spot → Type 0
OnOriginal (original field at) = Unit {0}
OnOriginal (inserted h) = ⊥

pub own_spots : (n m : ℕ) (ds : List Declaration) → All (λ (x : Standing). OnOriginal x.spot) (in_original n m ds)
unfolding in_original
own_spots n m [] = done
own_spots n m (d ∷ ds) = tt & own_spots n (suc m) ds

pub none_spots : (n : ℕ) (fs : Fields) → NoneInFields fs → All (λ (x : Standing). OnOriginal x.spot) (standings n fs)
unfolding standings when◌then◌else◌
none_spots n end h = done
none_spots n (i ▸ fs) h = rw h.0 (all_append _ _ (own_spots n 0 (head_of i).decls) (none_spots (suc n) fs h.2))

kin_equal : {xs ys : List Standing} → Kin xs ys → All (λ (x : Standing). OnOriginal x.spot) ys → xs ≡ ys
kin_equal nothing_left a = refl
kin_equal (stays {x = x} k) (h & a) = ap {B = List Standing} (λ l. x ∷ l) (kin_equal k a)
kin_equal (comes k) (h & a) = absurd h

pub spots_original : (xs : List Standing) (space : ℕ) → All (λ (x : Standing). OnOriginal x.spot) xs → All OnOriginal (of_space xs space)
unfolding of_space when◌then◌else◌
spots_original [] space a = done
spots_original (x ∷ xs) space (h & a) = go (eqb x.decl.space space) (spots_original xs space a)
  where
    go : (b : Bool) → All OnOriginal (of_space xs space) → All OnOriginal (when b then x.spot ∷ of_space xs space else of_space xs space)
    go true r = h & r
    go false r = r

same_spot : (l l' : Level) → Same l l' → NoneInFields l'.fields → (space n : ℕ) (x y : Spot) → counted l space n ≡ some x → counted l' space n ≡ some y
    → same_place (place l x) (place l' y) ≡ true
unfolding counted place
same_spot l l' S none_in space n x y e₁ e₂ =
    let spots = none_spots 0 l'.fields none_in in
    let same = kin_equal S.kin spots in
    let x-is-y : x ≡ y = some_same x y (sym e₁ ∙ (ap (λ (ss : List Standing). get_elem? (of_space ss space) n) same ∙ e₂)) in
    rw x-is-y (go y (all_at (of_space (standings 0 l'.fields) space) n y (spots_original (standings 0 l'.fields) space spots) e₂))
  where
    go : (y : Spot) → OnOriginal y → same_place (place l y) (place l' y) ≡ true
    go (original field at) o = rw S.way (place_same (record { way = l.way; field = field; at = at }))
    go (inserted h) o = absurd o

pub not_both : {X : Type 0} (b : Bool) → b ≡ true → b ≡ false → X
not_both true e f = false_not (sym f)
not_both false e f = false_not e

-- Where nothing was inserted, no number has moved.
pub nothing_moves : (rules : RuleSet) (s : Scope) (r : Scope × ℕ) → LowScope s → resolve rules s ≡ ok r → NoneInserted r.0 → moved s r.0 ≡ []
nothing_moves rules s r low eq none_in = in_nothing (moved s r.0) (λ m i. go m (listed_moves s r.0 m i))
  where
    fields_none : (t : Scope) → NoneInserted t → NoneInFields (fields_of t)
    fields_none (scope kind name fs) h = h

    go : (m : MovedNumber) → Moves s r.0 m → ⊥
    go m M =
        let C = M.counts in
        let w = M.w in
        let a = denoted_counted C.scope_was w M.was C.counted_was in
        let b = denoted_counted C.scope_now w M.now C.counted_now in
        let L = same_scope rules s r M.p w C.scope_was.level low eq (floor_level s M.p w C.scope_was C.in_was) in
        let now = floor_level r.0 M.p w C.scope_now C.in_now in
        let level-same : L.0 ≡ C.scope_now.level = some_same _ _ (sym L.1 ∙ now) in
        let t = then_some (Readings.around M.p.way (Readings.root r.0) []) _ _ now in
        let no-new = all_at t.0 w.out _ (none_around M.p.way (Readings.root r.0) [] t.0 t.1 (unfold Readings.root in fields_none r.0 none_in) done) t.2 in
        let same = same_spot C.scope_was.level C.scope_now.level (rw level-same at L.2) no-new w.space w.number a.0 b.0 a.1 b.1 in
        not_both (same_place M.was.place M.now.place) (rw (a.2, b.2) at same) M.differ
