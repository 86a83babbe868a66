-- For a REF without PATHs: its number is on the list exactly if the counting readings of the input and of the output differ.
use Rattle.std.specs.Prelude.{◌≡◌, refl, Bool, true, false, List, [], ◌∷◌, ◌++◌, ℕ, zero, suc, ◌+◌, ◌≤◌, ◌<◌, eqb, length}
use Rattle.std.proofs.Common.{ap, sym, ◌∙◌, subst, arith, length-append}
use Rattle.std.proofs.Math.Option.{Option, none, some, map}
use Rattle.std.proofs.Math.ListN.{get_elem?}
use Rattle.rules.specs.Tools.{when◌then◌else◌, ◌then◌, ◌or_else◌}
use Rattle.rules.specs.Versions.{RuleSet}
use Rattle.rules.specs.Rows.{Num}
use Rattle.rules.specs.Tree.{Declaration, ref, outer, Head, Scope, scope, Fields, end, ◌▸◌, Item, head_of}
use Rattle.rules.specs.Rules.{ok, table_of, Env, Outside, onward, at_root, find, walk, outer_alias, resolve_fields, declarations, resolve}
use Rattle.rules.specs.Readings
use Rattle.rules.specs.Readings.{originals, Place, Level, level, Use, use_at, Standing, Spot, original, inserted, in_inserted, in_original, standings, of_space, place, counted, counted_out, meant, counting_reading}
use Rattle.moving.specs.Moved.{names_to, Written, written, written_at, Denoted, same_place}
use Rattle.rules.specs.Laws.ToolLaws.{eqb-true, then_some, All, done, ◌&◌, all_append, all_map}
use Rattle.rules.specs.Laws.Results.{holds_of, some_same, no_option}
use Rattle.places.proofs.RowAt.{all_at}
use Rattle.moving.proofs.Laws.Lists.{Counts, scope_of, floor_level, denoted_counted, same_place_lem, place_same, OnOriginal, own_spots, not_both}
use Rattle.moving.proofs.Laws.NumberStays.{use_around, reads_ref}
use Rattle.rules.specs.Laws.Meaning.Names.{LowScope, LowFields}
use Rattle.rules.proofs.Laws.Meaning.Runs.{Ran, ran, ran_end}
use Rattle.rules.proofs.Laws.Meaning.Lookups
use Rattle.rules.proofs.Laws.Meaning.Lookups.{in_heads}
use Rattle.rules.proofs.Laws.Meaning.Origins.{IfOuter, head_served, outer_stays, served_stays}
use Rattle.rules.proofs.Laws.Meaning.Frames.{nowhere}
use Rattle.rules.proofs.Laws.Meaning.Written
use Rattle.rules.proofs.Laws.Meaning.Written.{is_written}
use Rattle.rules.proofs.Laws.Meaning.Agree
use Rattle.rules.proofs.Laws.Meaning.Agree.{Arrived}

-- ---- the spots of a scope

of_space_lem : {P : Spot → Type 0} (xs : List Standing) (space : ℕ) → All (λ (x : Standing). P x.spot) xs → All P (of_space xs space)
unfolding of_space when◌then◌else◌
of_space_lem [] space a = done
of_space_lem {P} (x ∷ xs) space (h & a) = go (eqb x.decl.space space) (of_space_lem xs space a)
  where
    go : (b : Bool) → All P (of_space xs space) → All P (when b then x.spot ∷ of_space xs space else of_space xs space)
    go true r = h & r
    go false r = r

pub counted_spot : (P : Spot → Type 0) (l : Level) (space n : ℕ) (x : Spot) → All (λ (y : Standing). P y.spot) (standings 0 l.fields) → counted l space n ≡ some x → P x
unfolding counted
counted_spot P l space n x a e = all_at {P = P} (of_space (standings 0 l.fields) space) n x (of_space_lem {P = P} (standings 0 l.fields) space a) e

-- in the input all are in original fields
low_spots : (n : ℕ) (fs : Fields) → LowFields fs → All (λ (x : Standing). OnOriginal x.spot) (standings n fs)
unfolding standings
low_spots n end low = done
low_spots n (i ▸ fs) low = rw (Lookups.standings_original n i fs (Lookups.low_original (head_of i) low.0.decls)) (all_append _ _ (own_spots n 0 (head_of i).decls) (low_spots (suc n) fs low.2))

-- ---- an inserted outer alias leads at least one scope out

abbrev LeadsOut : Head → Type 0
LeadsOut h = (space : ℕ) × (new : ℕ) × (c : ℕ) × (i : ℕ) × (z : ℕ) × (h ≡ outer_alias space new c i z) × (1 ≤ c)

walk_far : (es : List Env) (d space name : ℕ) (at : ℕ × ℕ) → walk es d space name ≡ some at → d ≤ at.0
unfolding walk ◌or_else◌
walk_far [] d space name at e = no_option at e
walk_far (x ∷ es) d space name at e = go (find (table_of x) space name) e (λ q. walk_far es (suc d) space name at q)
  where
    go : (o : Option ℕ) → (map (λ n. (d, n)) o or_else walk es (suc d) space name) ≡ some at → (walk es (suc d) space name ≡ some at → suc d ≤ at.0) → d ≤ at.0
    go none e below = let h = below e in omega (arith, h)
    go (some n) e below = let h : d ≡ at.0 = ap (λ (x : ℕ × ℕ). x.0) (some_same (d, n) at e) in omega (arith, h)

abbrev OutSpot : Spot → Type 0
OutSpot (original field at) = Unit {0}
OutSpot (inserted h) = IfOuter LeadsOut h

new_lead_out : {i : Item} {fs : Fields} {ds : List Declaration} {here : Env} {outside : Outside} {b k : ℕ} {r : Fields × ℕ} (R : Ran i fs ds here outside b k r) → All (IfOuter LeadsOut) R.new
new_lead_out {i} {fs} {ds} {here} {outside} {b} R =
    all_map R.new (λ x s c. (let q = (s c).served.served in (q.space, _, q.at.0, q.at.1, q.z, q.is, walk_far outside.scopes 1 q.space q.name q.at q.walks_to)))
    (holds_of _ _ R.new (outer_stays here outside (λ x s. served_stays here outside ds (head_of i) R.e.now x s) R.e.inserted (holds_of _ _ R.e (head_served ds outside b (head_of i)) R.expands)) R.adds)

head_spots : (h : Head) (ds : List Declaration) → IfOuter LeadsOut h → All (λ (x : Standing). OutSpot x.spot) (in_inserted h ds)
unfolding in_inserted
head_spots h [] p = done
head_spots h (d ∷ ds) p = p & head_spots h ds p

heads_spots : (hs : List Head) → All (IfOuter LeadsOut) hs → All (λ (x : Standing). OutSpot x.spot) (in_heads hs)
unfolding in_heads
heads_spots [] a = done
heads_spots (h ∷ hs) (p & a) = all_append _ _ (head_spots h h.decls p) (heads_spots hs a)

original_spots : (n m : ℕ) (ds : List Declaration) → All (λ (x : Standing). OutSpot x.spot) (in_original n m ds)
unfolding in_original
original_spots n m [] = done
original_spots n m (d ∷ ds) = tt & original_spots n (suc m) ds

fields_spots : (fs : Fields) (ds : List Declaration) (here : Env) (outside : Outside) (b k n : ℕ) (r : Fields × ℕ) → LowFields fs → resolve_fields fs ds here outside b k ≡ ok r
    → All (λ (x : Standing). OutSpot x.spot) (standings n r.0)
unfolding standings
fields_spots end ds here outside b k n r low eq = rw (← ran_end ds here outside b k r eq) done
fields_spots (i ▸ fs) ds here outside b k n r low eq =
    let R = ran i fs ds here outside b k r eq in
    subst (All (λ (x : Standing). OutSpot x.spot)) (sym (Agree.ran_standings R low.0.decls n))
    (all_append _ _ (heads_spots R.new (new_lead_out R)) (all_append _ _ (original_spots n 0 (head_of i).decls) (fields_spots fs ds here (onward i outside) R.e.k R.q.1 (suc n) R.rs low.2 R.goes_on_lem)))

-- ---- a scope further out is another one

abbrev Nested : List Level → Type 0
Nested [] = Unit {0}
Nested (l ∷ ls) = All (λ (x : Level). length x.way < length l.way) ls × Nested ls

around_nested : (way : List ℕ) (l : Level) (outside ls : List Level) → Readings.around way l outside ≡ some ls → Nested (l ∷ outside) → Nested ls
unfolding Readings.around
around_nested [] l outside ls e h = subst Nested (some_same _ ls e) h
around_nested (n ∷ way) l outside ls e h =
    let s₁ = then_some (get_elem? (originals l.fields) n) _ ls e in
    let s₂ = then_some (Readings.held s₁.0) _ ls s₁.2 in
    let longer = length-append l.way (n ∷ []) in
    let inner : Level = level (l.way ++ (n ∷ [])) s₂.0 in
    let first : length l.way < length inner.way = omega (arith, longer) in
    around_nested way inner (l ∷ outside) ls s₂.2 (first & all_map outside (λ x q. omega (arith, first, q)) h.0, h)

leads_elsewhere : (l : Level) (ls : List Level) (h : Head) (d : Place) → Nested (l ∷ ls) → LeadsOut h → counted_out (l ∷ ls) h.operands ≡ some d → ¬ (d.way ≡ l.way)
unfolding counted_out outer_alias place
leads_elsewhere l ls h d nested (space, new, c, i, z, is, far) e same =
    let q : counted_out (l ∷ ls) (outer space (Num c) (Num i) z ∷ []) ≡ some d = ap (λ (x : Head). counted_out (l ∷ ls) x.operands) (sym is) ∙ e in
    let s₁ = then_some (get_elem? (l ∷ ls) c) _ d q in
    let s₂ = then_some (counted s₁.0 space i) _ d s₁.2 in
    let shorter = further c s₁.0 far s₁.1 in
    let ways : d.way ≡ s₁.0.way = way_of s₁.0 s₂.0 s₂.2 in
    let lengths = ap length (sym same ∙ ways) in
    omega (arith, shorter, lengths)
  where
    further : (c : ℕ) (x : Level) → 1 ≤ c → get_elem? (l ∷ ls) c ≡ some x → length x.way < length l.way
    further zero x f e = absurd (omega arith)
    further (suc c) x f e = all_at ls c x nested.0 e

    way_of : (x : Level) (s : Spot) → place x s ≡ some d → d.way ≡ x.way
    way_of x (original field at) e = ap (λ (y : Place). y.way) (sym (some_same _ d e))
    way_of x (inserted h) e = no_option d e

-- ---- the theorem

-- what a written REF without PATHs asks
ref_asks : (s : Scope) (p : Place) (u : Use) (w : Written) (space n z : ℕ) → use_at s p ≡ some u → u.operand ≡ ref space (Num n) [] z → written_at s p ≡ some w
    → (u.operand ≡ ref w.space (Num w.number) [] w.z) × (w.out ≡ 0)
unfolding written_at written
ref_asks s p u w space n z eu eo ew =
    let s₁ = then_some (use_at s p) _ w ew in
    let s₂ = then_some (names_to p.way s []) _ w s₁.2 in
    let same : s₁.0 ≡ u = some_same _ u (sym s₁.1 ∙ eu) in
    let q : written s₂.0 (ref space (Num n) [] z) ≡ some w = ap (written s₂.0) (sym (ap (λ (x : Use). x.operand) same ∙ eo)) ∙ s₂.2 in
    let is : ◌≡◌ {A = Written} (record { z = z; out = 0; space = space; number = n }) w = some_same _ w q in
    (eo ∙ ap (λ (x : Written). ref x.space (Num x.number) [] x.z) is, sym (ap (λ (x : Written). x.out) is))

-- the counting reading, where the scope and the spot are known
reading_is : (t : Scope) (p : Place) (u : Use) (w : Written) (l : Level) (x : Spot) → use_at t p ≡ some u → u.operand ≡ ref w.space (Num w.number) [] w.z → w.out ≡ 0
    → scope_of t p w ≡ some l → counted l w.space w.number ≡ some x → counting_reading t p ≡ meant u.levels l x
unfolding ◌then◌
reading_is t p u w l x e q o es ec = sym (reads_ref t p u w e q o) ∙ step (scope_of t p w) es
  where
    step : (v : Option Level) → v ≡ some l → (v then λ l. counted l w.space w.number then meant u.levels l) ≡ meant u.levels l x
    step v e = rw (e, ec)

-- the scope of a place, in the input and in the output
record OwnScope (l l' : Level) : Type 0 where
  same_way : l'.way ≡ l.way
  were : All (λ (x : Standing). OnOriginal x.spot) (standings 0 l.fields)
  are : All (λ (x : Standing). OutSpot x.spot) (standings 0 l'.fields)

own_scope : {ls ls' : List Level} → Arrived ls ls' → (l l' : Level) → get_elem? ls 0 ≡ some l → get_elem? ls' 0 ≡ some l' → OwnScope l l'
own_scope {ls} {ls'} D l l' e e' =
    let was : level D.w D.fs ≡ l = some_same _ l (ap (λ (x : List Level). get_elem? x 0) D.was ∙ e) in
    let now : level D.w D.out ≡ l' = some_same _ l' (ap (λ (x : List Level). get_elem? x 0) D.now ∙ e') in
    record {
      same_way = ap (λ (x : Level). x.way) (sym now) ∙ ap (λ (x : Level). x.way) was;
      were = subst (λ (x : Level). All (λ (y : Standing). OnOriginal y.spot) (standings 0 x.fields)) was (low_spots 0 D.fs D.ends.low);
      are = subst (λ (x : Level). All (λ (y : Standing). OutSpot y.spot) (standings 0 x.fields)) now
          (fields_spots D.fs (declarations D.fs) D.here D.outside D.ends.k D.ends.k' 0 (D.out, D.ends.k'') D.ends.low D.ends.resolves);
    }

scope_first : (t : Scope) (p : Place) (w : Written) (ls : List Level) (l : Level) → w.out ≡ 0 → Readings.around p.way (Readings.root t) [] ≡ some ls → scope_of t p w ≡ some l → get_elem? ls 0 ≡ some l
unfolding ◌then◌
scope_first t p w ls l o e q = rw (e, o) at q

-- an original declaration of the input, and what the output's number counts to
both : (ls' : List Level) (l l' : Level) (x y : Spot) (was now : Option Place) → Nested ls' → get_elem? ls' 0 ≡ some l' → l'.way ≡ l.way → OnOriginal x → OutSpot y → place l x ≡ was → place l' y ≡ now
    → (d : Place) × (was ≡ some d) × (meant ls' l x ≡ some d) × (same_place was now ≡ true → meant ls' l' y ≡ some d) × (same_place was now ≡ false → ¬ (meant ls' l' y ≡ some d))
unfolding place meant when◌then◌else◌
both ls' l l' (inserted h) y was now nested e way on out ew en = absurd on
both ls' l l' (original f a) (original f' a') was now nested e way on out ew en =
    let d : Place = record { way = l.way; field = f; at = a } in
    let there : some (record { way = l'.way; field = f'; at = a' }) ≡ now = en in (
      d,
      sym ew,
      refl,
      λ t. en ∙ same_place_lem d now (subst (λ (o : Option Place). same_place o now ≡ true) (sym ew) t),
      λ t q. not_both (same_place was now) (subst (λ (o : Option Place). same_place o now ≡ true) ew (subst (λ (o : Option Place). same_place (some d) o ≡ true) (sym q ∙ en) (place_same d))) t,
    )
both ls' l l' (original f a) (inserted h) was now nested e way on out ew en =
    let d : Place = record { way = l.way; field = f; at = a } in (
      d,
      sym ew,
      refl,
      λ t. no_option d (en ∙ same_place_lem d now (subst (λ (o : Option Place). same_place o now ≡ true) (sym ew) t)),
      λ t. leads (eqb h.code 11) refl,
    )
  where
    front : (ls : List Level) → Nested ls → get_elem? ls 0 ≡ some l' → h.code ≡ 11 → (d : Place) → d.way ≡ l.way → counted_out ls h.operands ≡ some d → ⊥
    front [] n q c d w e = no_option l' q
    front (l₀ ∷ ls) n q c d w e =
        let same : l₀ ≡ l' = some_same l₀ l' q in
        leads_elsewhere l₀ ls h d n (out c) e (w ∙ (sym way ∙ ap (λ (x : Level). x.way) (sym same)))

    leads : (b : Bool) → eqb h.code 11 ≡ b → ¬ ((when b then counted_out ls' h.operands else none) ≡ some (record { way = l.way; field = f; at = a }))
    leads true q r = front ls' nested e (eqb-true h.code 11 q) _ refl r
    leads false q r = no_option _ r

-- the meaning of an original spot does not depend on the scopes around
same_meaning : (ls ls' : List Level) (l : Level) (x : Spot) → OnOriginal x → meant ls l x ≡ meant ls' l x
unfolding meant
same_meaning ls ls' l (original field at) o = refl
same_meaning ls ls' l (inserted h) o = absurd o

pub arrived : (rules : RuleSet) (s : Scope) (r : Scope × ℕ) (p : Place) (ls ls' : List Level) → LowScope s → resolve rules s ≡ ok r → Readings.around p.way (Readings.root s) [] ≡ some ls
    → Readings.around p.way (Readings.root r.0) [] ≡ some ls' → Arrived ls ls'
unfolding resolve Readings.root
arrived rules (scope kind name fs) r p ls ls' low eq e e' =
    let E = Agree.ended kind name fs (at_root rules []) 0 r low.1 eq in
    let D = Agree.descend p.way [] E.2 nowhere ls e in
    subst (Arrived ls) (some_same _ ls' (sym (ap (λ (t : Scope). Readings.around p.way (Readings.root t) []) E.3 ∙ D.1) ∙ e')) D.2

-- For a REF written as a number without PATHs, in an accepted tree: the counting reading of the input is a declaration, and that of the output
-- is the same one exactly if the number is not on the list.
pub ref_listed : (rules : RuleSet) (s : Scope) (r : Scope × ℕ) (p : Place) (u : Use) (w : Written) (was now : Denoted) (space n z : ℕ) → LowScope s → resolve rules s ≡ ok r → use_at s p ≡ some u
    → u.operand ≡ ref space (Num n) [] z → Counts s r.0 p w was now
    → (d : Place) × (was.place ≡ some d) × (counting_reading s p ≡ some d)
    × (same_place was.place now.place ≡ true → counting_reading r.0 p ≡ some d)
    × (same_place was.place now.place ≡ false → ¬ (counting_reading r.0 p ≡ some d))
unfolding resolve Readings.root is_written
ref_listed rules s r p u w was now space n z low eq eu eo C =
    let asks = ref_asks s p u w space n z eu eo C.number in
    let stays = Written.written_stays rules [] nowhere s r p u low eq eu (ap is_written eo) in
    let u' = stays.0 in
    let l = C.scope_was.level in
    let l' = C.scope_now.level in
    let in_was = floor_level s p w C.scope_was C.in_was in
    let in_now = floor_level r.0 p w C.scope_now C.in_now in
    let a = denoted_counted C.scope_was w was C.counted_was in
    let b = denoted_counted C.scope_now w now C.counted_now in
    let before = reading_is s p u w l a.0 eu asks.0 asks.1 in_was a.1 in
    let after = reading_is r.0 p u' w l' b.0 stays.1 (stays.2 ∙ asks.0) asks.1 in_now b.1 in
    let around-was = use_around s p u eu in
    let around-now = use_around r.0 p u' stays.1 in
    let first-was = scope_first s p w u.levels l asks.1 around-was in_was in
    let first-now = scope_first r.0 p w u'.levels l' asks.1 around-now in_now in
    let O = own_scope (arrived rules s r p u.levels u'.levels low eq around-was around-now) l l' first-was first-now in
    let on = counted_spot OnOriginal l w.space w.number a.0 O.were a.1 in
    let out = counted_spot OutSpot l' w.space w.number b.0 O.are b.1 in
    let nested = around_nested p.way (Readings.root r.0) [] u'.levels around-now (done, tt) in
    let B = both u'.levels l l' a.0 b.0 was.place now.place nested first-now O.same_way on out a.2 b.2 in
    (B.0, B.1, before ∙ (same_meaning u.levels u'.levels l a.0 on ∙ B.2), λ t. after ∙ B.3 t, λ t e. B.4 t (sym after ∙ e))
