-- The binding sheet: it passes exactly if every slot is bound as written, and for a walked name that is what the author wrote.
use Rattle.std.specs.Prelude.{◌≡◌, refl, Bool, true, false, ◌&&◌, List, [], ◌∷◌, map, ℕ, suc, eqb}
use Rattle.std.proofs.Common.{ap, sym, ◌∙◌, subst, arith}
use Rattle.std.proofs.Math.Option
use Rattle.std.proofs.Math.Option.{Option, none, some}
use Rattle.std.proofs.Math.ListN.{get_elem?}
use Rattle.rules.specs.Tools.{when◌then◌else◌, ◌then◌, ◌or_else◌}
use Rattle.rules.specs.Versions.{RuleSet}
use Rattle.rules.specs.Rows.{Num, Id}
use Rattle.rules.specs.Tree.{Declaration, Operand, ref, outer, case, Head, Scope, scope, Item, head_of}
use Rattle.rules.specs.Rules.{ok, at_root, declarations, resolve}
use Rattle.rules.specs.Readings
use Rattle.rules.specs.Readings.{originals, Place, Level, level, Use, use_at, Spot, original, inserted, Standing, standings, first_named, place, declared, outward, counted, counted_out, meant, counting, walked_at, outward_reading, counting_reading}
use Rattle.places.specs.PlaceRows
use Rattle.places.specs.PlaceRows.{Placed, originals_from, Floor, floors_at, field_at, decl_at, row_of_decl, Located, located, counted_row}
use Rattle.binding.specs.Sheet.{Slot, Binding, as_written, elsewhere, no_reference, several, refs_at, outer_to, follow, reached_from, reached, bound_to, bound, binding, bindings, is_as_written, passes, failing}
use Rattle.rules.specs.Laws.ToolLaws.{false_not, and_left, and_right, eqb-true, eqb_same, eqb-false, then_some, All, done, ◌&◌}
use Rattle.rules.specs.Laws.Results.{some_same, no_option, holds_of}
use Rattle.places.specs.Counting.{levels, originals_from_lem, elem_map, floors_at_lem, standing, located_standings, spot_of, counted_row_lem}
use Rattle.places.proofs.RowAt.{all_at}
use Rattle.places.proofs.LocatedAt.{AtItsWay, all_at_own_way, located_in, entry_place, located_place}
use Rattle.moving.proofs.Laws.Lists.{map_some}
use Rattle.rules.specs.Laws.Meaning.Names.{LowScope}
use Rattle.rules.proofs.Laws.Meaning.Runs
use Rattle.rules.proofs.Laws.Meaning.Runs.{seeing}
use Rattle.rules.proofs.Laws.Meaning.Frames.{nowhere}
use Rattle.rules.proofs.Laws.Meaning.Agree
use Rattle.rules.proofs.Laws.Meaning.Agree.{Arrived, readings_agree}

-- ---- a sheet passes exactly if all are bound as written

is_written_lem : (b : Binding) → is_as_written b ≡ true → b ≡ as_written
unfolding is_as_written
is_written_lem as_written e = refl
is_written_lem (elsewhere row) e = false_not e
is_written_lem no_reference e = false_not e
is_written_lem several e = false_not e

pub passes_all : (bs : List Binding) → passes bs ≡ true → All (λ (b : Binding). b ≡ as_written) bs
unfolding passes
passes_all [] e = done
passes_all (b ∷ bs) e = is_written_lem b (and_left (is_as_written b) (passes bs) e) & passes_all bs (and_right (is_as_written b) (passes bs) e)

pub all_passes : {bs : List Binding} → All (λ (b : Binding). b ≡ as_written) bs → passes bs ≡ true
unfolding passes is_as_written
all_passes done = refl
all_passes (h & a) = rw h (all_passes a)

-- none fails exactly if it passes
pub none_fails : (bs : List Binding) → passes bs ≡ true → failing bs ≡ 0
unfolding failing passes when◌then◌else◌
none_fails [] e = refl
none_fails (b ∷ bs) e = rw (and_left (is_as_written b) (passes bs) e) (none_fails bs (and_right (is_as_written b) (passes bs) e))

pub no_failing : (bs : List Binding) → failing bs ≡ 0 → passes bs ≡ true
unfolding failing passes when◌then◌else◌
no_failing [] e = refl
no_failing (b ∷ bs) e = go (is_as_written b) e (no_failing bs)
  where
    go : (t : Bool) → (when t then failing bs else suc (failing bs)) ≡ 0 → (failing bs ≡ 0 → passes bs ≡ true) → t && passes bs ≡ true
    go true e below = below e
    go false e below = absurd (omega (arith, e))

-- ---- the declaration at a place is kept

unfoldable decl_in : List Level → (field at : ℕ) → Option Declaration
decl_in [] field at = none
decl_in (l ∷ ls) field at = get_elem? (originals l.fields) field then λ i. get_elem? (head_of i).decls at

decl_levels : (s : Scope) (p : Place) → decl_at s p ≡ (Readings.around p.way (Readings.root s) [] then λ ls. decl_in ls p.field p.at)
unfolding decl_at field_at PlaceRows.field_in decl_in ◌then◌
decl_levels s p = rw (← (floors_at_lem s p.way)) (go (floors_at s p.way))
  where
    inner : (o : Option Placed) → (o then λ i. get_elem? (head_of i.item).decls p.at) ≡ (Option.map (λ (x : Placed). x.item) o then λ i. get_elem? (head_of i).decls p.at)
    inner none = refl
    inner (some i) = refl

    go : (o : Option (List Floor)) → ((o then λ fs. PlaceRows.field_in fs p.field) then λ i. get_elem? (head_of i.item).decls p.at) ≡ (Option.map levels o then λ ls. decl_in ls p.field p.at)
    go none = refl
    go (some []) = refl
    go (some (f ∷ fs)) =
        inner (get_elem? (originals_from f.row f.level.fields) p.field)
        ∙ ap (λ (o : Option Item). o then λ i. get_elem? (head_of i).decls p.at)
        (sym (elem_map (λ (x : Placed). x.item) (originals_from f.row f.level.fields) p.field) ∙ ap (λ (l : List Item). get_elem? l p.field) (originals_from_lem f.row f.level.fields))

-- In an accepted run the declaration at a place of the input is that at the same place of the output.
pub decl_kept : (rules : RuleSet) (s : Scope) (r : Scope × ℕ) (p : Place) (d : Declaration) → LowScope s → resolve rules s ≡ ok r → decl_at s p ≡ some d → decl_at r.0 p ≡ some d
unfolding resolve Readings.root decl_in ◌then◌
decl_kept rules (scope kind name fs) r p d low eq e =
    let E = Agree.ended kind name fs (at_root rules []) 0 r low.1 eq in
    let s₁ = then_some (Readings.around p.way (Readings.root (scope kind name fs)) []) _ d (sym (decl_levels (scope kind name fs) p) ∙ e) in
    let D = Agree.descend p.way [] E.2 nowhere s₁.0 s₁.1 in
    decl_levels r.0 p
    ∙ found r.0 D.0 (ap (λ (t : Scope). Readings.around p.way (Readings.root t) []) E.3 ∙ D.1) (there D.2 s₁.2)
  where
    found : (t : Scope) (ls : List Level) → Readings.around p.way (Readings.root t) [] ≡ some ls → decl_in ls p.field p.at ≡ some d
        → (Readings.around p.way (Readings.root t) [] then λ ls. decl_in ls p.field p.at) ≡ some d
    found t ls e₁ e₂ = rw e₁ e₂

    at_item : (is : List Item) (i : Item) → get_elem? is p.field ≡ some i → get_elem? (head_of i).decls p.at ≡ some d → (get_elem? is p.field then λ i. get_elem? (head_of i).decls p.at) ≡ some d
    at_item is i e₁ e₂ = rw e₁ e₂

    there : {ls ls' : List Level} → Arrived ls ls' → decl_in ls p.field p.at ≡ some d → decl_in ls' p.field p.at ≡ some d
    there {ls} {ls'} D e =
        let q : decl_in (level D.w D.fs ∷ D.ins) p.field p.at ≡ some d = ap (λ (v : List Level). decl_in v p.field p.at) D.was ∙ e in
        let s₁ = then_some (get_elem? (originals D.fs) p.field) _ d q in
        let A = Agree.at_ended D.ends p.field s₁.0 s₁.1 in
        let same : (head_of A.q.0).decls ≡ (head_of s₁.0).decls =
        ap (λ (h : Head). h.decls) A.head
        ∙ ((holds_of _ _ _ (Runs.head_same D.here (seeing D.outside A.seen) A.e.now) A.resolves).0 ∙ (holds_of _ _ _ (Runs.expanded_same (declarations D.fs) (seeing D.outside A.seen) A.b (head_of s₁.0)) A.expands).0) in
        ap (λ (v : List Level). decl_in v p.field p.at) (sym D.now) ∙ at_item (originals D.out) A.q.0 A.there (ap (λ (ds : List Declaration). get_elem? ds p.at) same ∙ s₁.2)

-- ---- the outward reading of a name is a declaration of that name

-- the first of a name is an entry with that name
first_entry : {P : Located → Type 0} (xs : List Located) (space name : ℕ) (spot : Spot) → All P xs → first_named (map standing xs) space name ≡ some spot
    → (x : Located) × P x × (x.standing.spot ≡ spot) × (x.standing.decl.space ≡ space) × (x.standing.decl.name ≡ name)
unfolding first_named when◌then◌else◌
first_entry [] space name spot a e = no_option spot e
first_entry {P} (x ∷ xs) space name spot (h & a) e = go (eqb x.standing.decl.space space && eqb x.standing.decl.name name) refl e (λ q. first_entry xs space name spot a q)
  where
    go : (b : Bool) → eqb x.standing.decl.space space && eqb x.standing.decl.name name ≡ b
        → (when b then some x.standing.spot else first_named (map standing xs) space name) ≡ some spot
        → (first_named (map standing xs) space name ≡ some spot → (y : Located) × P y × (y.standing.spot ≡ spot) × (y.standing.decl.space ≡ space) × (y.standing.decl.name ≡ name))
        → (y : Located) × P y × (y.standing.spot ≡ spot) × (y.standing.decl.space ≡ space) × (y.standing.decl.name ≡ name)
    go true t e below =
        (x, h, some_same _ spot e, eqb-true _ space (and_left _ _ t), eqb-true _ name (and_right (eqb x.standing.decl.space space) _ t))
    go false t e below = below e

-- a declaration of the name in the space
abbrev pub Declares : Scope → Place → (space name : ℕ) → Type 0
Declares s d space name = (y : Declaration) × (decl_at s d ≡ some y) × (y.space ≡ space) × (y.name ≡ name)

declared_entry : (s : Scope) (f : Floor) (space name : ℕ) (d : Place) → AtItsWay s f → declared f.level space name ≡ some d → Declares s d space name
unfolding declared
declared_entry s f space name d own e =
    let s₁ = then_some (first_named (standings 0 f.level.fields) space name) _ d e in
    let q = ap (λ (l : List Standing). first_named l space name) (located_standings f.row 0 f.level.fields) ∙ s₁.1 in
    let x = first_entry (located f.row 0 f.level.fields) space name s₁.0 (located_in f.row 0 f.level.fields) q in
    let p = entry_place s f x.0 d own x.1 (ap (place f.level) x.2 ∙ s₁.2) in
    (x.0.standing.decl, p.0, x.3, x.4)

outward_entry : (s : Scope) (fs : List Floor) (space name : ℕ) (d : Place) → All (AtItsWay s) fs → outward (levels fs) space name ≡ some d → Declares s d space name
unfolding outward ◌or_else◌
outward_entry s [] space name d a e = no_option d e
outward_entry s (f ∷ fs) space name d (own & a) e = go (declared f.level space name) refl e (λ q. outward_entry s fs space name d a q)
  where
    go : (o : Option Place) → declared f.level space name ≡ o → (o or_else outward (levels fs) space name) ≡ some d → (outward (levels fs) space name ≡ some d → Declares s d space name) → Declares s d space name
    go none q e below = below e
    go (some p) q e below = declared_entry s f space name d own (q ∙ e)

-- the scopes around a place, with their rows
around_floors : (s : Scope) (p : Place) (u : Use) → use_at s p ≡ some u → (fs : List Floor) × (floors_at s p.way ≡ some fs) × (levels fs ≡ u.levels)
unfolding Readings.use_inside Readings.root
around_floors s p u e =
    let s₁ = then_some (Readings.around p.way (Readings.root s) []) _ u e in
    let m = map_some levels (floors_at s p.way) s₁.0 (floors_at_lem s p.way ∙ s₁.1) in
    (m.0, m.1, m.2 ∙ sym (Agree.use_levels s₁.0 p.field p.at u s₁.2))

-- The outward reading of a walked name is a declaration of that name in that space.
pub outward_declares : (s : Scope) (p d : Place) (x : ℕ × ℕ) → walked_at s p ≡ some x → outward_reading s p ≡ some d → Declares s d x.0 x.1
unfolding Readings.walked_inside Readings.outward_inside
outward_declares s p d x w e =
    let a₁ = then_some (use_at s p) _ x w in
    let b₁ = then_some (use_at s p) _ d e in
    let b₂ = then_some (Readings.walked b₁.0.head b₁.0.operand) _ d b₁.2 in
    let same-use : a₁.0 ≡ b₁.0 = some_same _ _ (sym a₁.1 ∙ b₁.1) in
    let same : b₂.0 ≡ x = some_same _ x (sym b₂.1 ∙ (ap (λ (u : Use). Readings.walked u.head u.operand) (sym same-use) ∙ a₁.2)) in
    let F = around_floors s p b₁.0 b₁.1 in
    let q : outward (levels F.0) x.0 x.1 ≡ some d = ap (λ (ls : List Level). outward ls x.0 x.1) F.2 ∙ (ap (λ (y : ℕ × ℕ). outward b₁.0.levels y.0 y.1) (sym same) ∙ b₂.2) in
    outward_entry s F.0 x.0 x.1 d (all_at_own_way s p.way F.0 F.1) q

-- ---- what counting means in the output is what is reached

-- `x` is the declaration at the place `d`, with its row
abbrev pub IsAt : Scope → Place → Located → Type 0
IsAt s d x = (decl_at s d ≡ some x.standing.decl) × (row_of_decl s d ≡ some x.row)

counted_at : (s : Scope) (f : Floor) (space n : ℕ) (d : Place) → AtItsWay s f → (counted f.level space n then place f.level) ≡ some d → (x : Located) × (counted_row f space n ≡ some x) × IsAt s d x
counted_at s f space n d own e =
    let s₁ = then_some (counted f.level space n) _ d e in
    let m = map_some spot_of (counted_row f space n) s₁.0 (counted_row_lem f space n ∙ s₁.1) in
    (m.0, m.1, located_place s f space n m.0 d own m.1 (ap (place f.level) m.2 ∙ s₁.2))

outer_at_lem : (s : Scope) (fs : List Floor) (os : List Operand) (d : Place) → All (AtItsWay s) fs → counted_out (levels fs) os ≡ some d → (x : Located) × (outer_to fs os ≡ some x) × IsAt s d x
unfolding counted_out outer_to ◌then◌
outer_at_lem s fs [] d a e = no_option d e
outer_at_lem s fs (ref space at paths z ∷ os) d a e = no_option d e
outer_at_lem s fs (outer space (Num c) (Num n) z ∷ os) d a e =
    let s₁ = then_some (get_elem? (levels fs) c) _ d e in
    let m = map_some (λ (f : Floor). f.level) (get_elem? fs c) s₁.0 (sym (elem_map (λ (f : Floor). f.level) fs c) ∙ s₁.1) in
    let X = counted_at s m.0 space n d (all_at fs c m.0 a m.1) (subst (λ (l : Level). (counted l space n then place l) ≡ some d) (sym m.2) s₁.2) in
    (X.0, step fs c m.0 space n X.0 m.1 X.1, X.2)
  where
    step : (fs : List Floor) (c : ℕ) (f : Floor) (space n : ℕ) (x : Located) → get_elem? fs c ≡ some f → counted_row f space n ≡ some x → (get_elem? fs c then λ f. counted_row f space n) ≡ some x
    step fs c f space n x e₁ e₂ = rw e₁ e₂
outer_at_lem s fs (outer space (Num c) (Id name) z ∷ os) d a e = no_option d e
outer_at_lem s fs (outer space (Id name) at z ∷ os) d a e = no_option d e
outer_at_lem s fs (case name z ∷ os) d a e = no_option d e

reached_at : (s : Scope) (fs : List Floor) (o : Operand) (d : Place) → All (AtItsWay s) fs → counting (levels fs) o ≡ some d → (x : Located) × (reached_from fs o ≡ some x) × IsAt s d x
unfolding counting reached_from meant follow when◌then◌else◌ ◌then◌
reached_at s [] o d a e = no_option d e
reached_at s (f ∷ fs) (ref space (Num n) paths z) d (own & a) e =
    let s₁ = then_some (counted f.level space n) _ d e in
    let m = map_some spot_of (counted_row f space n) s₁.0 (counted_row_lem f space n ∙ s₁.1) in
    let q : meant (levels (f ∷ fs)) f.level m.0.standing.spot ≡ some d = ap (meant (levels (f ∷ fs)) f.level) m.2 ∙ s₁.2 in
    let X = go m.0 m.0.standing.spot refl m.1 q in
    (X.0, step m.0 X.0 m.1 X.1, X.2)
  where
    step : (y x : Located) → counted_row f space n ≡ some y → follow (f ∷ fs) y.standing.spot y ≡ some x → (counted_row f space n then λ x. follow (f ∷ fs) x.standing.spot x) ≡ some x
    step y x e₁ e₂ = rw e₁ e₂

    choose : (y : Located) (h : Head) (b : Bool) → (when b then counted_out (levels (f ∷ fs)) h.operands else none) ≡ some d
        → (x : Located) × ((when b then outer_to (f ∷ fs) h.operands else some y) ≡ some x) × IsAt s d x
    choose y h true e = outer_at_lem s (f ∷ fs) h.operands d (own & a) e
    choose y h false e = no_option d e

    go : (y : Located) (spot : Spot) → y.standing.spot ≡ spot → counted_row f space n ≡ some y → meant (levels (f ∷ fs)) f.level spot ≡ some d → (x : Located) × (follow (f ∷ fs) spot y ≡ some x) × IsAt s d x
    go y (original field at) e₁ e₂ e₃ = (y, refl, located_place s f space n y d own e₂ (ap (place f.level) e₁ ∙ e₃))
    go y (inserted h) e₁ e₂ e₃ = choose y h (eqb h.code 11) e₃
reached_at s (f ∷ fs) (ref space (Id name) paths z) d a e = no_option d e
reached_at s (f ∷ fs) (outer space up at z) d a e = no_option d e
reached_at s (f ∷ fs) (case name z) d a e = no_option d e

is_reached : (s : Scope) (p : Place) (u : Use) (fs : List Floor) (x : Located) → use_at s p ≡ some u → floors_at s p.way ≡ some fs → reached_from fs u.operand ≡ some x → reached s p ≡ some x
unfolding reached ◌then◌
is_reached s p u fs x e₁ e₂ e₃ = rw (e₁, e₂) e₃

-- Where counting gives a place, the declaration there is what is reached.
pub counting_reaches : (s : Scope) (p d : Place) → counting_reading s p ≡ some d → (x : Located) × (reached s p ≡ some x) × IsAt s d x
unfolding Readings.counting_inside
counting_reaches s p d e =
    let s₁ = then_some (use_at s p) _ d e in
    let F = around_floors s p s₁.0 s₁.1 in
    let X = reached_at s F.0 s₁.0.operand d (all_at_own_way s p.way F.0 F.1) (ap (λ (ls : List Level). counting ls s₁.0.operand) F.2 ∙ s₁.2) in
    (X.0, is_reached s p s₁.0 F.0 X.0 s₁.1 F.1 X.1, X.2)

-- ---- the slot of a walked name

bound_one : (before after : Scope) (slot : Slot) (p : Place) (x : Located) → refs_at before slot.place ≡ p ∷ [] → reached after p ≡ some x
    → binding before after slot ≡ (when eqb x.standing.decl.name slot.name then as_written else elsewhere x.row)
unfolding binding bound bound_to
bound_one before after slot p x e₁ e₂ = rw (e₁, e₂)

-- What a slot at the place of one walked name is about: what the author wrote, and what is bound.
pub record Meant (before after : Scope) (slot : Slot) (p : Place) (x : ℕ × ℕ) : Type 0 where
  -- the outward reading of the input, and the declaration there, which has the name that was written
  pub means : Place
  pub reads : outward_reading before p ≡ some means
  pub decl : Declaration
  pub declares : decl_at before means ≡ some decl
  pub named : decl.name ≡ x.1
  -- its row in the output
  pub row : ℕ
  pub at_row : row_of_decl after means ≡ some row
  -- bound as written exactly if that declaration has the slot's name; if not, elsewhere, and with the row of that declaration
  pub written_if : decl.name ≡ slot.name → binding before after slot ≡ as_written
  pub only_if : binding before after slot ≡ as_written → decl.name ≡ slot.name
  pub otherwise : ¬ (decl.name ≡ slot.name) → binding before after slot ≡ elsewhere row

not_both : (row : ℕ) → elsewhere row ≡ as_written → ⊥
unfolding is_as_written
not_both row e = false_not (ap is_as_written e)

-- For a slot whose place is that of exactly one REF, a walked name of an accepted tree.
pub slot_meant : (rules : RuleSet) (s : Scope) (r : Scope × ℕ) (slot : Slot) (p : Place) (x : ℕ × ℕ) → LowScope s → resolve rules s ≡ ok r → refs_at s slot.place ≡ p ∷ [] → walked_at s p ≡ some x
    → Meant s r.0 slot p x
unfolding when◌then◌else◌ resolve
slot_meant rules s r slot p x low eq one w =
    let A = readings_agree rules [] nowhere s r p x low eq w in
    let D = outward_declares s p A.0 x w A.1 in
    let X = counting_reaches r.0 p A.0 A.2 in
    let kept = decl_kept rules s r A.0 D.0 low eq D.1 in
    let same : X.0.standing.decl ≡ D.0 = some_same _ _ (sym X.2.0 ∙ kept) in
    let names : X.0.standing.decl.name ≡ D.0.name = ap (λ (d : Declaration). d.name) same in
    let is_bound : binding s r.0 slot ≡ (when eqb D.0.name slot.name then as_written else elsewhere X.0.row) =
    bound_one s r.0 slot p X.0 one X.1 ∙ ap (λ (n : ℕ). when eqb n slot.name then as_written else elsewhere X.0.row) names in
    record {
      means = A.0;
      reads = A.1;
      decl = D.0;
      declares = D.1;
      named = D.3;
      row = X.0.row;
      at_row = X.2.1;
      written_if = λ e. is_bound ∙ if_same D.0.name slot.name X.0.row e;
      only_if = λ e. only_same D.0.name slot.name X.0.row (eqb D.0.name slot.name) refl (sym is_bound ∙ e);
      otherwise = λ h. is_bound ∙ if_other D.0.name slot.name X.0.row h;
    }
  where
    if_same : (a b row : ℕ) → a ≡ b → (when eqb a b then as_written else elsewhere row) ≡ as_written
    if_same a b row e = rw (e, eqb_same b)

    if_other : (a b row : ℕ) → ¬ (a ≡ b) → (when eqb a b then as_written else elsewhere row) ≡ elsewhere row
    if_other a b row h = rw (eqb-false a b h)

    only_same : (a b row : ℕ) (t : Bool) → eqb a b ≡ t → (when t then as_written else elsewhere row) ≡ as_written → a ≡ b
    only_same a b row true q e = eqb-true a b q
    only_same a b row false q e = absurd (not_both row e)

-- ---- a sheet made from the names

-- the slot of a walked name at a place, with the name that was written
pub record FromName (s : Scope) (slot : Slot) : Type 0 where
  pub p : Place
  pub x : ℕ × ℕ
  pub alone : refs_at s slot.place ≡ p ∷ []
  pub walks : walked_at s p ≡ some x
  pub same_name : slot.name ≡ x.1

-- So a sheet of slots made from the names, each at a place of its own, passes with what the rules write.
pub names_pass : (rules : RuleSet) (s : Scope) (r : Scope × ℕ) {slots : List Slot} → LowScope s → resolve rules s ≡ ok r → All (FromName s) slots → passes (bindings s r.0 slots) ≡ true
unfolding bindings
names_pass rules s r low eq a = all_passes (all_written_lem a)
  where
    one : (slot : Slot) → FromName s slot → binding s r.0 slot ≡ as_written
    one slot f = let M = slot_meant rules s r slot f.p f.x low eq f.alone f.walks in M.written_if (M.named ∙ sym f.same_name)

    all_written_lem : {slots : List Slot} → All (FromName s) slots → All (λ (b : Binding). b ≡ as_written) (map (binding s r.0) slots)
    all_written_lem done = done
    all_written_lem (◌&◌ {x = slot} f fs) = one slot f & all_written_lem fs
