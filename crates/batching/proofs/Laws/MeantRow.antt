-- The row that a member's name means, out of the member's form or out of the prelude, has that name and is of that space.
use Rattle.std.specs.Prelude.{◌≡◌, refl, Bool, true, false, ◌&&◌, ℕ, zero, suc, ◌+◌, eqb, length}
use Rattle.std.proofs.Common.{ap, sym, ◌∙◌, arith}
use Rattle.std.proofs.Math.Path.{subst}
use Rattle.std.proofs.Math.Option.{Option, none, some, map}
use mathlib.Core.List.{List, [], ◌∷◌, ◌++◌}
use Rattle.std.proofs.Math.ListN.{get_elem?}
use Rattle.rules.specs.Tools.{when◌then◌else◌, ◌then◌, ◌or_else◌}
use Rattle.rules.specs.Tree.{Declaration, Scope, scope, Fields, end, ◌▸◌, Item, plain, holds, head_of}
use Rattle.rules.specs.Readings
use Rattle.rules.specs.Readings.{originals, Place, Level, level, Use, Spot, original, inserted, in_original, standings, first_named, place, declared, outward, root, fields_of, held, around, walked_at}
use Rattle.batching.specs.BatchReadings.{Meant, in_prelude, in_member, seat, placed, meant_by, member_outward, decl_in, decl_at, meant_decl}
use Rattle.rules.specs.Laws.ToolLaws.{All, done, ◌&◌, and_left, and_right, eqb-true, then_some}
use Rattle.rules.specs.Laws.Results.{some_same, no_option}
use Rattle.rules.specs.Laws.Meaning.Names.{LowScope, LowFields, LowItem}
use Rattle.rules.proofs.Laws.Meaning.Lookups
use Rattle.rules.proofs.Laws.Meaning.Agree
use Rattle.batching.proofs.Laws.InPrelude.{walked_inside_lem}

-- a declaration of that space and name
abbrev pub Named : (space name : ℕ) → Option Declaration → Type 0
Named space name none = ⊥
Named space name (some d) = (d.space ≡ space) × (d.name ≡ name)

-- ---- in one scope

decls_named : (n m : ℕ) (ds : List Declaration) (space name field at : ℕ) → first_named (in_original n m ds) space name ≡ some (original field at)
    → (k : ℕ) × (field ≡ n) × (at ≡ m + k) × Named space name (get_elem? ds k)
unfolding first_named in_original when◌then◌else◌
decls_named n m [] space name field at e = no_option _ e
decls_named n m (d ∷ ds) space name field at e = go (eqb d.space space && eqb d.name name) refl e (decls_named n (suc m) ds space name field at)
  where
    go : (b : Bool) → eqb d.space space && eqb d.name name ≡ b → (when b then some (original n m) else first_named (in_original n (suc m) ds) space name) ≡ some (original field at)
        → (first_named (in_original n (suc m) ds) space name ≡ some (original field at) → (k : ℕ) × (field ≡ n) × (at ≡ suc m + k) × Named space name (get_elem? ds k))
        → (k : ℕ) × (field ≡ n) × (at ≡ m + k) × Named space name (get_elem? (d ∷ ds) k)
    go true q e below =
        let same : original n m ≡ original field at = some_same _ _ e in
        let f : field ≡ n = cc in
        let a : at ≡ m = cc in
        (0, f, omega arith, (eqb-true d.space space (and_left (eqb d.space space) (eqb d.name name) q), eqb-true d.name name (and_right (eqb d.space space) (eqb d.name name) q)))
    go false q e below = let I = below e in (suc I.0, I.1, omega (arith, I.2), I.3)

fields_named : (n : ℕ) (fs : Fields) (space name field at : ℕ) → LowFields fs → first_named (standings n fs) space name ≡ some (original field at)
    → (g : ℕ) × (field ≡ n + g) × Named space name (get_elem? (originals fs) g then λ i. get_elem? (head_of i).decls at)
unfolding standings first_named originals ◌or_else◌ ◌then◌
fields_named n end space name field at low e = no_option _ e
fields_named n (i ▸ fs) space name field at low e =
    let own = Lookups.low_original (head_of i) low.0.decls in
    let e' : (first_named (in_original n 0 (head_of i).decls) space name or_else first_named (standings (suc n) fs) space name) ≡ some (original field at) =
    sym (Lookups.first_append (in_original n 0 (head_of i).decls) (standings (suc n) fs) space name) ∙ (ap (λ ss. first_named ss space name) (sym (Lookups.standings_original n i fs own)) ∙ e) in
    subst (λ (is : List Item). (g : ℕ) × (field ≡ n + g) × Named space name (get_elem? is g then λ j. get_elem? (head_of j).decls at)) (sym (Lookups.originals_original i fs own))
    (go (first_named (in_original n 0 (head_of i).decls) space name) refl e' (fields_named (suc n) fs space name field at low.2))
  where
    go : (o : Option Spot) → first_named (in_original n 0 (head_of i).decls) space name ≡ o → (o or_else first_named (standings (suc n) fs) space name) ≡ some (original field at)
        → (first_named (standings (suc n) fs) space name ≡ some (original field at) → (g : ℕ) × (field ≡ suc n + g) × Named space name (get_elem? (originals fs) g then λ j. get_elem? (head_of j).decls at))
        → (g : ℕ) × (field ≡ n + g) × Named space name (get_elem? (i ∷ originals fs) g then λ j. get_elem? (head_of j).decls at)
    go none q r below = let I = below r in (suc I.0, omega (arith, I.1), I.2)
    go (some s) q r below =
        let D = decls_named n 0 (head_of i).decls space name field at (q ∙ r) in
        let k : at ≡ D.0 = omega (arith, D.2) in
        (0, omega (arith, D.1), rw k D.3)

declared_named : (l : Level) (space name : ℕ) (d : Place) → LowFields l.fields → declared l space name ≡ some d → (d.way ≡ l.way) × Named space name (decl_in (l ∷ []) d.field d.at)
unfolding declared place decl_in
declared_named l space name d low e =
    let s₁ = then_some (first_named (standings 0 l.fields) space name) _ d e in
    go s₁.0 s₁.1 s₁.2
  where
    go : (s : Spot) → first_named (standings 0 l.fields) space name ≡ some s → place l s ≡ some d
        → (d.way ≡ l.way) × Named space name (get_elem? (originals l.fields) d.field then λ i. get_elem? (head_of i).decls d.at)
    go (inserted h) q r = no_option d r
    go (original field at) q r =
        let D = fields_named 0 l.fields space name field at low q in
        let same : record { way = l.way; field = field; at = at } ≡ d = some_same _ d r in
        let k : field ≡ D.0 = omega (arith, D.1) in
        subst (λ (p : Place). (p.way ≡ l.way) × Named space name (get_elem? (originals l.fields) p.field then λ i. get_elem? (head_of i).decls p.at)) same
        (refl, rw k D.2)

-- ---- in the scopes around a member's reference

-- the rows of a scope are found where the readings say
pub record Held (prelude member : Scope) (l : Level) : Type 0 where
  pub low : LowFields l.fields
  pub row : (field at : ℕ) → meant_decl prelude member (placed l.way field at) ≡ decl_in (l ∷ []) field at

outward_named : (prelude member : Scope) (ls : List Level) (space name : ℕ) (d : Place) → All (Held prelude member) ls → outward ls space name ≡ some d
    → Named space name (meant_decl prelude member (meant_by d))
unfolding outward ◌or_else◌ meant_by
outward_named prelude member [] space name d hs e = no_option d e
outward_named prelude member (l ∷ ls) space name d (h & hs) e = go (declared l space name) refl e (outward_named prelude member ls space name d hs)
  where
    go : (o : Option Place) → declared l space name ≡ o → (o or_else outward ls space name) ≡ some d
        → (outward ls space name ≡ some d → Named space name (meant_decl prelude member (meant_by d))) → Named space name (meant_decl prelude member (meant_by d))
    go none q r below = below r
    go (some p) q r below =
        let D = declared_named l space name d h.low (q ∙ r) in
        rw (D.0, h.row d.field d.at) D.1

-- ---- the way down a member

low_at : (fs : Fields) (k : ℕ) (i : Item) → LowFields fs → get_elem? (originals fs) k ≡ some i → LowItem i
unfolding originals
low_at end k i low e = no_option i e
low_at (j ▸ fs) zero i low e =
    let q : get_elem? (j ∷ originals fs) 0 ≡ some i = rw (Lookups.originals_original j fs (Lookups.low_original (head_of j) low.0.decls)) at e in
    subst LowItem (some_same j i q) low.1
low_at (j ▸ fs) (suc k) i low e =
    let q : get_elem? (originals fs) k ≡ some i = rw (Lookups.originals_original j fs (Lookups.low_original (head_of j) low.0.decls)) at e in
    low_at fs k i low.2 q

low_held : (i : Item) (gs : Fields) → LowItem i → held i ≡ some gs → LowFields gs
unfolding held
low_held (plain h) gs low e = no_option gs e
low_held (holds h (scope kind name fs)) gs low e = subst LowFields (some_same fs gs e) low.1

module _ (prelude member : Scope) (n : ℕ) where
  -- a scope of the member, at the end of `v` from its root
  member_held : (v : List ℕ) (fs : Fields) (ks : List Level) → around v (root member) [] ≡ some (level v fs ∷ ks) → LowFields fs → Held prelude member (level (n ∷ v) fs)
  unfolding meant_decl placed decl_at decl_in ◌then◌
  member_held v fs ks e low = record { low = low; row = λ field at. rw e }

  along : (way v : List ℕ) (fs : Fields) (ks outside ls : List Level) → around v (root member) [] ≡ some (level v fs ∷ ks) → LowFields fs → All (Held prelude member) outside
      → around way (level (n ∷ v) fs) outside ≡ some ls → All (Held prelude member) ls
  unfolding around
  along [] v fs ks outside ls e low hs a = subst (All (Held prelude member)) (some_same _ ls a) (member_held v fs ks e low & hs)
  along (k ∷ way) v fs ks outside ls e low hs a =
      let s₁ = then_some (get_elem? (originals fs) k) _ ls a in
      let s₂ = then_some (held s₁.0) _ ls s₁.2 in
      along way (v ++ (k ∷ [])) s₂.0 (level v fs ∷ ks) (level (n ∷ v) fs ∷ outside) ls
      (Agree.around_snoc v k (root member) [] (level v fs) ks s₁.0 s₂.0 e s₁.1 s₂.1)
      (low_held s₁.0 s₂.0 (low_at fs k s₁.0 low s₁.1) s₂.1)
      (member_held v fs ks e low & hs) s₂.2

low_fields : (s : Scope) → LowScope s → LowFields (fields_of s)
low_fields (scope kind name fs) low = low.1

-- the prelude's root
root_held : (prelude member : Scope) → LowScope prelude → Held prelude member (root prelude)
unfolding meant_decl placed decl_at root around decl_in ◌then◌
root_held prelude member low = record { low = low_fields prelude low; row = λ field at. refl }

levels_held : (prelude member : Scope) (way : List ℕ) (ls : List Level) → LowScope prelude → LowScope member
    → around way (level (seat prelude) (fields_of member)) (root prelude ∷ []) ≡ some ls → All (Held prelude member) ls
unfolding seat root around
levels_held prelude member way ls lp lm e =
    along prelude member (length (originals (fields_of prelude))) way [] (fields_of member) [] (root prelude ∷ []) ls refl (low_fields member lm) (root_held prelude member lp & done) e

-- The row that a walked name of a member means has its space and its name.
pub row_named : (prelude member : Scope) (p : Place) (x : ℕ × ℕ) (d : Meant) → LowScope prelude → LowScope member → walked_at member p ≡ some x → member_outward prelude member p ≡ some d
    → Named x.0 x.1 (meant_decl prelude member d)
unfolding member_outward Readings.outward_inside Readings.use_inside
row_named prelude member p x d lp lm w e = go (Readings.outward_inside (seat prelude) (root prelude ∷ []) member p) refl e
  where
    go : (o : Option Place) → Readings.outward_inside (seat prelude) (root prelude ∷ []) member p ≡ o → map meant_by o ≡ some d → Named x.0 x.1 (meant_decl prelude member d)
    go none q r = no_option d r
    go (some c) q r =
        let s₁ = then_some (Readings.use_inside (seat prelude) (root prelude ∷ []) member p) _ c q in
        let s₂ = then_some (Readings.walked s₁.0.head s₁.0.operand) _ c s₁.2 in
        let s₃ = then_some (around p.way (level (seat prelude) (fields_of member)) (root prelude ∷ [])) _ s₁.0 s₁.1 in
        let walks = Agree.walked_at_lem (seat prelude) (root prelude ∷ []) member p s₁.0 s₂.0 s₁.1 s₂.1 in
        let same : s₂.0 ≡ x = some_same s₂.0 x (sym walks ∙ (walked_inside_lem (seat prelude) (root prelude ∷ []) member p ∙ w)) in
        let levels : s₁.0.levels ≡ s₃.0 = Agree.use_levels s₃.0 p.field p.at s₁.0 s₃.2 in
        let reads : outward s₃.0 x.0 x.1 ≡ some c =
        subst (λ (y : ℕ × ℕ). outward s₃.0 y.0 y.1 ≡ some c) same (subst (λ (ks : List Level). outward ks s₂.0.0 s₂.0.1 ≡ some c) levels s₂.2) in
        subst (λ (y : Meant). Named x.0 x.1 (meant_decl prelude member y)) (some_same (meant_by c) d r)
        (outward_named prelude member s₃.0 x.0 x.1 c (levels_held prelude member p.way s₃.0 lp lm s₃.1) reads)
