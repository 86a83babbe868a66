-- The scopes around a place of a member are those of the member by itself, each behind the member's seat, and then the prelude's root. So what
-- a name means is looked for in the member as in a form by itself, and behind all its scopes in the prelude's root.
use Rattle.std.specs.Prelude.{◌≡◌, ℕ, zero, suc, ◌+◌, ◌≤◌, ◌<◌}
use Rattle.std.proofs.Math.Path.{refl, ap}
use Rattle.std.proofs.Common.{sym, ◌∙◌, arith}
use Rattle.std.proofs.Math.Option
use Rattle.std.proofs.Math.Option.{Option, none, some}
use mathlib.Core.List.{List, [], ◌∷◌, ◌++◌, map, append_assoc, append-nil}
use Rattle.std.proofs.Math.ListN.{length, get_elem?, length-append, length-map}
use Rattle.rules.specs.Tools.{when◌then◌else◌, ◌then◌, ◌or_else◌}
use Rattle.rules.specs.Tree.{Scope, scope, Fields, Item, head_of}
use Rattle.rules.specs.Good.{name_of}
use Rattle.rules.specs.Readings
use Rattle.rules.specs.Readings.{originals, Place, Level, level, fields_of, held, Use, Spot, original, inserted, standings, first_named, place, declared, outward, root, use_in, use_inside, use_at, walked, walked_at, place_from}
use Rattle.places.specs.Counting.{elem_map}
use Rattle.places.proofs.RowAt.{elem_behind}
use Rattle.moving.specs.Moved.{held_scope, names_to}
use Rattle.batching.specs.BatchReadings.{in_prelude, in_member, seat, placed, meant_by, member_outward, declared_out, name_in, member_means}
use Rattle.rules.specs.Laws.ToolLaws.{then_some}
use Rattle.rules.specs.Laws.Results.{some_same, no_option}
use Rattle.rules.proofs.Laws.Meaning.StepB.{walked_ref}

-- ---- scopes behind a way

-- a scope of a form whose root is at the end of `base`
abbrev pub seated : (base : List ℕ) → Level → Level
seated base l = level (base ++ l.way) l.fields

module _ (base : List ℕ) (outside : List Level) where
  -- the scopes of a form by itself, and then those around it
  abbrev pub behind_all : List Level → List Level
  behind_all ls = map (seated base) ls ++ outside

  around_seated : (way : List ℕ) (l : Level) (inner : List Level) → Readings.around way (seated base l) (behind_all inner) ≡ Option.map behind_all (Readings.around way l inner)
  unfolding Readings.around ◌then◌
  around_seated [] l inner = refl
  around_seated (n ∷ way) l inner = go (get_elem? (originals l.fields) n) (λ gs. around_seated way (level (l.way ++ (n ∷ [])) gs) (l ∷ inner))
    where
      below : Fields → Option (List Level)
      below gs = Readings.around way (level (l.way ++ (n ∷ [])) gs) (l ∷ inner)

      further : Fields → Option (List Level)
      further gs = Readings.around way (level ((base ++ l.way) ++ (n ∷ [])) gs) (seated base l ∷ behind_all inner)

      same : ((gs : Fields) → Readings.around way (level (base ++ (l.way ++ (n ∷ []))) gs) (behind_all (l ∷ inner)) ≡ Option.map behind_all (below gs)) → (gs : Fields) → further gs ≡ Option.map behind_all (below gs)
      same h gs = ap (λ (w : List ℕ). Readings.around way (level w gs) (seated base l ∷ behind_all inner)) (append_assoc base l.way (n ∷ [])) ∙ h gs

      inside : (o : Option Fields) → ((gs : Fields) → further gs ≡ Option.map behind_all (below gs)) → (o then further) ≡ Option.map behind_all (o then below)
      inside none h = refl
      inside (some gs) h = h gs

      go : (o : Option Item) → ((gs : Fields) → Readings.around way (level (base ++ (l.way ++ (n ∷ []))) gs) (behind_all (l ∷ inner)) ≡ Option.map behind_all (below gs))
          → (o then λ i. held i then further) ≡ Option.map behind_all (o then λ i. held i then below)
      go none h = refl
      go (some i) h = inside (held i) (same h)

-- ---- what they declare

placed_seated : (base : List ℕ) (l : Level) (o : Option Spot) → (o then place (seated base l)) ≡ Option.map (place_from base) (o then place l)
unfolding ◌then◌ place
placed_seated base l none = refl
placed_seated base l (some (original field at)) = refl
placed_seated base l (some (inserted h)) = refl

pub declared_seated : (base : List ℕ) (l : Level) (space name : ℕ) → declared (seated base l) space name ≡ Option.map (place_from base) (declared l space name)
unfolding declared
declared_seated base l space name = placed_seated base l (first_named (standings 0 l.fields) space name)

outward_seated : (base : List ℕ) (outside ls : List Level) (space name : ℕ)
    → outward (map (seated base) ls ++ outside) space name ≡ (Option.map (place_from base) (outward ls space name) or_else outward outside space name)
unfolding outward ◌or_else◌
outward_seated base outside [] space name = refl
outward_seated base outside (l ∷ ls) space name =
    ap (λ (o : Option Place). o or_else outward (map (seated base) ls ++ outside) space name) (declared_seated base l space name) ∙ go (declared l space name) (outward_seated base outside ls space name)
  where
    go : (o : Option Place) → outward (map (seated base) ls ++ outside) space name ≡ (Option.map (place_from base) (outward ls space name) or_else outward outside space name)
        → (Option.map (place_from base) o or_else outward (map (seated base) ls ++ outside) space name) ≡ (Option.map (place_from base) (o or_else outward ls space name) or_else outward outside space name)
    go none h = h
    go (some p) h = refl

-- ---- the operand at a place of the member

use_levels : (base : List ℕ) (outside ls : List Level) (f o : ℕ) (u : Use) → use_in ls f o ≡ some u
    → use_in (behind_all base outside ls) f o ≡ some (record { levels = behind_all base outside u.levels; head = u.head; operand = u.operand })
unfolding use_in ◌then◌
use_levels base outside [] f o u e = no_option u e
use_levels base outside (l ∷ ls) f o u e =
    let s₁ = then_some (get_elem? (originals l.fields) f) _ u e in
    let s₂ = then_some (get_elem? (head_of s₁.0).operands o) _ u s₁.2 in
    rw (s₁.1, s₂.1)
    (ap {B = Option Use} (λ (v : Use). some (record { levels = behind_all base outside v.levels; head = v.head; operand = v.operand })) (some_same _ u s₂.2))

-- as in the member by itself, with these scopes around it
pub use_seated : (base : List ℕ) (outside : List Level) (s : Scope) (p : Place) (u : Use) → use_at s p ≡ some u
    → use_inside base outside s p ≡ some (record { levels = behind_all base outside u.levels; head = u.head; operand = u.operand })
unfolding use_inside ◌then◌
use_seated base outside s p u e =
    let s₁ = then_some (Readings.around p.way (level [] (fields_of s)) []) _ u e in
    let whole : Readings.around p.way (level base (fields_of s)) outside ≡ some (behind_all base outside s₁.0) =
    ap (λ (w : List ℕ). Readings.around p.way (level w (fields_of s)) outside) (sym (append-nil base))
    ∙ (around_seated base outside p.way (level [] (fields_of s)) [] ∙ ap (Option.map (behind_all base outside)) s₁.1) in
    rw whole (use_levels base outside s₁.0 p.field p.at u s₁.2)

-- the names of the scopes around it, and then those around the member
pub names_seated : (way : List ℕ) (s : Scope) (inner outside : List ℕ) → names_to way s (inner ++ outside) ≡ Option.map (λ (ns : List ℕ). ns ++ outside) (names_to way s inner)
unfolding names_to ◌then◌
names_seated [] (scope kind name fs) inner outside = refl
names_seated (n ∷ way) (scope kind name fs) inner outside = go (get_elem? (originals fs) n) (λ t. names_seated way t (name ∷ inner) outside)
  where
    within : (o : Option Scope) → ((t : Scope) → names_to way t (name ∷ (inner ++ outside)) ≡ Option.map (λ (ns : List ℕ). ns ++ outside) (names_to way t (name ∷ inner)))
        → (o then λ t. names_to way t (name ∷ (inner ++ outside))) ≡ Option.map (λ (ns : List ℕ). ns ++ outside) (o then λ t. names_to way t (name ∷ inner))
    within none h = refl
    within (some t) h = h t

    go : (o : Option Item) → ((t : Scope) → names_to way t (name ∷ (inner ++ outside)) ≡ Option.map (λ (ns : List ℕ). ns ++ outside) (names_to way t (name ∷ inner)))
        → (o then λ i. held_scope i then λ t. names_to way t (name ∷ (inner ++ outside))) ≡ Option.map (λ (ns : List ℕ). ns ++ outside) (o then λ i. held_scope i then λ t. names_to way t (name ∷ inner))
    go none h = refl
    go (some i) h = within (held_scope i) h

-- ---- in the member or in the prelude

member_meant : (s : Scope) (o : Option Place) → Option.map meant_by (Option.map (place_from (seat s)) o) ≡ Option.map in_member o
unfolding meant_by placed seat
member_meant s none = refl
member_meant s (some d) = refl

root_placed : (s : Scope) (o : Option Spot) → Option.map meant_by (o then place (root s)) ≡ Option.map in_prelude (o then place (root s))
unfolding meant_by placed place root ◌then◌
root_placed s none = refl
root_placed s (some (original field at)) = refl
root_placed s (some (inserted h)) = refl

root_meant : (s : Scope) (space name : ℕ) → Option.map meant_by (declared (root s) space name) ≡ Option.map in_prelude (declared (root s) space name)
unfolding declared
root_meant s space name = root_placed s (first_named (standings 0 (root s).fields) space name)

-- ---- lists

elem_left : {A : Type 0} (xs ys : List A) (n : ℕ) (x : A) → get_elem? xs n ≡ some x → get_elem? (xs ++ ys) n ≡ some x
elem_left [] ys n x e = no_option x e
elem_left (y ∷ xs) ys zero x e = e
elem_left (y ∷ xs) ys (suc n) x e = elem_left xs ys n x e

elem_past : {A : Type 0} (xs : List A) (n : ℕ) → length xs ≤ n → get_elem? xs n ≡ none
elem_past [] n h = refl
elem_past (x ∷ xs) zero h = absurd (omega arith)
elem_past (x ∷ xs) (suc n) h = elem_past xs n (omega arith)

module _ (s : Scope) (ls : List Level) (space name : ℕ) where
  abbrev all : List Level
  all = behind_all (seat s) (root s ∷ []) ls

  -- a walked name: outward in the member, and then in the prelude's root
  pub outward_meant : Option.map meant_by (outward all space name) ≡ (Option.map in_member (outward ls space name) or_else Option.map in_prelude (declared (root s) space name))
  unfolding outward ◌or_else◌
  outward_meant = ap (Option.map meant_by) (outward_seated (seat s) (root s ∷ []) ls space name) ∙ go (outward ls space name)
    where
      last : (o : Option Place) → (o or_else none) ≡ o
      last none = refl
      last (some d) = refl

      go : (o : Option Place) → Option.map meant_by (Option.map (place_from (seat s)) o or_else (declared (root s) space name or_else none)) ≡ (Option.map in_member o or_else Option.map in_prelude (declared (root s) space name))
      go none = ap (Option.map meant_by) (last (declared (root s) space name)) ∙ root_meant s space name
      go (some d) = member_meant s (some d)

  -- a name in one scope of the member, or in the prelude's root, which is one scope behind the member's
  pub scope_meant_lem : (d : ℕ) (l : Level) → get_elem? ls d ≡ some l → Option.map meant_by (declared_out all d space name) ≡ Option.map in_member (declared l space name)
  unfolding declared_out ◌then◌
  scope_meant_lem d l e = rw (elem_left (map (seated (seat s)) ls) (root s ∷ []) d _ (elem_map (seated (seat s)) ls d ∙ ap (Option.map (seated (seat s))) e)) (ap (Option.map meant_by) (declared_seated (seat s) l space name) ∙ member_meant s (declared l space name))

  pub behind_meant : (d : ℕ) → d ≡ length ls → Option.map meant_by (declared_out all d space name) ≡ Option.map in_prelude (declared (root s) space name)
  unfolding declared_out ◌then◌
  behind_meant d e =
      let at : d ≡ length (map (seated (seat s)) ls) + 0 = omega (arith, length-map ls (seated (seat s))) in
      rw (at, elem_behind (map (seated (seat s)) ls) (root s ∷ []) 0) (root_meant s space name)

  pub past_meant : (d : ℕ) → length ls < d → Option.map meant_by (declared_out all d space name) ≡ none
  unfolding declared_out ◌then◌
  past_meant d h = rw (elem_past all d (omega (arith, length-append (map (seated (seat s)) ls) (root s ∷ []), length-map ls (seated (seat s)))))

-- ---- what a name means

module _ (s m : Scope) (p : Place) (u : Use) (there : use_at m p ≡ some u) (names : List ℕ) (are : names_to p.way m [] ≡ some names) where
  -- the operand in its form by itself, with the prelude's root behind all its scopes
  pub means_is : member_means s m p ≡ Option.map meant_by (name_in u.head.code (names ++ (name_of s ∷ [])) (behind_all (seat s) (root s ∷ []) u.levels) u.operand)
  unfolding member_means ◌then◌
  means_is =
      rw (use_seated (seat s) (root s ∷ []) m p u there, names_seated p.way m [] (name_of s ∷ []) ∙ ap (Option.map (λ (ns : List ℕ). ns ++ (name_of s ∷ []))) are)

  -- of a walked name it is the outward reading
  pub means_walked : (w : ℕ × ℕ) → walked_at m p ≡ some w → member_means s m p ≡ member_outward s m p
  unfolding member_outward Readings.outward_inside Readings.walked_inside name_in ◌then◌ when◌then◌else◌
  means_walked w e =
      let walks : walked u.head u.operand ≡ some w = rw there at e in
      let W = walked_ref u.head u.operand w walks in
      means_is ∙ rw (use_seated (seat s) (root s ∷ []) m p u there, walks, W.1, W.2)
