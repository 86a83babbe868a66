-- The operands of an export with an ascribed type are those of its signature and then its own reference, whatever they are: where the
-- signature may have none, an r s alone is the export's own.
use Rattle.std.specs.Prelude.{◌≡◌, Bool, ◌&&◌, ◌||◌, ℕ, eqb, length}
use Rattle.std.proofs.Math.Path.{refl, ap}
use Rattle.std.proofs.Common.{◌∙◌}
use Rattle.std.proofs.Math.Bool.{true, false}
use Rattle.std.proofs.Math.Option.{Option, none, some}
use mathlib.Core.List.{List, [], ◌∷◌}
use Rattle.rules.specs.Tools.{when◌then◌else◌, only, ◌then◌, is_in}
use Rattle.rules.specs.Tree.{Operand, ref, outer, case}
use Rattle.rules.specs.Shapes.{Want, r, p, Part, one, opt, typed, signature, ascribed, fits_ref, fits_outer, is_case, next, complete}
use Rattle.rules.specs.Good.{after_operand, after_operands}

-- ---- what is said

unfoldable pub ended : Option (List Part) → Bool
ended none = false
ended (some ps) = complete ps

-- are these operands all that is wanted, and no more?
abbrev pub takes : List Part → List Operand → Bool
takes ps os = ended (after_operands ps os)

-- what the first parts take, none or one of the operands, and then what the second take
abbrev pub takes_both : (first second : List Part) → List Operand → Bool
takes_both first second [] = takes first [] && takes second []
takes_both first second (o ∷ os) = (takes first [] && takes second (o ∷ os)) || (takes first (o ∷ []) && takes second os)

-- ---- one operand against one part

unfoldable fits : Operand → Want → Bool
fits (ref space at paths z) w = fits_ref w space (length paths)
fits (outer space up at z) w = fits_outer w space
fits (case n z) w = is_case w

after_is : (ps : List Part) (o : Operand) → after_operand ps o ≡ next (fits o) ps
unfolding after_operand fits
after_is ps (ref space at paths z) = refl
after_is ps (outer space up at z) = refl
after_is ps (case n z) = refl

-- `rest` is what the operands behind the first leave
module _ (rest : List Part → Option (List Part)) (w : Want) (ps : List Part) where
  needed : (f : Want → Bool) → ended (next f (one w ∷ ps) then rest) ≡ (ended (next f (one w ∷ []) then λ qs. some qs) && ended (rest ps))
  unfolding next only ◌then◌ ended complete
  needed f = go (f w)
    where
      go : (b : Bool) → ended (only b ps then rest) ≡ (ended (only {A = List Part} b [] then λ qs. some qs) && ended (rest ps))
      go true = refl
      go false = refl

if_only : {A : Type 0} (b : Bool) (x : A) → (when b then some x else none) ≡ only b x
unfolding when◌then◌else◌ only
if_only true x = refl
if_only false x = refl

-- that a part may be left out makes no difference to whether it takes an operand
may_too : (f : Want → Bool) (w : Want) → next f (opt w ∷ []) ≡ next f (one w ∷ [])
unfolding next
may_too f w = if_only {A = List Part} (f w) []

-- ---- a reference to s, alone or after one to a type

module _ (s : ℕ) where
  abbrev own : Want
  own = r (s ∷ [])

  abbrev type : Want
  type = p (9 ∷ [])

  typed_one : (f : Want → Bool) → ended (next f (typed s ∷ []) then λ qs. some qs) ≡ (ended (next f (one own ∷ []) then λ qs. some qs) || ended (next f (one type ∷ one own ∷ []) then λ qs. some qs))
  unfolding next only when◌then◌else◌ ◌then◌ ended complete
  typed_one f = go (f type) (f own)
    where
      go : (a b : Bool) → ended ((when a then some ((when b then opt own else one own) ∷ []) else only b []) then λ qs. some qs) ≡ (ended (only {A = List Part} b [] then λ qs. some qs) || ended (only a (one own ∷ []) then λ qs. some qs))
      go true true = refl
      go true false = refl
      go false true = refl
      go false false = refl

  typed_more : (f g : Want → Bool) (rest : List Part → Option (List Part)) → ended (next f (typed s ∷ []) then λ ps. next g ps then rest) ≡ (ended (next f (one own ∷ []) then λ ps. next g ps then rest) || ended (next f (one type ∷ one own ∷ []) then λ ps. next g ps then rest))
  unfolding next only when◌then◌else◌ ◌then◌ ended
  typed_more f g rest = go (f type) (f own)
    where
      go : (a b : Bool) → ended ((when a then some ((when b then opt own else one own) ∷ []) else only b []) then λ ps. next g ps then rest) ≡ (ended (only b [] then λ ps. next g ps then rest) || ended (only a (one own ∷ []) then λ ps. next g ps then rest))
      go true true = rw (if_only {A = List Part} (g own) []) refl
      go true false = refl
      go false true = refl
      go false false = refl

  typed_either : (os : List Operand) → takes (typed s ∷ []) os ≡ (takes (one own ∷ []) os || takes (one type ∷ one own ∷ []) os)
  unfolding after_operands ended complete
  typed_either [] = refl
  typed_either (o ∷ []) = simp (after_is) (typed_one (fits o))
  typed_either (o ∷ o' ∷ os) = simp (after_is) (typed_more (fits o) (fits o') (λ ps. after_operands ps os))

  -- ---- the export

  needs_both : (w : Want) (os : List Operand) → takes (one w ∷ one own ∷ []) os ≡ takes_both (one w ∷ []) (one own ∷ []) os
  unfolding after_operands ended complete
  needs_both w [] = refl
  needs_both w (o ∷ os) = simp (after_is) (needed (λ ps. after_operands ps os) w (one own ∷ []) (fits o))

  may_both : (os : List Operand) → takes (typed s ∷ []) os ≡ takes_both (opt type ∷ []) (one own ∷ []) os
  unfolding after_operands ended complete
  may_both [] = refl
  may_both (o ∷ os) =
      typed_either (o ∷ os)
      ∙ ap (λ x. takes (one own ∷ []) (o ∷ os) || x)
      (needs_both type (o ∷ os) ∙ simp (after_is, may_too) refl)

  pub ascribed_exactly : (os : List Operand) → takes (ascribed s) os ≡ takes_both (signature s) (one own ∷ []) os
  unfolding ascribed signature when◌then◌else◌
  ascribed_exactly os = go (eqb s 7) (is_in s (8 ∷ 10 ∷ 11 ∷ []))
    where
      go : (a b : Bool)
          → takes (when a then one (r (4 ∷ [])) ∷ one own ∷ [] else when b then one (r (9 ∷ [])) ∷ one own ∷ [] else typed s ∷ []) os
          ≡ takes_both (when a then one (r (4 ∷ [])) ∷ [] else when b then one (r (9 ∷ [])) ∷ [] else opt type ∷ []) (one own ∷ []) os
      go true b = needs_both (r (4 ∷ [])) os
      go false true = needs_both (r (9 ∷ [])) os
      go false false = may_both os
