-- A reference fits without its PATHs where it fits with them. `orderly` is what this needs of the tables: no `p` that may be passed
-- over stands before an `r` of the same space.
use Rattle.std.specs.Prelude.{◌≡◌, Bool, ◌&&◌, ◌||◌, not, ℕ, suc, eqb, leb}
use Rattle.std.proofs.Math.Path.{refl}
use Rattle.std.proofs.Common.{sym, ◌∙◌, arith}
use Rattle.std.proofs.Math.Bool.{true, false}
use Rattle.std.proofs.Math.Option.{Option, none, some}
use mathlib.Core.List.{List, [], ◌∷◌}
use Rattle.rules.specs.Tools.{when◌then◌else◌, only, is_in}
use Rattle.rules.specs.Versions.{RuleSet}
use Rattle.rules.specs.Tree.{Declaration}
use Rattle.rules.specs.Shapes
use Rattle.rules.specs.Shapes.{Want, r, p, out, cas, Part, one, opt, any, cases, variants, typed, parts, fits_ref, next, complete}
use Rattle.rules.specs.Laws.ToolLaws.{Ok, only_ok, if_ok_lem, and_left, and_right, false_not, eqb-true, eqb-false, and-false, or-true, done, ◌&◌, get_d_all}
use Rattle.rules.specs.Laws.Results.{no_option, some_same, if_both}
use Rattle.rules.proofs.Laws.Read.Finish.{small, small_in}

-- ---- the test

-- none of the others is one of these
apart : (spaces others : List ℕ) → Bool
apart spaces [] = true
apart spaces (s ∷ ss) = not (is_in s spaces) && apart spaces ss

free_of : List ℕ → Want → Bool
free_of spaces (r others) = apart spaces others
free_of spaces (p others) = true
free_of spaces (out s) = true
free_of spaces cas = true

-- no `r` of one of these spaces is wanted
free : List ℕ → List Part → Bool
free spaces [] = true
free spaces (one w ∷ ps) = free_of spaces w && free spaces ps
free spaces (opt w ∷ ps) = free_of spaces w && free spaces ps
free spaces (any w ∷ ps) = free_of spaces w && free spaces ps
free spaces (cases ∷ ps) = free spaces ps
free spaces (variants ∷ ps) = free spaces ps
free spaces (typed s ∷ ps) = free_of spaces (r (s ∷ [])) && free spaces ps

free_after : Want → List Part → Bool
free_after (r spaces) ps = true
free_after (p spaces) ps = free spaces ps
free_after (out s) ps = true
free_after cas ps = true

-- a reference that may have PATHs is to a space
fine : Want → Bool
fine (r spaces) = small spaces
fine (p spaces) = true
fine (out s) = true
fine cas = true

pub orderly : List Part → Bool
orderly [] = true
orderly (one w ∷ ps) = fine w && orderly ps
orderly (opt w ∷ ps) = fine w && (free_after w ps && orderly ps)
orderly (any w ∷ ps) = fine w && (free_after w ps && orderly ps)
orderly (cases ∷ ps) = free (9 ∷ []) ps && orderly ps
orderly (variants ∷ ps) = free (9 ∷ []) ps && orderly ps
orderly (typed s ∷ []) = fine (r (s ∷ []))
orderly (typed s ∷ q ∷ ps) = false

-- ---- the tables pass it

abbrev Orderly : List Part → Type 0
Orderly ps = orderly ps ≡ true

signature_orderly : (space : ℕ) → Orderly (Shapes.signature space)
unfolding Shapes.signature orderly fine free_after free free_of apart small
signature_orderly space = if_ok_lem Orderly _ _ _ (λ t. refl) (λ f. if_ok_lem Orderly _ _ _ (λ t. refl) (λ f'. refl))

ascribed_orderly : (space : ℕ) → leb space 12 ≡ true → Orderly (Shapes.ascribed space)
unfolding Shapes.ascribed orderly fine free_after free free_of apart small
ascribed_orderly space low = if_ok_lem Orderly _ _ _ (λ t. rw low) (λ f. if_ok_lem Orderly _ _ _ (λ t. rw low) (λ f'. rw low))

module _ (rules : RuleSet) (heap : eqb 0 rules.heap ≡ false) where
  builtin_orderly : (e : ℕ) → Orderly (Shapes.builtin_parts rules e)
  unfolding Shapes.builtin_parts orderly fine free_after free free_of apart small
  builtin_orderly e =
      if_ok_lem Orderly _ _ _ (λ t. refl) λ f₁.
      if_ok_lem Orderly _ _ _ (λ t. refl) λ f₂.
      if_ok_lem Orderly _ _ _ (λ t. refl) λ f₃.
      if_ok_lem Orderly _ _ _ (λ t. refl) λ f₄.
      if_ok_lem Orderly _ _ _ (λ t. refl) λ f₅.
      if_ok_lem Orderly _ _ _ (λ t. refl) λ f₆.
      if_ok_lem Orderly _ _ _ (λ t. refl) λ f₇.
      if_ok_lem Orderly _ _ _ (λ t. refl) λ f₈.
      if_ok_lem Orderly _ _ _ (λ t. refl) λ f₉. refl

  pub parts_orderly : (code builtin : ℕ) (ds : List Declaration) → leb (Shapes.declared ds) 12 ≡ true → orderly (parts rules code builtin ds) ≡ true
  unfolding parts orderly fine free_after free free_of apart small
  parts_orderly code builtin ds low =
      get_d_all Orderly _ code []
      (refl & refl & refl & refl & refl & if_ok_lem Orderly _ _ _ (λ t. refl) (λ f. refl) & refl & refl & refl & refl & refl & refl & refl & refl & refl
      & refl & (rw heap) & refl & refl & builtin_orderly builtin & refl & signature_orderly (Shapes.declared ds)
      & if_ok_lem Orderly _ _ _ (λ t. rw low) (λ f. ascribed_orderly (Shapes.declared ds) low)
      & signature_orderly (Shapes.declared ds) & refl & refl & done)
      refl

-- ---- and so does what is left of them

pub orderly_next : (fits : Want → Bool) (ps : List Part) → orderly ps ≡ true → Ok (λ q. orderly q ≡ true) (next fits ps)
unfolding orderly next fine free_after free
orderly_next fits [] e = tt
orderly_next fits (one w ∷ ps) e = only_ok _ _ _ (λ t. and_right (fine w) (orderly ps) e)
orderly_next fits (opt w ∷ ps) e =
    let o = and_right (free_after w ps) (orderly ps) (and_right (fine w) _ e) in
    if_ok_lem (Ok _) _ _ _ (λ t. o) (λ f. orderly_next fits ps o)
orderly_next fits (any w ∷ ps) e =
    if_ok_lem (Ok _) _ _ _ (λ t. e) (λ f. orderly_next fits ps (and_right (free_after w ps) (orderly ps) (and_right (fine w) _ e)))
orderly_next fits (cases ∷ ps) e =
    if_ok_lem (Ok _) _ _ _ (λ t. rw (and_left (free (9 ∷ []) ps) (orderly ps) e) (and_right (free (9 ∷ []) ps) (orderly ps) e))
    (λ f. orderly_next fits ps (and_right (free (9 ∷ []) ps) (orderly ps) e))
orderly_next fits (variants ∷ ps) e =
    if_ok_lem (Ok _) _ _ _ (λ t. rw (and_left (free (9 ∷ []) ps) (orderly ps) e) (and_right (free (9 ∷ []) ps) (orderly ps) e))
    (λ f. if_ok_lem (Ok _) _ _ _ (λ t. e) (λ f'. orderly_next fits ps (and_right (free (9 ∷ []) ps) (orderly ps) e)))
orderly_next fits (typed s ∷ []) e =
    if_ok_lem (Ok _) _ _ _ (λ t. if_both (λ (x : Part). orderly (x ∷ []) ≡ true) _ _ _ (rw e) (rw e)) (λ f. only_ok _ _ _ (λ t. refl))
orderly_next fits (typed s ∷ q ∷ ps) e = false_not e

-- ---- nothing fits

abbrev pub Nowhere : (Want → Bool) → List Part → Type 0
Nowhere fits [] = Unit {0}
Nowhere fits (one w ∷ ps) = (fits w ≡ false) × Nowhere fits ps
Nowhere fits (opt w ∷ ps) = (fits w ≡ false) × Nowhere fits ps
Nowhere fits (any w ∷ ps) = (fits w ≡ false) × Nowhere fits ps
Nowhere fits (cases ∷ ps) = (fits cas ≡ false) × Nowhere fits ps
Nowhere fits (variants ∷ ps) = (fits cas ≡ false) × ((fits (p (9 ∷ [])) ≡ false) × Nowhere fits ps)
Nowhere fits (typed s ∷ ps) = (fits (p (9 ∷ [])) ≡ false) × (fits (r (s ∷ [])) ≡ false)

pub none_fits : (fits : Want → Bool) (ps : List Part) → Nowhere fits ps → next fits ps ≡ none
unfolding next only when◌then◌else◌
none_fits fits [] n = refl
none_fits fits (one w ∷ ps) n = rw n.0
none_fits fits (opt w ∷ ps) n = rw n.0 (none_fits fits ps n.1)
none_fits fits (any w ∷ ps) n = rw n.0 (none_fits fits ps n.1)
none_fits fits (cases ∷ ps) n = rw n.0 (none_fits fits ps n.1)
none_fits fits (variants ∷ ps) n = rw (n.0, n.1.0) (none_fits fits ps n.1.1)
none_fits fits (typed s ∷ ps) n = rw (n.0, n.1)

apart_in : (s : ℕ) (spaces others : List ℕ) → is_in s spaces ≡ true → apart spaces others ≡ true → is_in s others ≡ false
unfolding apart
apart_in s spaces [] i a = refl
apart_in s spaces (x ∷ xs) i a =
    go (eqb s x) refl (apart_in s spaces xs i (and_right (not (is_in x spaces)) (apart spaces xs) a)) (and_left (not (is_in x spaces)) (apart spaces xs) a)
  where
    go : (b : Bool) → eqb s x ≡ b → is_in s xs ≡ false → not (is_in x spaces) ≡ true → b || is_in s xs ≡ false
    go false e h n = h
    go true e h n = let here : is_in x spaces ≡ true = rw (sym (eqb-true s x e)) i in let no : not true ≡ true = rw here at n in false_not no

-- ---- what is wanted without PATHs covers what is wanted with them

-- the same; or nothing is wanted any more, and here nothing need come
pub data Covers : List Part → List Part → Type 0 where
  same : {q : List Part} → Covers q q
  ended : {q : List Part} → complete q ≡ true → Covers [] q

abbrev pub Covered : List Part → Option (List Part) → Type 0
Covered q o = (q' : List Part) × (o ≡ some q') × Covers q q'

pub covers_complete : {q q' : List Part} → Covers q q' → complete q ≡ true → complete q' ≡ true
covers_complete same e = e
covers_complete (ended c) e = c

module _ (space n : ℕ) where
  abbrev pub pathed : Want → Bool
  pathed w = fits_ref w space (suc n)

  abbrev bare : Want → Bool
  bare w = fits_ref w space 0

  no_paths : (a : Bool) → a && eqb (suc n) 0 ≡ false
  no_paths a = rw (eqb-false (suc n) 0 (omega arith)) (and-false a)

  not_bare : {X : Type 0} (a : Bool) → a && eqb (suc n) 0 ≡ true → X
  not_bare a e = false_not (sym (no_paths a) ∙ e)

  -- more PATHs than its space may have: it fits nowhere
  long_nowhere : (w : Want) → Shapes.paths_ok space (suc n) ≡ false → pathed w ≡ false
  unfolding fits_ref
  long_nowhere (r spaces) e = rw e (and-false (is_in space spaces))
  long_nowhere (p spaces) e = no_paths (is_in space spaces)
  long_nowhere (out s) e = refl
  long_nowhere cas e = refl

  pub long_blocks : (ps : List Part) → Shapes.paths_ok space (suc n) ≡ false → Nowhere pathed ps
  long_blocks [] e = tt
  long_blocks (one w ∷ ps) e = (long_nowhere w e, long_blocks ps e)
  long_blocks (opt w ∷ ps) e = (long_nowhere w e, long_blocks ps e)
  long_blocks (any w ∷ ps) e = (long_nowhere w e, long_blocks ps e)
  long_blocks (cases ∷ ps) e = (long_nowhere cas e, long_blocks ps e)
  long_blocks (variants ∷ ps) e = (long_nowhere cas e, (long_nowhere (p (9 ∷ [])) e, long_blocks ps e))
  long_blocks (typed s ∷ ps) e = (long_nowhere (p (9 ∷ [])) e, long_nowhere (r (s ∷ [])) e)

  free_nowhere : (spaces : List ℕ) (w : Want) → is_in space spaces ≡ true → free_of spaces w ≡ true → pathed w ≡ false
  unfolding fits_ref free_of
  free_nowhere spaces (r others) i f = rw (apart_in space spaces others i f)
  free_nowhere spaces (p others) i f = no_paths (is_in space others)
  free_nowhere spaces (out s) i f = refl
  free_nowhere spaces cas i f = refl

  free_blocks : (spaces : List ℕ) (ps : List Part) → is_in space spaces ≡ true → free spaces ps ≡ true → Nowhere pathed ps
  unfolding free fits_ref
  free_blocks spaces [] i f = tt
  free_blocks spaces (one w ∷ ps) i f = (free_nowhere spaces w i (and_left (free_of spaces w) (free spaces ps) f), free_blocks spaces ps i (and_right (free_of spaces w) (free spaces ps) f))
  free_blocks spaces (opt w ∷ ps) i f = (free_nowhere spaces w i (and_left (free_of spaces w) (free spaces ps) f), free_blocks spaces ps i (and_right (free_of spaces w) (free spaces ps) f))
  free_blocks spaces (any w ∷ ps) i f = (free_nowhere spaces w i (and_left (free_of spaces w) (free spaces ps) f), free_blocks spaces ps i (and_right (free_of spaces w) (free spaces ps) f))
  free_blocks spaces (cases ∷ ps) i f = (refl, free_blocks spaces ps i f)
  free_blocks spaces (variants ∷ ps) i f = (refl, (no_paths (is_in space (9 ∷ [])), free_blocks spaces ps i f))
  free_blocks spaces (typed s ∷ ps) i f =
      (no_paths (is_in space (9 ∷ [])), free_nowhere spaces (r (s ∷ [])) i (and_left (free_of spaces (r (s ∷ []))) (free spaces ps) f))

  -- where it fits with PATHs, it fits without
  fits_bare : (w : Want) → pathed w ≡ true → bare w ≡ true
  unfolding fits_ref Shapes.paths_ok
  fits_bare (r spaces) e = rw (and_left (is_in space spaces) _ e) (or-true (leb 7 space))
  fits_bare (p spaces) e = not_bare (is_in space spaces) e
  fits_bare (out s) e = e
  fits_bare cas e = e

  -- where it fits only without, nothing that comes later fits it with PATHs
  fits_only_bare : (w : Want) (ps : List Part) → free_after w ps ≡ true → pathed w ≡ false → bare w ≡ true → next pathed ps ≡ none
  unfolding fits_ref free_after
  fits_only_bare (r spaces) ps f e b =
      none_fits pathed ps (long_blocks ps (rw (and_left (is_in space spaces) _ b) at e))
  fits_only_bare (p spaces) ps f e b = none_fits pathed ps (free_blocks spaces ps (and_left (is_in space spaces) _ b) f)
  fits_only_bare (out s) ps f e b = false_not b
  fits_only_bare cas ps f e b = false_not b

  same_choice : (b b₀ : Bool) (x m m₀ : Option (List Part)) (q : List Part) → (b ≡ true → b₀ ≡ true) → (b ≡ false → b₀ ≡ true → m ≡ none) → (m ≡ some q → Covered q m₀)
      → (when b then x else m) ≡ some q → Covered q (when b₀ then x else m₀)
  unfolding when◌then◌else◌
  same_choice true true x m m₀ q f g h e = (q, e, same)
  same_choice true false x m m₀ q f g h e = false_not (f refl)
  same_choice false true x m m₀ q f g h e = no_option q (sym (g refl refl) ∙ e)
  same_choice false false x m m₀ q f g h e = h e

  only_same : (b b₀ : Bool) (x q : List Part) → (b ≡ true → b₀ ≡ true) → only b x ≡ some q → Covered q (only b₀ x)
  unfolding only
  only_same true true x q f e = (q, e, same)
  only_same true false x q f e = false_not (f refl)
  only_same false b₀ x q f e = no_option q e

  no_case : (x m m₀ : Option (List Part)) (q : List Part) → (m ≡ some q → Covered q m₀) → (when pathed cas then x else m) ≡ some q → Covered q (when bare cas then x else m₀)
  unfolding fits_ref when◌then◌else◌
  no_case x m m₀ q h a = h a

  -- an r s with PATHs stands alone; without, it may be a p 9 that another may follow
  typed_same : (s : ℕ) (q : List Part) (b b₀ c c₀ : Bool) → b ≡ false → (c ≡ true → c₀ ≡ true)
      → (when b then some ((when c then opt (r (s ∷ [])) else one (r (s ∷ []))) ∷ []) else only c []) ≡ some q
      → Covered q (when b₀ then some ((when c₀ then opt (r (s ∷ [])) else one (r (s ∷ []))) ∷ []) else only c₀ [])
  unfolding when◌then◌else◌ only complete
  typed_same s q true b₀ c c₀ e f a = false_not (sym e)
  typed_same s q false true true true e f a = (opt (r (s ∷ [])) ∷ [], refl, rw (sym (some_same [] q a)) (ended refl))
  typed_same s q false false true true e f a = (q, a, same)
  typed_same s q false b₀ true false e f a = false_not (f refl)
  typed_same s q false b₀ false c₀ e f a = no_option q a

  pub same_next : (ps q : List Part) → orderly ps ≡ true → next (λ w. fits_ref w space (suc n)) ps ≡ some q → Covered q (next (λ w. fits_ref w space 0) ps)
  unfolding orderly next
  same_next [] q o e = no_option q e
  same_next (one w ∷ ps) q o e = only_same (pathed w) (bare w) ps q (fits_bare w) e
  same_next (opt w ∷ ps) q o e =
      let f = and_right (fine w) _ o in
      same_choice (pathed w) (bare w) _ (next pathed ps) (next bare ps) q (fits_bare w) (fits_only_bare w ps (and_left (free_after w ps) (orderly ps) f))
      (same_next ps q (and_right (free_after w ps) (orderly ps) f)) e
  same_next (any w ∷ ps) q o e =
      let f = and_right (fine w) _ o in
      same_choice (pathed w) (bare w) _ (next pathed ps) (next bare ps) q (fits_bare w) (fits_only_bare w ps (and_left (free_after w ps) (orderly ps) f))
      (same_next ps q (and_right (free_after w ps) (orderly ps) f)) e
  same_next (cases ∷ ps) q o e = no_case _ (next pathed ps) (next bare ps) q (same_next ps q (and_right (free (9 ∷ []) ps) (orderly ps) o)) e
  same_next (variants ∷ ps) q o e = no_case _ _ _ q
      (same_choice (pathed (p (9 ∷ []))) (bare (p (9 ∷ []))) _ (next pathed ps) (next bare ps) q (fits_bare (p (9 ∷ [])))
      (fits_only_bare (p (9 ∷ [])) ps (unfold free_after in and_left (free (9 ∷ []) ps) (orderly ps) o)) (same_next ps q (and_right (free (9 ∷ []) ps) (orderly ps) o))) e
  same_next (typed s ∷ []) q o e =
      typed_same s q (pathed (p (9 ∷ []))) (bare (p (9 ∷ []))) (pathed (r (s ∷ []))) (bare (r (s ∷ []))) (unfold fits_ref in no_paths (is_in space (9 ∷ []))) (fits_bare (r (s ∷ []))) e
  same_next (typed s ∷ x ∷ ps) q o e = false_not o

  -- ---- it is to one of the thirteen spaces

  fits_low : (w : Want) → fine w ≡ true → pathed w ≡ true → leb space 12 ≡ true
  unfolding fine fits_ref
  fits_low (r spaces) f e = small_in space spaces f (and_left (is_in space spaces) _ e)
  fits_low (p spaces) f e = not_bare (is_in space spaces) e
  fits_low (out s) f e = false_not e
  fits_low cas f e = false_not e

  pub pathed_low : (ps : List Part) → orderly ps ≡ true → Ok (λ q. leb space 12 ≡ true) (next (λ w. fits_ref w space (suc n)) ps)
  unfolding orderly next fine
  pathed_low [] o = tt
  pathed_low (one w ∷ ps) o = only_ok _ _ _ (λ t. fits_low w (and_left (fine w) (orderly ps) o) t)
  pathed_low (opt w ∷ ps) o =
      if_ok_lem (Ok _) _ _ _ (λ t. fits_low w (and_left (fine w) _ o) t) (λ f. pathed_low ps (and_right (free_after w ps) (orderly ps) (and_right (fine w) _ o)))
  pathed_low (any w ∷ ps) o =
      if_ok_lem (Ok _) _ _ _ (λ t. fits_low w (and_left (fine w) _ o) t) (λ f. pathed_low ps (and_right (free_after w ps) (orderly ps) (and_right (fine w) _ o)))
  pathed_low (cases ∷ ps) o = if_ok_lem (Ok _) _ _ _ (λ t. fits_low cas refl t) (λ f. pathed_low ps (and_right (free (9 ∷ []) ps) (orderly ps) o))
  pathed_low (variants ∷ ps) o =
      if_ok_lem (Ok _) _ _ _ (λ t. fits_low cas refl t)
      (λ f. if_ok_lem (Ok _) _ _ _ (λ t. fits_low (p (9 ∷ [])) refl t) (λ f'. pathed_low ps (and_right (free (9 ∷ []) ps) (orderly ps) o)))
  pathed_low (typed s ∷ []) o =
      if_ok_lem (Ok _) _ _ _ (λ t. fits_low (p (9 ∷ [])) refl t) (λ f. only_ok _ _ _ (λ t. fits_low (r (s ∷ [])) o t))
  pathed_low (typed s ∷ x ∷ ps) o = false_not o
