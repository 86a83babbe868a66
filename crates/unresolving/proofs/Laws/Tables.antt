-- What the tables say of PATHs: in one field no space stands both where PATHs may be and where none may be. So a reference that is given
-- PATHs because another one of its field and space had them is where PATHs may be.
-- An export with an ascribed type is the exception: it has one reference, or two of which the first has no PATHs.
use Rattle.std.specs.Prelude.{◌≡◌, Bool, true, false, ◌&&◌, ◌||◌, not, ℕ, suc, eqb, leb, length}
use Rattle.std.proofs.Math.Path.{refl, ap}
use Rattle.std.proofs.Common.{sym, ◌∙◌, subst, arith}
use Rattle.std.proofs.Math.Option.{Option, none, some}
use mathlib.Core.List.{List, [], ◌∷◌}
use Rattle.rules.specs.Tools.{when◌then◌else◌, only, ◌then◌, is_in}
use Rattle.rules.specs.Versions.{RuleSet}
use Rattle.rules.specs.Rows.{Num, Id}
use Rattle.rules.specs.Tree.{Declaration, Operand, ref, outer, case, Head}
use Rattle.rules.specs.Shapes
use Rattle.rules.specs.Shapes.{Want, r, p, out, cas, Part, one, opt, any, cases, variants, typed, parts, fits_ref, fits_outer, is_case, next, complete}
use Rattle.rules.specs.Good.{after_operand, after_operands, GoodHead}
use Rattle.rules.specs.Laws.ToolLaws.{Ok, ok_at, only_ok, if_ok_lem, and_left, and_right, or_cases, or-true, not-true, false_not, eqb-true, then_some, leb_le, leb-false, done, ◌&◌, get_d_all}
use Rattle.rules.specs.Laws.Results.{if_both, no_option, some_same}
use Rattle.rules.proofs.Laws.Output.Orderly.{none_fits, long_blocks}
use Rattle.rules.specs.Laws.Meaning.Names.{LowOperands, LowHead}
use Rattle.unresolving.proofs.Laws.Shaped.{PathMay, May, AllMay}

-- ---- the test

-- a reference to this space without PATHs alone is not wanted
pathable_want : ℕ → Want → Bool
pathable_want s (r spaces) = true
pathable_want s (p spaces) = not (is_in s spaces)
pathable_want s (out x) = true
pathable_want s cas = true

pub pathable : ℕ → List Part → Bool
pathable s [] = true
pathable s (one w ∷ ps) = pathable_want s w && pathable s ps
pathable s (opt w ∷ ps) = pathable_want s w && pathable s ps
pathable s (any w ∷ ps) = pathable_want s w && pathable s ps
pathable s (cases ∷ ps) = pathable_want s (p (9 ∷ [])) && pathable s ps
pathable s (variants ∷ ps) = pathable_want s (p (9 ∷ [])) && pathable s ps
pathable s (typed t ∷ ps) = pathable s ps

-- each of these spaces is pathable in `all`, and so is 10 if a path of more than one may end in it
spaces_ok : (all : List Part) → List ℕ → Bool
spaces_ok all [] = true
spaces_ok all (s ∷ ss) = (pathable s all && (leb s 6 || pathable 10 all)) && spaces_ok all ss

want_ok : (all : List Part) → Want → Bool
want_ok all (r spaces) = spaces_ok all spaces
want_ok all (p spaces) = true
want_ok all (out x) = true
want_ok all cas = true

unmixed : (all : List Part) → List Part → Bool
unmixed all [] = true
unmixed all (one w ∷ ps) = want_ok all w && unmixed all ps
unmixed all (opt w ∷ ps) = want_ok all w && unmixed all ps
unmixed all (any w ∷ ps) = want_ok all w && unmixed all ps
unmixed all (cases ∷ ps) = unmixed all ps
unmixed all (variants ∷ ps) = unmixed all ps
unmixed all (typed t ∷ ps) = want_ok all (r (t ∷ [])) && unmixed all ps

-- ---- the tables pass it

abbrev Unmixed : List Part → Type 0
Unmixed ps = unmixed ps ps ≡ true

signature_unmixed : (space : ℕ) → Unmixed (Shapes.signature space)
unfolding Shapes.signature unmixed want_ok spaces_ok pathable pathable_want
signature_unmixed space = if_ok_lem Unmixed _ _ _ (λ t. refl) (λ f. if_ok_lem Unmixed _ _ _ (λ t. refl) (λ f'. refl))

own_unmixed : (s : ℕ) → Unmixed (one (r (s ∷ [])) ∷ [])
unfolding unmixed want_ok spaces_ok pathable pathable_want
own_unmixed s = rw (or-true (leb s 6))

ascribed_unmixed : (s : ℕ) → Unmixed (Shapes.ascribed s)
unfolding Shapes.ascribed unmixed want_ok spaces_ok pathable pathable_want
ascribed_unmixed s =
    if_ok_lem Unmixed _ _ _ (λ t. rw (or-true (leb s 6))) λ f₁.
    if_ok_lem Unmixed _ _ _ (λ t. rw (or-true (leb s 6))) λ f₂. rw (or-true (leb s 6))

module _ (rules : RuleSet) (heap : eqb 0 rules.heap ≡ false) where
  builtin_unmixed : (e : ℕ) → Unmixed (Shapes.builtin_parts rules e)
  unfolding Shapes.builtin_parts unmixed want_ok spaces_ok pathable pathable_want
  builtin_unmixed e =
      if_ok_lem Unmixed _ _ _ (λ t. refl) λ f₁.
      if_ok_lem Unmixed _ _ _ (λ t. refl) λ f₂.
      if_ok_lem Unmixed _ _ _ (λ t. refl) λ f₃.
      if_ok_lem Unmixed _ _ _ (λ t. refl) λ f₄.
      if_ok_lem Unmixed _ _ _ (λ t. refl) λ f₅.
      if_ok_lem Unmixed _ _ _ (λ t. refl) λ f₆.
      if_ok_lem Unmixed _ _ _ (λ t. refl) λ f₇.
      if_ok_lem Unmixed _ _ _ (λ t. refl) λ f₈.
      if_ok_lem Unmixed _ _ _ (λ t. refl) λ f₉. refl

  parts_unmixed : (code builtin : ℕ) (ds : List Declaration) → unmixed (parts rules code builtin ds) (parts rules code builtin ds) ≡ true
  unfolding parts unmixed want_ok spaces_ok pathable pathable_want
  parts_unmixed code builtin ds =
      get_d_all Unmixed _ code []
      (refl & refl & refl & refl & refl & if_ok_lem Unmixed _ _ _ (λ t. refl) (λ f. refl) & refl & refl & refl & refl & refl & refl & refl & refl & refl
      & refl & (rw heap) & refl & refl & builtin_unmixed builtin & refl & signature_unmixed (Shapes.declared ds) & if_ok_lem Unmixed _ _ _ (λ t. own_unmixed (Shapes.declared ds)) (λ f. ascribed_unmixed (Shapes.declared ds))
      & signature_unmixed (Shapes.declared ds) & refl & refl & done)
      refl

-- ---- and so does what is left of them

unmixed_next : (all : List Part) (fits : Want → Bool) (ps : List Part) → unmixed all ps ≡ true → Ok (λ q. unmixed all q ≡ true) (next fits ps)
unfolding unmixed want_ok next
unmixed_next all fits [] e = tt
unmixed_next all fits (one w ∷ ps) e = only_ok _ _ _ (λ t. and_right (want_ok all w) (unmixed all ps) e)
unmixed_next all fits (opt w ∷ ps) e =
    let o = and_right (want_ok all w) (unmixed all ps) e in if_both (Ok (λ q. unmixed all q ≡ true)) _ _ _ o (unmixed_next all fits ps o)
unmixed_next all fits (any w ∷ ps) e =
    if_both (Ok (λ q. unmixed all q ≡ true)) _ _ _ e (unmixed_next all fits ps (and_right (want_ok all w) (unmixed all ps) e))
unmixed_next all fits (cases ∷ ps) e = if_both (Ok (λ q. unmixed all q ≡ true)) _ _ _ e (unmixed_next all fits ps e)
unmixed_next all fits (variants ∷ ps) e =
    if_both (Ok (λ q. unmixed all q ≡ true)) _ _ _ e (if_both (Ok (λ q. unmixed all q ≡ true)) _ _ _ e (unmixed_next all fits ps e))
unmixed_next all fits (typed t ∷ ps) e =
    if_both (Ok (λ q. unmixed all q ≡ true)) _ _ _ (if_both (λ (x : Part). unmixed all (x ∷ ps) ≡ true) _ _ _ e e) (only_ok _ _ _ (λ _. and_right (want_ok all (r (t ∷ []))) (unmixed all ps) e))

pub pathable_next : (s : ℕ) (fits : Want → Bool) (ps : List Part) → pathable s ps ≡ true → Ok (λ q. pathable s q ≡ true) (next fits ps)
unfolding pathable pathable_want next
pathable_next s fits [] e = tt
pathable_next s fits (one w ∷ ps) e = only_ok _ _ _ (λ t. and_right (pathable_want s w) (pathable s ps) e)
pathable_next s fits (opt w ∷ ps) e =
    let o = and_right (pathable_want s w) (pathable s ps) e in if_both (Ok (λ q. pathable s q ≡ true)) _ _ _ o (pathable_next s fits ps o)
pathable_next s fits (any w ∷ ps) e =
    if_both (Ok (λ q. pathable s q ≡ true)) _ _ _ e (pathable_next s fits ps (and_right (pathable_want s w) (pathable s ps) e))
pathable_next s fits (cases ∷ ps) e =
    let w = and_left (pathable_want s (p (9 ∷ []))) (pathable s ps) e in
    let o = and_right (pathable_want s (p (9 ∷ []))) (pathable s ps) e in
    if_both (Ok (λ q. pathable s q ≡ true)) _ _ _ (rw (w, o)) (pathable_next s fits ps o)
pathable_next s fits (variants ∷ ps) e =
    let w = and_left (pathable_want s (p (9 ∷ []))) (pathable s ps) e in
    let o = and_right (pathable_want s (p (9 ∷ []))) (pathable s ps) e in
    if_both (Ok (λ q. pathable s q ≡ true)) _ _ _ (rw (w, o)) (if_both (Ok (λ q. pathable s q ≡ true)) _ _ _ (rw (w, o)) (pathable_next s fits ps o))
pathable_next s fits (typed t ∷ ps) e =
    if_both (Ok (λ q. pathable s q ≡ true)) _ _ _ (if_both (λ (x : Part). pathable s (x ∷ ps) ≡ true) _ _ _ e e) (only_ok _ _ _ (λ _. e))

-- ---- a reference with PATHs

module _ (all : List Part) (space n : ℕ) where
  -- what the test says of its space
  record Allowed : Type 0 where
    may : pathable space all ≡ true
    ten : leb space 6 || pathable 10 all ≡ true

  in_ok : (spaces : List ℕ) → spaces_ok all spaces ≡ true → is_in space spaces ≡ true → Allowed
  unfolding spaces_ok
  in_ok [] e i = false_not i
  in_ok (s ∷ ss) e i =
      or_cases (eqb space s) (is_in space ss) i
      (λ t.
      let here = and_left (pathable s all && (leb s 6 || pathable 10 all)) (spaces_ok all ss) e in
      rw (eqb-true space s t) (record { may = and_left (pathable s all) (leb s 6 || pathable 10 all) here; ten = and_right (pathable s all) (leb s 6 || pathable 10 all) here }))
      (λ t. in_ok ss (and_right (pathable s all && (leb s 6 || pathable 10 all)) (spaces_ok all ss) e) t)

  fits_ok : (w : Want) → want_ok all w ≡ true → fits_ref w space (suc n) ≡ true → Allowed
  unfolding want_ok fits_ref
  fits_ok (r spaces) e t = in_ok spaces e (and_left (is_in space spaces) _ t)
  fits_ok (p spaces) e t =
      let z = eqb-true (suc n) 0 (and_right (is_in space spaces) _ t) in absurd (omega arith)
  fits_ok (out x) e t = false_not t
  fits_ok cas e t = false_not t

  next_ok : (ps : List Part) → unmixed all ps ≡ true → Ok (λ q. Allowed) (next (λ w. fits_ref w space (suc n)) ps)
  unfolding unmixed next
  next_ok [] e = tt
  next_ok (one w ∷ ps) e = only_ok _ _ _ (λ t. fits_ok w (and_left (want_ok all w) (unmixed all ps) e) t)
  next_ok (opt w ∷ ps) e = if_ok_lem (Ok (λ q. Allowed)) _ _ _ (λ t. fits_ok w (and_left (want_ok all w) (unmixed all ps) e) t) (λ f. next_ok ps (and_right (want_ok all w) (unmixed all ps) e))
  next_ok (any w ∷ ps) e = if_ok_lem (Ok (λ q. Allowed)) _ _ _ (λ t. fits_ok w (and_left (want_ok all w) (unmixed all ps) e) t) (λ f. next_ok ps (and_right (want_ok all w) (unmixed all ps) e))
  next_ok (cases ∷ ps) e = if_ok_lem (Ok (λ q. Allowed)) _ _ _ (λ t. fits_ok cas (unfold want_ok in refl) t) (λ f. next_ok ps e)
  next_ok (variants ∷ ps) e =
      if_ok_lem (Ok (λ q. Allowed)) _ _ _ (λ t. fits_ok cas (unfold want_ok in refl) t)
      (λ f. if_ok_lem (Ok (λ q. Allowed)) _ _ _ (λ t. fits_ok (p (9 ∷ [])) (unfold want_ok in refl) t) (λ f'. next_ok ps e))
  next_ok (typed x ∷ ps) e =
      if_ok_lem (Ok (λ q. Allowed)) _ _ _ (λ t. fits_ok (p (9 ∷ [])) (unfold want_ok in refl) t)
      (λ f. only_ok _ _ _ (λ t. fits_ok (r (x ∷ [])) (and_left (want_ok all (r (x ∷ []))) (unmixed all ps) e) t))

paths_ok_lem : (space n : ℕ) (ps q : List Part) → next (λ w. fits_ref w space (suc n)) ps ≡ some q → Shapes.paths_ok space (suc n) ≡ true
paths_ok_lem space n ps q e = go (Shapes.paths_ok space (suc n)) refl
  where
    go : (b : Bool) → Shapes.paths_ok space (suc n) ≡ b → Shapes.paths_ok space (suc n) ≡ true
    go true t = t
    go false t = no_option q (sym (none_fits _ ps (long_blocks space n ps t)) ∙ e)

two_high : (space n : ℕ) → Shapes.paths_ok space (suc (suc n)) ≡ true → leb space 6 ≡ false
unfolding Shapes.paths_ok
two_high space n e =
    or_cases (leb 7 space) (leb (suc (suc n)) 1) e (λ t. let l = leb_le 7 space t in leb-false space 6 (omega arith))
    (λ t. let l = leb_le (suc (suc n)) 1 t in absurd (omega arith))

path_may : (all : List Part) (space : ℕ) (ps : List ℕ) → Allowed all space (length ps) → Shapes.paths_ok space (suc (length ps)) ≡ true → PathMay (λ s. pathable s all ≡ true) space ps
path_may all space [] a e = record { short = tt; may = a.may; ten = tt }
path_may all space (q ∷ ps) a e =
    let high = two_high space (length ps) e in
    record { short = high; may = a.may; ten = rw high at a.ten }

operand_may : (all : List Part) (o : Operand) (ps q : List Part) → unmixed all ps ≡ true → LowOperands (o ∷ []) → after_operand ps o ≡ some q → May (λ s. pathable s all ≡ true) o
unfolding after_operand
operand_may all (ref space (Num n) [] z) ps q u l e = tt
operand_may all (ref space (Id name) [] z) ps q u l e = l.0
operand_may all (ref space (Num n) (x ∷ xs) z) ps q u l e = path_may all space xs (ok_at _ _ q (next_ok all space (length xs) ps u) e) (paths_ok_lem space (length xs) ps q e)
operand_may all (ref space (Id name) (x ∷ xs) z) ps q u l e = path_may all space xs (ok_at _ _ q (next_ok all space (length xs) ps u) e) (paths_ok_lem space (length xs) ps q e)
operand_may all (outer space up at z) ps q u l e = tt
operand_may all (case name z) ps q u l e = tt

after_unmixed : (all ps : List Part) (o : Operand) (q : List Part) → unmixed all ps ≡ true → after_operand ps o ≡ some q → unmixed all q ≡ true
unfolding after_operand
after_unmixed all ps (ref space at paths z) q u e = ok_at _ _ q (unmixed_next all _ ps u) e
after_unmixed all ps (outer space up at z) q u e = ok_at _ _ q (unmixed_next all _ ps u) e
after_unmixed all ps (case name z) q u e = ok_at _ _ q (unmixed_next all _ ps u) e

operands_may : (all : List Part) (os : List Operand) (ps left : List Part) → unmixed all ps ≡ true → LowOperands os → after_operands ps os ≡ some left → AllMay (λ s. pathable s all ≡ true) os
unfolding after_operands
operands_may all [] ps left u l e = tt
operands_may all (o ∷ os) ps left u l e =
    let T = then_some (after_operand ps o) (λ q. after_operands q os) left e in
    (operand_may all o ps T.0 u (l.0, tt) T.1, operands_may all os T.0 left (after_unmixed all ps o T.0 u T.1) l.1 T.2)

-- the spaces of paths in a field
abbrev pub MayPath : RuleSet → Head → ℕ → Type 0
MayPath rules h s = pathable s (parts rules h.code h.builtin h.decls) ≡ true

pub head_may : (rules : RuleSet) → eqb 0 rules.heap ≡ false → (kind : ℕ) (h : Head) → GoodHead rules kind h → LowHead h → AllMay (MayPath rules h) h.operands
head_may rules heap kind h g low =
    operands_may _ h.operands _ g.left (parts_unmixed rules heap h.code h.builtin h.decls) low.operands g.uses

-- ---- all fields but exports with an ascribed type

pub untyped : List Part → Bool
untyped [] = true
untyped (one w ∷ ps) = untyped ps
untyped (opt w ∷ ps) = untyped ps
untyped (any w ∷ ps) = untyped ps
untyped (cases ∷ ps) = untyped ps
untyped (variants ∷ ps) = untyped ps
untyped (typed t ∷ ps) = false

pub untyped_next : (fits : Want → Bool) (ps : List Part) → untyped ps ≡ true → Ok (λ q. untyped q ≡ true) (next fits ps)
unfolding untyped next
untyped_next fits [] e = tt
untyped_next fits (one w ∷ ps) e = only_ok _ _ _ (λ t. e)
untyped_next fits (opt w ∷ ps) e = if_both (Ok (λ q. untyped q ≡ true)) _ _ _ e (untyped_next fits ps e)
untyped_next fits (any w ∷ ps) e = if_both (Ok (λ q. untyped q ≡ true)) _ _ _ e (untyped_next fits ps e)
untyped_next fits (cases ∷ ps) e = if_both (Ok (λ q. untyped q ≡ true)) _ _ _ e (untyped_next fits ps e)
untyped_next fits (variants ∷ ps) e = if_both (Ok (λ q. untyped q ≡ true)) _ _ _ e (if_both (Ok (λ q. untyped q ≡ true)) _ _ _ e (untyped_next fits ps e))
untyped_next fits (typed t ∷ ps) e = false_not e

pub data Kind (ps : List Part) : Type 0 where
  usual : untyped ps ≡ true → Kind ps
  ascribes : (s : ℕ) → ps ≡ typed s ∷ [] → Kind ps

signature_kind : (s : ℕ) → Kind (Shapes.signature s)
unfolding Shapes.signature untyped
signature_kind s = if_ok_lem Kind _ _ _ (λ t. usual refl) (λ f. if_ok_lem Kind _ _ _ (λ t. usual refl) (λ f'. usual refl))

ascribed_kind : (s : ℕ) → Kind (Shapes.ascribed s)
unfolding Shapes.ascribed untyped
ascribed_kind s = if_ok_lem Kind _ _ _ (λ t. usual refl) (λ f. if_ok_lem Kind _ _ _ (λ t. usual refl) (λ f'. ascribes s refl))

builtin_kind : (rules : RuleSet) (e : ℕ) → Kind (Shapes.builtin_parts rules e)
unfolding Shapes.builtin_parts untyped
builtin_kind rules e =
    if_ok_lem Kind _ _ _ (λ t. usual refl) λ f₁.
    if_ok_lem Kind _ _ _ (λ t. usual refl) λ f₂.
    if_ok_lem Kind _ _ _ (λ t. usual refl) λ f₃.
    if_ok_lem Kind _ _ _ (λ t. usual refl) λ f₄.
    if_ok_lem Kind _ _ _ (λ t. usual refl) λ f₅.
    if_ok_lem Kind _ _ _ (λ t. usual refl) λ f₆.
    if_ok_lem Kind _ _ _ (λ t. usual refl) λ f₇.
    if_ok_lem Kind _ _ _ (λ t. usual refl) λ f₈.
    if_ok_lem Kind _ _ _ (λ t. usual refl) λ f₉. usual refl

pub parts_kind : (rules : RuleSet) (code builtin : ℕ) (ds : List Declaration) → Kind (parts rules code builtin ds)
unfolding parts untyped
parts_kind rules code builtin ds =
    let s = Shapes.declared ds in
    get_d_all Kind _ code []
    (usual refl & usual refl & usual refl & usual refl & usual refl & if_ok_lem Kind _ _ _ (λ t. usual refl) (λ f. usual refl) & usual refl & usual refl & usual refl & usual refl & usual refl
    & usual refl & usual refl & usual refl & usual refl & usual refl & usual refl & usual refl & usual refl & builtin_kind rules builtin & usual refl & signature_kind s
    & if_ok_lem Kind _ _ _ (λ t. usual refl) (λ f. ascribed_kind s) & signature_kind s & usual refl & usual refl & done)
    (usual refl)

-- ---- where a reference fits without PATHs, it fits with them

module _ (space n : ℕ) (paths : Shapes.paths_ok space (suc n) ≡ true) where
  want_same : (w : Want) → pathable_want space w ≡ true → fits_ref w space (suc n) ≡ fits_ref w space 0
  unfolding pathable_want fits_ref Shapes.paths_ok
  want_same (r spaces) e = rw (paths, or-true (leb 7 space))
  want_same (p spaces) e = rw (not-true (is_in space spaces) e)
  want_same (out x) e = refl
  want_same cas e = refl

  pub next_same : (ps : List Part) → untyped ps ≡ true → pathable space ps ≡ true → next (λ w. fits_ref w space (suc n)) ps ≡ next (λ w. fits_ref w space 0) ps
  unfolding pathable untyped next fits_ref
  next_same [] u e = refl
  next_same (one w ∷ ps) u e = ap (λ (b : Bool). only b ps) (want_same w (and_left (pathable_want space w) (pathable space ps) e))
  next_same (opt w ∷ ps) u e =
      rw (want_same w (and_left (pathable_want space w) (pathable space ps) e), next_same ps u (and_right (pathable_want space w) (pathable space ps) e))
  next_same (any w ∷ ps) u e =
      rw (want_same w (and_left (pathable_want space w) (pathable space ps) e), next_same ps u (and_right (pathable_want space w) (pathable space ps) e))
  next_same (cases ∷ ps) u e = rw (next_same ps u (and_right (pathable_want space (p (9 ∷ []))) (pathable space ps) e))
  next_same (variants ∷ ps) u e =
      rw (want_same (p (9 ∷ [])) (and_left (pathable_want space (p (9 ∷ []))) (pathable space ps) e), next_same ps u (and_right (pathable_want space (p (9 ∷ []))) (pathable space ps) e))
  next_same (typed t ∷ ps) u e = false_not u

-- ---- an export with an ascribed type

-- does the operand fit?
unfoldable pub fits_in : Operand → Want → Bool
fits_in (ref space at paths z) w = fits_ref w space (length paths)
fits_in (outer space up at z) w = fits_outer w space
fits_in (case name z) w = is_case w

after_is : (ps : List Part) (o : Operand) → after_operand ps o ≡ next (fits_in o) ps
unfolding after_operand fits_in
after_is ps (ref space at paths z) = refl
after_is ps (outer space up at z) = refl
after_is ps (case name z) = refl

-- its own reference, alone or behind its signature
pub data Ascribed (s : ℕ) : List Operand → Type 0 where
  own : {o : Operand} → fits_in o (r (s ∷ [])) ≡ true → Ascribed s (o ∷ [])
  pair : {o o' : Operand} → fits_in o (p (9 ∷ [])) ≡ true → fits_in o' (r (s ∷ [])) ≡ true → Ascribed s (o ∷ (o' ∷ []))

none_left : {X : Type 0} (os : List Operand) (left : List Part) (o : Operand) → after_operands [] (o ∷ os) ≡ some left → X
unfolding after_operands next
none_left os left o e =
    let T = then_some (after_operand [] o) (λ q. after_operands q os) left e in
    no_option T.0 (sym (after_is [] o) ∙ T.1)

own_inv : (s : ℕ) (b c : Bool) (left : List Part) → (when b then some ((when c then opt (r (s ∷ [])) else one (r (s ∷ []))) ∷ []) else only c []) ≡ some left → complete left ≡ true → c ≡ true
unfolding when◌then◌else◌ only complete
own_inv s true true left e f = refl
own_inv s true false left e f = false_not (rw (← some_same _ left e) at f)
own_inv s false true left e f = refl
own_inv s false false left e f = no_option left e

record Two (s : ℕ) (b : Bool) (o' : Operand) (os : List Operand) : Type 0 where
  first : b ≡ true
  second : fits_in o' (r (s ∷ [])) ≡ true
  alone : os ≡ []

last_inv : (s : ℕ) (o' : Operand) (os : List Operand) (left q : List Part) → only (fits_in o' (r (s ∷ []))) [] ≡ some q → after_operands q os ≡ some left → Two s true o' os
unfolding only
last_inv s o' os left q e f = go (fits_in o' (r (s ∷ []))) refl os e f
  where
    go : (d : Bool) → fits_in o' (r (s ∷ [])) ≡ d → (os : List Operand) → only d [] ≡ some q → after_operands q os ≡ some left → Two s true o' os
    go true t [] e f = record { first = refl; second = t; alone = refl }
    go true t (x ∷ os) e f = none_left os left x (rw (← some_same [] q e) at f)
    go false t os e f = no_option q e

either_last : (s : ℕ) (c : Bool) (o' : Operand) → next (fits_in o') ((when c then opt (r (s ∷ [])) else one (r (s ∷ []))) ∷ []) ≡ only (fits_in o' (r (s ∷ []))) []
unfolding next when◌then◌else◌ only
either_last s true o' = go (fits_in o' (r (s ∷ [])))
  where
    go : (d : Bool) → ◌≡◌ {A = Option (List Part)} (when d then some [] else none) (only d [])
    go true = refl
    go false = refl
either_last s false o' = refl

two_inv : (s : ℕ) (b c : Bool) (o' : Operand) (os : List Operand) (left q : List Part)
    → (when b then some ((when c then opt (r (s ∷ [])) else one (r (s ∷ []))) ∷ []) else only c []) ≡ some q → after_operands q (o' ∷ os) ≡ some left → Two s b o' os
unfolding when◌then◌else◌ after_operands only
two_inv s true c o' os left q e f =
    let T = then_some (after_operand q o') (λ x. after_operands x os) left f in
    last_inv s o' os left T.0 (sym (either_last s c o') ∙ (ap (next (fits_in o')) (some_same _ q e) ∙ (sym (after_is q o') ∙ T.1))) T.2
two_inv s false true o' os left q e f = none_left os left o' (rw (← some_same [] q e) at f)
two_inv s false false o' os left q e f = no_option q e

pub ascribed_inv : (s : ℕ) (os : List Operand) (left : List Part) → after_operands (typed s ∷ []) os ≡ some left → complete left ≡ true → Ascribed s os
unfolding after_operands next
ascribed_inv s [] left e f = false_not (unfold complete in (rw (← some_same _ left e) at f))
ascribed_inv s (o ∷ []) left e f =
    let T = then_some (after_operand (typed s ∷ []) o) (λ x. after_operands x []) left e in
    own (own_inv s (fits_in o (p (9 ∷ []))) (fits_in o (r (s ∷ []))) left (sym (after_is (typed s ∷ []) o) ∙ (T.1 ∙ T.2)) f)
ascribed_inv s (o ∷ (o' ∷ os)) left e f =
    let T = then_some (after_operand (typed s ∷ []) o) (λ x. after_operands x (o' ∷ os)) left e in
    let W = two_inv s (fits_in o (p (9 ∷ []))) (fits_in o (r (s ∷ []))) o' os left T.0 (sym (after_is (typed s ∷ []) o) ∙ T.1) T.2 in
    subst (λ (x : List Operand). Ascribed s (o ∷ (o' ∷ x))) (sym W.alone) (pair W.first W.second)

-- what is left of the tables by such operands
pub ascribed_fits : (s : ℕ) (os : List Operand) → Ascribed s os → (left : List Part) × (after_operands (typed s ∷ []) os ≡ some left) × (complete left ≡ true)
unfolding after_operands next ◌then◌ when◌then◌else◌ only complete
ascribed_fits s (o ∷ []) (own f) = rw (after_is (typed s ∷ []) o, f) (go (fits_in o (p (9 ∷ []))))
  where
    go : (b : Bool) → (left : List Part) × (((when b then some (opt (r (s ∷ [])) ∷ []) else some []) then λ q. some q) ≡ some left) × (complete left ≡ true)
    go true = (_, refl, refl)
    go false = (_, refl, refl)
ascribed_fits s (o ∷ (o' ∷ [])) (pair f g) = rw (after_is (typed s ∷ []) o, f) (go (fits_in o (r (s ∷ []))))
  where
    go : (c : Bool) → (left : List Part) × ((after_operand ((when c then opt (r (s ∷ [])) else one (r (s ∷ []))) ∷ []) o' then λ q. some q) ≡ some left) × (complete left ≡ true)
    go c = rw (after_is ((when c then opt (r (s ∷ [])) else one (r (s ∷ []))) ∷ []) o', either_last s c o', g) ([], refl, refl)
ascribed_fits s [] x' = elim x' [ ]
ascribed_fits s (o ∷ (o' ∷ (_ ∷ _))) x8 = elim x8 [ ]
