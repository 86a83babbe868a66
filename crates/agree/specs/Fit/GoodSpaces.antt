-- In a form all spaces are those that there are: the tables of the shapes name no others.
use Rattle.std.specs.Prelude.{◌≡◌, Bool, ◌&&◌, ℕ, suc, ◌<◌, eqb, ltb, length}
use Rattle.std.proofs.Math.Path.{refl}
use Rattle.std.proofs.Math.Bool.{true}
use Rattle.std.proofs.Math.Option.{some}
use mathlib.Core.List.{List, [], ◌∷◌}
use Rattle.std.proofs.Common.{arith, lt-ltb, ltb-true}
use Rattle.rules.specs.Tools.{when◌then◌else◌, ◌then◌, is_in}
use Rattle.rules.specs.Versions.{RuleSet}
use Rattle.rules.specs.Tree.{Declaration, Operand, ref, outer, case, Head, Fields, end, ◌▸◌, Item, plain, holds, head_of}
use Rattle.rules.specs.Shapes.{Want, r, p, out, cas, Part, one, opt, any, cases, variants, typed, Declares, nothing, single, several, declares, signature, ascribed, builtin_parts, declared, is_empty, parts, paths_ok, fits_ref, fits_outer, is_case, next, may_declare}
use Rattle.rules.specs.Good.{MayDeclare, after_operand, after_operands, GoodHead, GoodFields}
use Rattle.rules.specs.Laws.ToolLaws.{false_not, and_left, and_right, or_cases, eqb-true, Ok, ok_at, only_ok, if_ok_lem, then_some, done, ◌&◌, get_d_all}
use Rattle.rules.specs.Laws.Results.{if_both}
use Rattle.agree.specs.Fit.Spaces.{SpacesDecls, SpaceOperand, SpacesOperands, SpacesHead, Spaces}

-- are all these spaces below 13?
abbrev lows : List ℕ → Bool
lows [] = true
lows (s ∷ ss) = ltb s 13 && lows ss

-- then one of them is
in_low : (s : ℕ) (ss : List ℕ) → is_in s ss ≡ true → lows ss ≡ true → s < 13
in_low s [] i l = false_not i
in_low s (t ∷ ss) i l =
    or_cases (eqb s t) (is_in s ss) i
    (λ e. let q = eqb-true s t e in let h = ltb-true t 13 (and_left (ltb t 13) (lows ss) l) in omega arith)
    (λ e. in_low s ss e (and_right (ltb t 13) (lows ss) l))

-- ---- DECLs

-- the spaces that a field may declare
abbrev low_declares : Declares → Bool
low_declares nothing = true
low_declares (single spaces) = lows spaces
low_declares (several spaces) = lows spaces

-- no field declares another space
declares_low : (code : ℕ) → low_declares (declares code) ≡ true
unfolding declares
declares_low code =
    get_d_all (λ (d : Declares). low_declares d ≡ true) _ code nothing
    (refl & refl & refl & refl & refl & refl & refl & refl & refl & refl & refl & refl & refl & refl & refl & refl & refl & refl & refl & refl & refl & refl & refl & refl & refl & refl & done) refl

-- a DECL that may stand there has such a space
may_low : (D : Declares) (n space : ℕ) → low_declares D ≡ true → may_declare D n space ≡ true → space < 13
unfolding may_declare
may_low nothing n space l m = false_not m
may_low (single spaces) n space l m = in_low space spaces (and_right (eqb n 0) (is_in space spaces) m) l
may_low (several spaces) n space l m = in_low space spaces m l

-- and so have all DECLs of a field
decls_low : (D : Declares) (n : ℕ) (ds : List Declaration) → low_declares D ≡ true → MayDeclare D n ds → SpacesDecls ds
decls_low D n [] l m = tt
decls_low D n (d ∷ ds) l m = (may_low D n d.space l m.0, decls_low D (suc n) ds l m.1)

-- and the first, if there is one
declared_low : (ds : List Declaration) → SpacesDecls ds → declared ds < 13
unfolding declared
declared_low [] s = omega arith
declared_low (d ∷ ds) s = s.0

-- ---- operands

-- the spaces that are wanted
abbrev low_want : Want → Bool
low_want (r spaces) = lows spaces
low_want (p spaces) = lows spaces
low_want (out s) = true
low_want cas = true

-- the same of a part of a shape
abbrev low_part : Part → Bool
low_part (one w) = low_want w
low_part (opt w) = low_want w
low_part (any w) = low_want w
low_part cases = true
low_part variants = true
low_part (typed s) = ltb s 13

-- and of a whole shape
abbrev low_parts : List Part → Bool
low_parts [] = true
low_parts (x ∷ xs) = low_part x && low_parts xs

-- a shape that wants no other space
abbrev LowParts : List Part → Type 0
LowParts ps = low_parts ps ≡ true

-- signatures want no other space
signature_low : (space : ℕ) → LowParts (signature space)
unfolding signature
signature_low space = if_both LowParts _ _ _ refl (if_both LowParts _ _ _ refl refl)

-- nor do ascribed types
ascribed_low : (space : ℕ) → space < 13 → LowParts (ascribed space)
unfolding ascribed
ascribed_low space h =
    let t = lt-ltb space 13 h in
    if_both LowParts _ _ _ (rw t refl) (if_both LowParts _ _ _ (rw t refl) (rw t refl))

-- nor do the builtins
builtin_low : (rules : RuleSet) (e : ℕ) → rules.heap < 13 → LowParts (builtin_parts rules e)
unfolding builtin_parts
builtin_low rules e h =
    let heap : LowParts (opt (p (rules.heap ∷ [])) ∷ []) = rw (lt-ltb rules.heap 13 h) refl in
    if_both LowParts _ _ _ refl
    (if_both LowParts _ _ _ refl
    (if_both LowParts _ _ _ refl
    (if_both LowParts _ _ _ refl
    (if_both LowParts _ _ _ refl
    (if_both LowParts _ _ _ heap (if_both LowParts _ _ _ refl (if_both LowParts _ _ _ refl (if_both LowParts _ _ _ refl refl))))))))

-- nor does any field
parts_low : (rules : RuleSet) (code builtin : ℕ) (ds : List Declaration) → rules.heap < 13 → declared ds < 13 → LowParts (parts rules code builtin ds)
unfolding parts
parts_low rules code builtin ds heap h =
    let g = signature_low (declared ds) in
    let m : LowParts (when is_empty ds then [] else any (p (4 ∷ [])) ∷ []) = if_both LowParts (is_empty ds) [] (any (p (4 ∷ [])) ∷ []) refl refl in
    let o : LowParts (one (r (declared ds ∷ [])) ∷ []) = rw (lt-ltb (declared ds) 13 h) refl in
    let w : LowParts (when eqb builtin 0 then one (r (declared ds ∷ [])) ∷ [] else ascribed (declared ds)) = if_both LowParts (eqb builtin 0) _ _ o (ascribed_low (declared ds) h) in
    let x : LowParts (opt (p (rules.heap ∷ [])) ∷ opt (r (0 ∷ [])) ∷ []) = rw (lt-ltb rules.heap 13 heap) refl in
    get_d_all LowParts _ code []
    (refl & refl & refl & refl & refl & m & refl & refl & refl & refl & refl & refl & refl & refl & refl & refl & x & refl & refl & builtin_low rules builtin heap & refl & g & w & g & refl & refl & done) refl

module _ (fits : Want → Bool) (Q : Type 0) (f : (w : Want) → fits w ≡ true → low_want w ≡ true → Q) where
  -- a row that fits: what follows from a fit, and the shape that is left
  next_low : (ps : List Part) → LowParts ps → Ok (λ qs. Q × LowParts qs) (next fits ps)
  unfolding next
  next_low [] l = tt
  next_low (one w ∷ ps) l = only_ok _ _ _ (λ t. (f w t (and_left (low_want w) (low_parts ps) l), and_right (low_want w) (low_parts ps) l))
  next_low (opt w ∷ ps) l = if_ok_lem (Ok _) _ _ _ (λ t. (f w t (and_left (low_want w) (low_parts ps) l), and_right (low_want w) (low_parts ps) l)) (λ t. next_low ps (and_right (low_want w) (low_parts ps) l))
  next_low (any w ∷ ps) l = if_ok_lem (Ok _) _ _ _ (λ t. (f w t (and_left (low_want w) (low_parts ps) l), l)) (λ t. next_low ps (and_right (low_want w) (low_parts ps) l))
  next_low (cases ∷ ps) l = if_ok_lem (Ok _) _ _ _ (λ t. (f cas t refl, l)) (λ t. next_low ps l)
  next_low (variants ∷ ps) l = if_ok_lem (Ok _) _ _ _ (λ t. (f cas t refl, l)) (λ t. if_ok_lem (Ok _) _ _ _ (λ u. (f (p (9 ∷ [])) u refl, l)) (λ u. next_low ps l))
  next_low (typed s ∷ ps) l =
      let h : low_want (r (s ∷ [])) ≡ true = rw (and_left (ltb s 13) (low_parts ps) l) refl in
      let m = and_right (ltb s 13) (low_parts ps) l in
      if_ok_lem (Ok _) _ _ _ (λ t. (f (p (9 ∷ [])) t refl, if_both (λ (x : Part). LowParts (x ∷ ps)) _ _ _ (rw (h, m) refl) (rw (h, m) refl))) (λ t. only_ok _ _ _ (λ u. (f (r (s ∷ [])) u h, m)))

-- a REF that fits has such a space
fits_low : (space count : ℕ) (w : Want) → fits_ref w space count ≡ true → low_want w ≡ true → space < 13
unfolding fits_ref
fits_low space count (r spaces) e l = in_low space spaces (and_left (is_in space spaces) (paths_ok space count) e) l
fits_low space count (p spaces) e l = in_low space spaces (and_left (is_in space spaces) (eqb count 0) e) l
fits_low space count (out s) e l = false_not e
fits_low space count cas e l = false_not e

-- an operand that fits
operand_low : (ps : List Part) (o : Operand) → LowParts ps → Ok (λ qs. SpaceOperand o × LowParts qs) (after_operand ps o)
unfolding after_operand
operand_low ps (ref space at paths z) l = next_low (λ w. fits_ref w space (length paths)) (space < 13) (fits_low space (length paths)) ps l
operand_low ps (outer space up at z) l = next_low (λ w. fits_outer w space) (Unit {0}) (λ w e m. tt) ps l
operand_low ps (case name z) l = next_low is_case (Unit {0}) (λ w e m. tt) ps l

-- all operands of a field
operands_low : (ps : List Part) (os : List Operand) (left : List Part) → LowParts ps → after_operands ps os ≡ some left → SpacesOperands os
unfolding after_operands
operands_low ps [] left l e = tt
operands_low ps (o ∷ os) left l e =
    let t = then_some (after_operand ps o) (λ qs. after_operands qs os) left e in
    let q = ok_at (λ qs. SpaceOperand o × LowParts qs) (after_operand ps o) t.0 (operand_low ps o l) t.1 in
    (q.0, operands_low t.0 os left q.1 t.2)

-- ---- fields

-- its DECLs, under any rule set
pub head_decls : (rules : RuleSet) (kind : ℕ) (h : Head) → GoodHead rules kind h → SpacesDecls h.decls
head_decls rules kind h g = decls_low (declares h.code) 0 h.decls (declares_low h.code) g.declared

-- a field without the scope that it may hold
head_low : (rules : RuleSet) (kind : ℕ) (h : Head) → rules.heap < 13 → GoodHead rules kind h → SpacesHead h
head_low rules kind h heap g =
    let d = head_decls rules kind h g in
    record { decls = d; operands = operands_low _ h.operands g.left (parts_low rules h.code h.builtin h.decls heap (declared_low h.decls d)) g.uses }

-- a field
item_low : (rules : RuleSet) (i : Item) (kind : ℕ) → rules.heap < 13 → Rattle.rules.specs.Good.GoodItem rules i kind → SpacesHead (head_of i)
unfolding head_of
item_low rules (plain h) kind heap g = head_low rules kind h heap g.0
item_low rules (holds h s) kind heap g = head_low rules kind h heap g.0

-- the spaces of a form's fields
pub good_spaces : (rules : RuleSet) (fs : Fields) (kind : ℕ) → rules.heap < 13 → GoodFields rules fs kind → Spaces fs
good_spaces rules end kind heap g = tt
good_spaces rules (i ▸ fs) kind heap g = (item_low rules i kind heap g.0, good_spaces rules fs kind heap g.1)
