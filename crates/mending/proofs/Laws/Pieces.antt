-- What holds of any pieces: the list of changes is undone to the bytes before, and bytes that no change names are as they were.
use Rattle.std.specs.Prelude.{◌≡◌, Bool, true, false, List, [], ◌∷◌, ◌++◌, ℕ, zero, suc, ◌+◌, ◌-◌, ◌≤◌, ◌<◌, eqb, leb, length, take, drop, get_or}
use Rattle.std.proofs.Math.Path.{refl}
use Rattle.std.proofs.Common.{ap, ap₂, sym, ◌∙◌, subst, append_assoc, arith, length-append}
use Rattle.std.proofs.Math.ListN.{get_or-append}
use Rattle.rules.specs.Tools.{when◌then◌else◌}
use Rattle.rules.specs.Answer.{same_numbers}
use Rattle.mending.specs.Mend.{Piece, befores, afters, Change, changes, undo}
use Rattle.rules.specs.Laws.ToolLaws.{false_not, and_left, and_right, eqb-true, eqb_same, leb_le, leb_lt, All, done, ◌&◌}

-- ---- lists

pub same_lists : (a b : List ℕ) → same_numbers a b ≡ true → a ≡ b
unfolding same_numbers
same_lists [] [] e = refl
same_lists [] (y ∷ b) e = false_not e
same_lists (x ∷ a) [] e = false_not e
same_lists (x ∷ a) (y ∷ b) e = ap₂ (λ (z : ℕ) (l : List ℕ). z ∷ l) (eqb-true x y (and_left (eqb x y) _ e)) (same_lists a b (and_right (eqb x y) _ e))

pub lists_same : (a : List ℕ) → same_numbers a a ≡ true
unfolding same_numbers
lists_same [] = refl
lists_same (x ∷ a) = rw (eqb_same x) (lists_same a)

pub take_past : (xs bs : List ℕ) (n d : ℕ) → n ≡ length xs + d → take n (xs ++ bs) ≡ xs ++ take d bs
take_past [] bs n d e = let q : n ≡ d = omega arith in rw q
take_past (x ∷ xs) bs zero d e = absurd (omega arith)
take_past (x ∷ xs) bs (suc n) d e = ap (λ (l : List ℕ). x ∷ l) (take_past xs bs n d (omega arith))

pub drop_past : (xs bs : List ℕ) (n d : ℕ) → n ≡ length xs + d → drop n (xs ++ bs) ≡ drop d bs
drop_past [] bs n d e = let q : n ≡ d = omega arith in rw q
drop_past (x ∷ xs) bs zero d e = absurd (omega arith)
drop_past (x ∷ xs) bs (suc n) d e = drop_past xs bs n d (omega arith)

-- ---- undoing

-- all changes are from byte n on
abbrev From : ℕ → List Change → Type 0
From n [] = Unit {0}
From n (c ∷ cs) = n ≤ c.at

from_lower : (n m : ℕ) (cs : List Change) → m ≤ n → From n cs → From m cs
from_lower n m [] l f = tt
from_lower n m (c ∷ cs) l f = omega arith

changes_from : (at : ℕ) (ps : List Piece) → From at (changes at ps)
unfolding changes when◌then◌else◌
changes_from at [] = tt
changes_from at (p ∷ ps) = go (same_numbers p.before p.after) (changes_from (at + length p.after) ps)
  where
    go : (b : Bool) → From (at + length p.after) (changes (at + length p.after) ps)
        → From at (when b then changes (at + length p.after) ps else record { at = at; before = p.before; now = length p.after } ∷ changes (at + length p.after) ps)
    go true f = from_lower (at + length p.after) at (changes (at + length p.after) ps) (omega arith) f
    go false f = omega arith

-- bytes before the first change stay
undo_past : (at : ℕ) (cs : List Change) (xs bs : List ℕ) → From (at + length xs) cs → undo at cs (xs ++ bs) ≡ xs ++ undo (at + length xs) cs bs
unfolding undo
undo_past at [] xs bs f = refl
undo_past at (c ∷ cs) xs bs f =
    let d = c.at - (at + length xs) in
    let e : c.at - at ≡ length xs + d = omega arith in
    rw (take_past xs bs (c.at - at) d e, drop_past xs bs (c.at - at) d e) (append_assoc xs (take d bs) _)

-- the first change is here
undo_here : (at : ℕ) (old new : List ℕ) (cs : List Change) (bs : List ℕ) → undo at (record { at = at; before = old; now = length new } ∷ cs) (new ++ bs) ≡ old ++ undo (at + length new) cs bs
unfolding undo
undo_here at old new cs bs =
    let e : at - at ≡ 0 = omega arith in rw (e, drop_past new bs (length new) 0 (omega arith))

pub undo_changes : (at : ℕ) (ps : List Piece) → undo at (changes at ps) (afters ps) ≡ befores ps
unfolding changes afters befores when◌then◌else◌
undo_changes at [] = unfold undo in refl
undo_changes at (p ∷ ps) = go (same_numbers p.before p.after) refl (undo_changes (at + length p.after) ps)
  where
    go : (b : Bool) → same_numbers p.before p.after ≡ b → undo (at + length p.after) (changes (at + length p.after) ps) (afters ps) ≡ befores ps
        → undo at (when b then changes (at + length p.after) ps else record { at = at; before = p.before; now = length p.after } ∷ changes (at + length p.after) ps) (p.after ++ afters ps) ≡ p.before ++ befores ps
    go true e r =
        undo_past at (changes (at + length p.after) ps) p.after (afters ps) (changes_from (at + length p.after) ps)
        ∙ ap₂ (λ (xs ys : List ℕ). xs ++ ys) (sym (same_lists p.before p.after e)) r
    go false e r = undo_here at p.before p.after (changes (at + length p.after) ps) (afters ps) ∙ ap (λ (l : List ℕ). p.before ++ l) r

-- ---- pieces that all stay

abbrev pub Stays : Piece → Type 0
Stays p = p.before ≡ p.after

pub stays_afters : (ps : List Piece) → All Stays ps → afters ps ≡ befores ps
unfolding afters befores
stays_afters [] done = refl
stays_afters (p ∷ ps) (e & a) = ap₂ (λ (xs ys : List ℕ). xs ++ ys) (sym e) (stays_afters ps a)

pub stays_changes : (at : ℕ) (ps : List Piece) → All Stays ps → changes at ps ≡ []
unfolding changes when◌then◌else◌
stays_changes at [] done = refl
stays_changes at (p ∷ ps) (e & a) = rw (e, lists_same p.after) (stays_changes (at + length p.after) ps a)

pub befores_append : (ps qs : List Piece) → befores (ps ++ qs) ≡ befores ps ++ befores qs
unfolding befores
befores_append [] qs = refl
befores_append (p ∷ ps) qs = ap (λ (l : List ℕ). p.before ++ l) (befores_append ps qs) ∙ sym (append_assoc p.before (befores ps) (befores qs))

pub afters_append : (ps qs : List Piece) → afters (ps ++ qs) ≡ afters ps ++ afters qs
unfolding afters
afters_append [] qs = refl
afters_append (p ∷ ps) qs = ap (λ (l : List ℕ). p.after ++ l) (afters_append ps qs) ∙ sym (append_assoc p.after (afters ps) (afters qs))

-- ---- bytes that no change names

-- byte q is in none of the changes, as they stand in the new bytes
abbrev pub Outside : ℕ → List Change → Type 0
Outside q [] = Unit {0}
Outside q (c ∷ cs) = (c.at ≤ q → ¬ (q < c.at + c.now)) × Outside q cs

-- every piece but the last is as long as it was
pub data Even : List Piece → Type 0 where
  no_piece : Even []
  last : {p : Piece} → Even (p ∷ [])
  even : {p : Piece} {ps : List Piece} → length p.after ≡ length p.before → Even ps → Even (p ∷ ps)

get_d_past : (xs bs : List ℕ) (n q : ℕ) → n ≡ length xs + q → get_or (xs ++ bs) n 0 ≡ get_or bs q 0
get_d_past [] bs n q e = let h : n ≡ q = omega arith in rw h
get_d_past (x ∷ xs) bs zero q e = absurd (omega arith)
get_d_past (x ∷ xs) bs (suc n) q e = get_d_past xs bs n q (omega arith)

by_cases : {X : Type 0} (a b : ℕ) → (a < b → X) → (b ≤ a → X) → X
by_cases {X} a b f g = go (leb b a) refl
  where
    go : (t : Bool) → leb b a ≡ t → X
    go true e = g (leb_le b a e)
    go false e = f (leb_lt b a e)

-- a byte of the first piece
untouched_here : (at : ℕ) (p : Piece) (ps : List Piece) (q : ℕ) → q < length p.after → Outside (at + q) (changes at (p ∷ ps)) → get_or (p.after ++ afters ps) q 0 ≡ get_or (p.before ++ befores ps) q 0
unfolding changes when◌then◌else◌
untouched_here at p ps q h out = go (same_numbers p.before p.after) refl out
  where
    go : (b : Bool) → same_numbers p.before p.after ≡ b
        → Outside (at + q) (when b then changes (at + length p.after) ps else record { at = at; before = p.before; now = length p.after } ∷ changes (at + length p.after) ps)
        → get_or (p.after ++ afters ps) q 0 ≡ get_or (p.before ++ befores ps) q 0
    go true e o =
        let same = same_lists p.before p.after e in
        let short : q < length p.before = subst (λ (l : List ℕ). q < length l) (sym same) h in
        get_or-append p.after (afters ps) 0 q h ∙ (ap (λ (l : List ℕ). get_or l q 0) (sym same) ∙ sym (get_or-append p.before (befores ps) 0 q short))
    go false e o = absurd (o.0 (omega arith) (omega arith))

-- what is outside of the changes is outside of the later ones
outside_later : (at : ℕ) (p : Piece) (ps : List Piece) (n : ℕ) → Outside n (changes at (p ∷ ps)) → Outside n (changes (at + length p.after) ps)
unfolding changes when◌then◌else◌
outside_later at p ps n out = go (same_numbers p.before p.after) out
  where
    go : (b : Bool) → Outside n (when b then changes (at + length p.after) ps else record { at = at; before = p.before; now = length p.after } ∷ changes (at + length p.after) ps) → Outside n (changes (at + length p.after) ps)
    go true o = o
    go false o = o.1

pub untouched : (at : ℕ) (ps : List Piece) → Even ps → (q : ℕ) → q < length (afters ps) → Outside (at + q) (changes at ps) → get_or (afters ps) q 0 ≡ get_or (befores ps) q 0
unfolding afters befores
untouched at [] no_piece q h out = refl
untouched at (p ∷ ps) last q h out = untouched_here at p [] q (omega (arith, length-append p.after [])) out
untouched at (p ∷ ps) (even e a) q h out =
    by_cases q (length p.after) (λ l. untouched_here at p ps q l out) (λ l.
    let r = q - length p.after in
    let next : at + q ≡ (at + length p.after) + r = omega arith in
    get_d_past p.after (afters ps) q r (omega arith)
    ∙ (untouched (at + length p.after) ps a r (omega (arith, length-append p.after (afters ps))) (subst (λ (x : ℕ). Outside x (changes (at + length p.after) ps)) next (outside_later at p ps (at + q) out))
    ∙ sym (get_d_past p.before (befores ps) q r (omega (arith, e)))))
