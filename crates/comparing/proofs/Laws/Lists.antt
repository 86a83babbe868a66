-- The list that pairs give: whatever they are, its entries are in order, it carries the right's rows, and applied to the left it gives the right.
use Rattle.std.specs.Prelude.{◌≡◌, refl, ℕ, ◌+◌, ◌-◌, ◌≤◌, length, take, drop}
use Rattle.std.proofs.Common.{ap, ap₂, sym, ◌∙◌, arith, length-append}
use mathlib.Core.List.{List, [], ◌∷◌, ◌++◌, map, map-append, append_assoc, cons≢nil}
use Rattle.std.proofs.Math.Seq.{take-append-add, drop-append-add, take-append_seam, drop-append_seam}
use Rattle.rules.specs.Rows.{Row}
use Rattle.comparing.specs.Compare.{Choice, blur, Pair, alike, differs, Entry, entries, apply}
use Rattle.rules.specs.Laws.ToolLaws.{All, done, ◌&◌}
use Rattle.comparing.proofs.Laws.Sides.{lefts, rights, Equal, Alike}

-- ---- in order

-- The entries begin at row `i` of the left and row `j` of the right or behind, each behind the rows of those before it, and end before `m` and `n`.
abbrev pub InOrder : (i j m n : ℕ) → List Entry → Type 0
InOrder i j m n [] = (i ≤ m) × (j ≤ n)
InOrder i j m n (e ∷ es) = (i ≤ e.left) × (j ≤ e.right) × InOrder (e.left + e.count) (e.right + length e.rows) m n es

from_earlier : (i j i' j' m n : ℕ) (es : List Entry) → i ≤ i' → j ≤ j' → InOrder i' j' m n es → InOrder i j m n es
from_earlier i j i' j' m n [] h k o = (omega (arith, o.0), omega (arith, o.1))
from_earlier i j i' j' m n (e ∷ es) h k o = (omega (arith, o.0), omega (arith, o.1), o.2)

pub in_order : (i j m n : ℕ) (ps : List Pair) → i + length (lefts ps) ≡ m → j + length (rights ps) ≡ n → InOrder i j m n (entries i j ps)
unfolding entries lefts rights
in_order i j m n [] p q = (omega arith, omega arith)
in_order i j m n (alike l r ∷ ps) p q =
    from_earlier i j (i + length l) (j + length r) m n (entries (i + length l) (j + length r) ps) (omega arith) (omega arith)
    (in_order (i + length l) (j + length r) m n ps (omega (arith, length-append l (lefts ps))) (omega (arith, length-append r (rights ps))))
in_order i j m n (differs k l r ∷ ps) p q = (
  omega arith,
  omega arith,
  in_order (i + length l) (j + length r) m n ps (omega (arith, length-append l (lefts ps))) (omega (arith, length-append r (rights ps))),
)

-- ---- applied

-- rows before the first entry stay
past : (i j m n : ℕ) (l rows : List Row) (es : List Entry) → InOrder (i + length l) j m n es → apply i es (l ++ rows) ≡ l ++ apply (i + length l) es rows
unfolding apply
past i j m n l rows [] o = refl
past i j m n l rows (e ∷ es) o =
    let k = e.left - (i + length l) in
    let k' = e.left + e.count - (i + length l) in
    let p : e.left - i ≡ length l + k = omega (arith, o.0) in
    let q : e.left + e.count - i ≡ length l + k' = omega (arith, o.0) in
    rw (p, q, take-append-add l rows k, drop-append-add l rows k') (append_assoc l (take k rows) _)

pub applied : (c : Choice) (i j : ℕ) (ps : List Pair) → All (Equal c) ps → map (blur c) (apply i (entries i j ps) (lefts ps)) ≡ map (blur c) (rights ps)
unfolding entries lefts rights apply
applied c i j [] done = refl
applied c i j (alike l r ∷ ps) (h & a) =
    let o = in_order (i + length l) (j + length r) _ _ ps refl refl in
    ap (map (blur c)) (past i (j + length r) _ _ l (lefts ps) (entries (i + length l) (j + length r) ps) o)
    ∙ map-append (blur c) l _ ∙ ap₂ (λ (x y : List Row). x ++ y) h (applied c (i + length l) (j + length r) ps a) ∙ sym (map-append (blur c) r (rights ps))
applied c i j (differs k l r ∷ ps) (h & a) =
    let p : i - i ≡ 0 = omega arith in
    let q : i + length l - i ≡ length l = omega arith in
    rw (p, q, drop-append_seam l (lefts ps)) (
    map-append (blur c) r _ ∙ ap (λ (y : List Row). map (blur c) r ++ y) (applied c (i + length l) (j + length r) ps a) ∙ sym (map-append (blur c) r (rights ps)))

-- ---- empty

pub none_differ : (c : Choice) (i j : ℕ) (ps : List Pair) → All (Equal c) ps → entries i j ps ≡ [] → map (blur c) (lefts ps) ≡ map (blur c) (rights ps)
unfolding entries lefts rights
none_differ c i j [] done e = refl
none_differ c i j (alike l r ∷ ps) (h & a) e =
    map-append (blur c) l (lefts ps) ∙ ap₂ (λ (x y : List Row). x ++ y) h (none_differ c (i + length l) (j + length r) ps a e) ∙ sym (map-append (blur c) r (rights ps))
none_differ c i j (differs k l r ∷ ps) (h & a) e = absurd (cons≢nil e)

pub none_listed : (i j : ℕ) (ps : List Pair) → All Alike ps → entries i j ps ≡ []
unfolding entries
none_listed i j [] done = refl
none_listed i j (alike l r ∷ ps) (h & a) = none_listed (i + length l) (j + length r) ps a
none_listed i j (differs k l r ∷ ps) (h & a) = absurd h

-- ---- the right's rows

-- the entry's rows are the right's from its first row on
abbrev pub Carried : List Row → Entry → Type 0
Carried right e = take (length e.rows) (drop e.right right) ≡ e.rows

pub carried : (before : List Row) (i j : ℕ) (ps : List Pair) → length before ≡ j → All (Carried (before ++ rights ps)) (entries i j ps)
unfolding entries rights
carried before i j [] p = done
carried before i j (alike l r ∷ ps) p =
    rw append_assoc at (carried (before ++ r) (i + length l) (j + length r) ps (omega (arith, length-append before r)))
carried before i j (differs k l r ∷ ps) p =
    let here : take (length r) (drop j (before ++ (r ++ rights ps))) ≡ r = rw (← p, drop-append_seam before (r ++ rights ps)) (take-append_seam r (rights ps)) in
    here & (rw append_assoc at (carried (before ++ r) (i + length l) (j + length r) ps (omega (arith, length-append before r))))
