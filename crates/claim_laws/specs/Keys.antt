-- What is found among slots of several scopes: those of one scope are not taken for another's.
use Rattle.std.specs.Prelude.{◌≡◌, Bool, true, false, ◌&&◌, ◌||◌, List, [], ◌∷◌, ◌++◌, ℕ, ◌+◌, ◌*◌, ◌%◌, ◌<◌, ◌≤◌, eqb, Option, Some, None}
use Rattle.std.proofs.Math.Path.{refl}
use Rattle.std.proofs.Common.{sym, ap, ◌∙◌, arith, ne_eqb}
use Rattle.kit.specs.Pick.{pick}
use Rattle.names.specs.Table.{Slot, space_of, name_of, number_of, find_in}
use Rattle.rules.specs.Laws.ToolLaws.{All, done, ◌&◌, all_map}
use Rattle.claim_scopes.specs.Entries.{entry_key_t}

-- ---- slots one behind another

unfoldable pub or_found : Option ℕ → Option ℕ → Option ℕ
or_found (Some v) f = Some v
or_found None f = f

pick_or : (t u : Bool) (v : ℕ) (a b : Option ℕ) → pick t (pick u (Some v) (or_found a b)) (or_found a b) ≡ or_found (pick t (pick u (Some v) a) a) b
unfolding pick or_found
pick_or true true v a b = refl
pick_or true false v a b = refl
pick_or false u v a b = refl

pub find_append : (xs ys : List Slot) (key name : ℕ) → find_in (xs ++ ys) key name ≡ or_found (find_in xs key name) (find_in ys key name)
unfolding find_in
find_append [] ys key name = unfold or_found in refl
find_append (x ∷ xs) ys key name =
    rw (find_append xs ys key name) (pick_or (eqb (space_of x) key) (eqb (name_of x) name) (number_of x) (find_in xs key name) (find_in ys key name))

-- ---- slots of other scopes

abbrev pub Other : (key : ℕ) → Slot → Type 0
Other key s = space_of s ≡ key → ⊥

pub find_other : (ss : List Slot) (key name : ℕ) → All (Other key) ss → find_in ss key name ≡ None
unfolding find_in pick
find_other [] key name done = refl
find_other (s ∷ ss) key name (h & p) = rw (ne_eqb _ _ h) (find_other ss key name p)

pub other_first : (xs ys : List Slot) (key name : ℕ) → All (Other key) xs → find_in (xs ++ ys) key name ≡ find_in ys key name
unfolding or_found
other_first xs ys key name p = find_append xs ys key name ∙ rw (find_other xs key name p)

or_nothing : (f : Option ℕ) → or_found f None ≡ f
unfolding or_found
or_nothing (Some v) = refl
or_nothing None = refl

pub other_last : (xs ys : List Slot) (key name : ℕ) → All (Other key) ys → find_in (xs ++ ys) key name ≡ find_in xs key name
other_last xs ys key name p = find_append xs ys key name ∙ rw (find_other ys key name p) (or_nothing (find_in xs key name))

-- slots of the scopes whose OPEN is one of the rows from `lo` on and before `hi`
pub record Of (lo hi : ℕ) (s : Slot) : Type 0 where
  pub low : 257 * lo ≤ space_of s
  pub high : space_of s < 257 * hi

abbrev pub Within : (lo hi : ℕ) → List Slot → Type 0
Within lo hi ss = All (Of lo hi) ss

pub wider : (lo hi lo' hi' : ℕ) (ss : List Slot) → lo' ≤ lo → hi ≤ hi' → Within lo hi ss → Within lo' hi' ss
wider lo hi lo' hi' ss l h p =
    all_map ss (λ s o. let a = o.low in let b = o.high in record { low = omega arith; high = omega arith }) p

pub key_is : (k space : ℕ) → k < 65536 → entry_key_t k space ≡ 257 * k + space
unfolding entry_key_t
key_is k space l = let e : k % 65536 ≡ k = omega arith in rw e (omega arith)

pub key_within : (k space : ℕ) → k < 65536 → space < 256 → (257 * k ≤ entry_key_t k space) × (entry_key_t k space < 257 * (k + 1))
key_within k space l h = let e = key_is k space l in (omega arith, omega arith)

-- none of them is of a scope outside of these rows
pub outside : (lo hi k space : ℕ) (ss : List Slot) → k < 65536 → space < 256 → Within lo hi ss → (k < lo → All (Other (entry_key_t k space)) ss) × (hi ≤ k → All (Other (entry_key_t k space)) ss)
outside lo hi k space ss l h p =
    let w = key_within k space l h in
    let a = w.0 in
    let b = w.1 in
    (λ g. all_map ss (λ s o. let u = o.low in λ e. omega arith) p, λ g. all_map ss (λ s o. let u = o.high in λ e. omega arith) p)
