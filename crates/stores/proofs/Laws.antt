-- The ways through the stores, and what callers cite of them.
use mathlib.Core.Path.{◌≡◌, refl, sym, ap, ◌∙◌}
use mathlib.Core.List.{List, [], ◌∷◌, ◌++◌, append-nil}
use native.Mathlib.Omega.{arith}
use native.Mathlib.Numerals.{add-one}
use Prim.Native.Nat.{ℕ, zero, suc, ◌+◌, ◌-◌, ◌/◌, ◌%◌, ◌≤◌, ◌<◌}
use lib.ListN.{length, set, take, replicate, length-set}
use lib.Seq.{sets, take_all, append_snoc}
use borrow.Author.Rules.{rules}
use Rattle.kit.proofs.Laws.{left_suc, take_next_set}
use Rattle.rules.specs.Rows.{bytes}

-- ---- a word

-- a store past the end changes nothing
pub set_past : (l : List ℕ) (i v : ℕ) → length l ≤ i → l ≡ set l i v
set_past [] i v h = refl
set_past (x ∷ l) zero v h = absurd (omega arith)
set_past (x ∷ l) (suc i) v h = ap (λ (m : List ℕ). x ∷ m) (set_past l i v (omega arith))

pub sets_past : (l : List ℕ) (i : ℕ) (vs : List ℕ) → length l ≤ i → l ≡ sets l i vs
sets_past l i [] h = refl
sets_past l i (v ∷ vs) h =
    let same = set_past l i v h in
    sets_past l (suc i) vs (omega arith) ∙ ap (λ (m : List ℕ). sets m (suc i) vs) same

pub length_word : (v : ℕ) → length (bytes 4 v) ≡ 4
unfolding bytes
length_word v = refl

word_is : (v : ℕ) → bytes 4 v ≡ v % 256 ∷ v / 256 % 256 ∷ v / 65536 % 256 ∷ v / 16777216 % 256 ∷ []
unfolding bytes
word_is v =
    let p : v / 256 / 256 ≡ v / 65536 = omega arith in
    let q : v / 256 / 256 / 256 ≡ v / 16777216 = omega arith in
    rw (q, p)

module _ (l : List ℕ) (i v : ℕ) where
  pub word_past : length l ≤ i → l ≡ sets l i (bytes 4 v)
  word_past h = sets_past l i (bytes 4 v) h

  pub word_one : length l ≤ i + 1 → set l i (v % 256) ≡ sets l i (bytes 4 v)
  word_one h = rw word_is (sets_past (set l i (v % 256)) (suc i) (v / 256 % 256 ∷ v / 65536 % 256 ∷ v / 16777216 % 256 ∷ []) (simp length-set (omega arith)))

  pub word_two : length l ≤ i + 2 → set (set l i (v % 256)) (i + 1) (v / 256 % 256) ≡ sets l i (bytes 4 v)
  word_two h = rw (word_is, add-one) (sets_past (set (set l i (v % 256)) (suc i) (v / 256 % 256)) (suc (suc i)) (v / 65536 % 256 ∷ v / 16777216 % 256 ∷ []) (simp length-set (omega arith)))

  pub word_three : length l ≤ i + 3 → set (set (set l i (v % 256)) (i + 1) (v / 256 % 256)) (i + 2) (v / 65536 % 256) ≡ sets l i (bytes 4 v)
  word_three h = let two : i + 2 ≡ suc (suc i) = omega arith in rw (word_is, add-one, two) (sets_past (set (set (set l i (v % 256)) (suc i) (v / 256 % 256)) (suc (suc i)) (v / 65536 % 256)) (suc (suc (suc i))) (v / 16777216 % 256 ∷ []) (simp length-set (omega arith)))

  pub word_whole : set (set (set (set l i (v % 256)) (i + 1) (v / 256 % 256)) (i + 2) (v / 65536 % 256)) (i + 3) (v / 16777216 % 256) ≡ sets l i (bytes 4 v)
  word_whole = let two : i + 2 ≡ suc (suc i) = omega arith in let three : i + 3 ≡ suc (suc (suc i)) = omega arith in rw (word_is, add-one, two, three)

pub ruleset word_ways = (word_past, word_one, word_two, word_three, word_whole, rules)
