-- The ways through the code.
use mathlib.Core.Path.{◌≡◌, refl, ap, sym, ◌∙◌}
use mathlib.Core.Bool.{Bool, true, false, not}
use mathlib.Core.List.{List, [], ◌∷◌, ◌++◌}
use native.Mathlib.Omega.{arith}
use native.Mathlib.Nat.{div-zero}
use Prim.Native.Nat.{ℕ, zero, suc, ◌+◌, ◌*◌, ◌-◌, ◌/◌, ◌≤◌, ◌<◌}
use borrow.Author.Rules.{rules}
use borrow.Author.Tests.{ltb-true, ltb-false}
use lib.Dec.{eqb, leb, ltb}
use lib.ListN.{length, get_or, take, drop, length-drop, drop_of_length-le}
use lib.Seq.{sets, drop-drop, take_all}
use Rattle.kit.specs.Pick.{pick}
use Rattle.kit.proofs.Laws.{yes!, no!, tests, drop_next, left_suc, sets_append}
use Rattle.rules.specs.Rows.{bytes}
use Rattle.rules.specs.Laws.ToolLaws.{eqb-true, eqb-false, eqb_same, false_not}
use Rattle.stores.proofs.Laws.{sets_past, length_word}
use Rattle.batching.specs.BatchBytes.{sum, cut, bad_members, few_bytes}

-- ---- adds_up

-- the sum of the lengths that are left, held to what is left of the total
abbrev pub Left : (lengths : List ℕ) (i left : ℕ) → Bool
Left lengths i left = eqb (sum (drop i lengths)) left

sum_next : (lengths : List ℕ) (i : ℕ) → i < length lengths → sum (drop i lengths) ≡ get_or lengths i 0 + sum (drop (i + 1) lengths)
unfolding sum
sum_next lengths i h = rw (drop_next lengths i 0 h)

eqb_less : (n s left : ℕ) → n ≤ left → eqb (n + s) left ≡ eqb s (left - n)
eqb_less n s left h = go (eqb s (left - n)) refl
  where
    go : (b : Bool) → eqb s (left - n) ≡ b → eqb (n + s) left ≡ b
    go true e = let q = eqb-true s (left - n) e in omega (tests, q)
    go false e = eqb-false (n + s) left (λ q. false_not (sym e ∙ (ap (λ (k : ℕ). eqb s (k - n)) (sym q) ∙ (ap (eqb s) (omega arith) ∙ eqb_same s))))

module _ (lengths : List ℕ) (i left n : ℕ) (T : Bool) (inv : Left lengths i left ≡ T) where
  pub add_turn : i < length lengths → n ≡ get_or lengths i 0 → n ≤ left → Left lengths (i + 1) (left - n) ≡ T
  add_turn h e q = sym (eqb_less n (sum (drop (i + 1) lengths)) left q) ∙ (ap (λ (k : ℕ). eqb (k + sum (drop (i + 1) lengths)) left) e ∙ (ap (λ (k : ℕ). eqb k left) (sym (sum_next lengths i h)) ∙ inv))

  pub add_over : i < length lengths → n ≡ get_or lengths i 0 → left < n → false ≡ T
  add_over h e q =
      let s = sum_next lengths i h in
      sym (eqb-false (sum (drop i lengths)) left (λ r. omega (arith, s, r))) ∙ inv

  pub add_end : length lengths ≤ i → eqb left 0 ≡ T
  unfolding sum
  add_end h = ap (λ (l : List ℕ). eqb left (sum l)) (sym (drop_of_length-le lengths h)) ∙ (turned (sum (drop i lengths)) ∙ inv)
    where
      turned : (s : ℕ) → eqb left s ≡ eqb s left
      turned s = go (eqb s left) refl
        where
          go : (b : Bool) → eqb s left ≡ b → eqb left s ≡ b
          go true e = let q = eqb-true s left e in omega (tests, q)
          go false e = eqb-false left s (λ q. false_not (sym e ∙ (ap (eqb s) q ∙ eqb_same s)))

pub ruleset add_ways = (add_turn, add_over, add_end, rules)

-- ---- are_bad, is_short

module _ (lengths members : List ℕ) where
  pub bad_few : length lengths < 1 → true ≡ bad_members lengths members
  unfolding bad_members
  bad_few h = let few : leb 1 (length lengths) ≡ false = omega tests in rw few

  pub bad_many : 1 ≤ length lengths → 8 < length lengths → true ≡ bad_members lengths members
  unfolding bad_members
  bad_many h k =
      let some-there : leb 1 (length lengths) ≡ true = omega tests in
      let many : leb (length lengths) 8 ≡ false = omega tests in
      rw (some-there, many)

  pub bad_sum : (b : Bool) → 1 ≤ length lengths → length lengths ≤ 8 → b ≡ eqb (sum lengths) (length members) → not b ≡ bad_members lengths members
  unfolding bad_members
  bad_sum b h k e =
      let some-there : leb 1 (length lengths) ≡ true = omega tests in
      let few : leb (length lengths) 8 ≡ true = omega tests in
      rw (some-there, few, e)

pub short_is : (lengths : List ℕ) (room : ℕ) → ltb (room / 8) (length lengths) ≡ few_bytes lengths room
unfolding few_bytes
short_is lengths room = go (ltb room (8 * length lengths)) refl
  where
    go : (b : Bool) → ltb room (8 * length lengths) ≡ b → ltb (room / 8) (length lengths) ≡ b
    go true e = let h = ltb-true room (8 * length lengths) e in omega (tests, h)
    go false e = let h = ltb-false room (8 * length lengths) e in omega (tests, h)

pub ruleset bad_ways = (bad_few, bad_many, bad_sum, short_is, rules)

-- ---- clipped, member_at

module _ (n m rest : ℕ) (e : m ≡ n) where
  pub clipped_rest : rest < m → rest ≡ pick (ltb rest n) rest n
  clipped_rest h = yes! _ (omega tests) refl

  pub clipped_whole : m ≤ rest → m ≡ pick (ltb rest n) rest n
  clipped_whole h = no! _ (omega tests) e

-- what is cut off, and what is left, does not depend on the clipping
module _ {A : Type 0} (l : List A) (n c : ℕ) (e : c ≡ pick (ltb (length l) n) (length l) n) where
  take_clipped : take c l ≡ take n l
  take_clipped = go (ltb (length l) n) refl
    where
      go : (b : Bool) → ltb (length l) n ≡ b → take c l ≡ take n l
      go true q =
          let h : c ≡ length l = e ∙ sym (yes! n q refl) in
          let k = ltb-true (length l) n q in
          take_all c l (omega (arith, h)) ∙ sym (take_all n l (omega (arith, k)))
      go false q = ap (λ (k : ℕ). take k l) (e ∙ sym (no! (length l) q refl))

  drop_clipped : drop c l ≡ drop n l
  drop_clipped = go (ltb (length l) n) refl
    where
      go : (b : Bool) → ltb (length l) n ≡ b → drop c l ≡ drop n l
      go true q =
          let h : c ≡ length l = e ∙ sym (yes! n q refl) in
          let k = ltb-true (length l) n q in
          drop_of_length-le l {i = c} (omega (arith, h)) ∙ sym (drop_of_length-le l {i = n} (omega (arith, k)))
      go false q = ap (λ (k : ℕ). drop k l) (e ∙ sym (no! (length l) q refl))

-- the i-th member of those from the k-th on, which begin at `at`
abbrev pub From : (lengths members : List ℕ) (k at i : ℕ) → List ℕ
From lengths members k at i = get_or (cut (drop k lengths) (drop at members)) (i - k) []

pub member_start : (lengths members : List ℕ) (i : ℕ) → From lengths members 0 0 i ≡ get_or (cut lengths members) i []
member_start lengths members i = let all_left : i - 0 ≡ i = omega arith in rw all_left

module _ (lengths members : List ℕ) (k at i c : ℕ) (T : List ℕ) (inv : From lengths members k at i ≡ T)
    (e : c ≡ pick (ltb (length members - at) (get_or lengths k 0)) (length members - at) (get_or lengths k 0)) where
  rest_is : c ≡ pick (ltb (length (drop at members)) (get_or lengths k 0)) (length (drop at members)) (get_or lengths k 0)
  rest_is = rw (length-drop at members) e

  pub member_turn : k < i → i < length lengths → From lengths members (k + 1) (at + c) i ≡ T
  unfolding cut
  member_turn h q =
      let next = drop_next lengths k 0 (omega arith) in
      let left = left_suc k i h in
      let gone : drop (get_or lengths k 0) (drop at members) ≡ drop (at + c) members = sym (drop_clipped (drop at members) (get_or lengths k 0) c rest_is) ∙ (drop-drop c at members) in
      ap (λ (l : List ℕ). get_or (cut (drop (k + 1) lengths) l) (i - (k + 1)) []) (sym gone) ∙ (rw (next, left) at inv)

  member_here : k ≡ i → i < length lengths → take (at + c - at) (drop at members) ≡ T
  unfolding cut
  member_here h q =
      let next = drop_next lengths k 0 (omega arith) in
      let none_left : i - k ≡ 0 = omega arith in
      let size : at + c - at ≡ c = omega arith in
      rw size (take_clipped (drop at members) (get_or lengths k 0) c rest_is ∙ (rw (next, none_left) at inv))

-- the last turn has brought `k` to `i`
pub member_last : (lengths members : List ℕ) (k at i c : ℕ) (T : List ℕ) → From lengths members k at i ≡ T → c ≡ pick (ltb (length members - at) (get_or lengths i 0)) (length members - at) (get_or lengths i 0)
    → k ≤ i → i ≤ k → i < length lengths → take (at + c - at) (drop at members) ≡ T
member_last lengths members k at i c T inv e p q h =
    let same : k ≡ i = omega arith in
    member_here lengths members k at i c T inv (rw same e) same h

cut_past : (lengths members : List ℕ) (i : ℕ) → length lengths ≤ i → get_or (cut lengths members) i [] ≡ []
unfolding cut
cut_past [] members i h = refl
cut_past (n ∷ ns) members zero h = absurd (omega arith)
cut_past (n ∷ ns) members (suc i) h = cut_past ns (drop n members) i (omega arith)

pub member_past : (lengths members : List ℕ) (i : ℕ) → length lengths ≤ i → [] ≡ get_or (cut lengths members) i []
member_past lengths members i h = sym (cut_past lengths members i h)

pub ruleset member_ways = (clipped_rest, clipped_whole, member_start, member_turn, member_last, member_past, rules)

-- ---- share_of

pub no_share : (room count : ℕ) → count ≡ 0 → 0 ≡ room / count
no_share room count e = sym (ap (λ (k : ℕ). room / k) e ∙ div-zero room)

-- ---- put_answer

eight_bytes : (v : ℕ) → bytes 8 v ≡ bytes 4 v ++ bytes 4 (v / 4294967296)
unfolding bytes
eight_bytes v = let q : v / 256 / 256 / 256 / 256 ≡ v / 4294967296 = omega arith in rw (← q)

module _ (l m : List ℕ) (at v : ℕ) (low : m ≡ sets l at (bytes 4 v)) where
  both : sets l at (bytes 8 v) ≡ sets m (at + 4) (bytes 4 (v / 4294967296))
  both = rw (eight_bytes v, low) (sets_append l at (bytes 4 v) (bytes 4 (v / 4294967296)) ∙ rw length_word)

  pub answer_past : length m ≤ at → m ≡ sets l at (bytes 8 v)
  answer_past h = sets_past m (at + 4) (bytes 4 (v / 4294967296)) (omega arith) ∙ sym both

  pub answer_half : length m - at ≤ 4 → m ≡ sets l at (bytes 8 v)
  answer_half h = sets_past m (at + 4) (bytes 4 (v / 4294967296)) (omega arith) ∙ sym both

  pub answer_whole : (n : List ℕ) → n ≡ sets m (at + 4) (bytes 4 (v / 4294967296)) → n ≡ sets l at (bytes 8 v)
  answer_whole n e = e ∙ sym both

pub ruleset answer_ways = (no_share, answer_past, answer_half, answer_whole, rules)
