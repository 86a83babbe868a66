-- The ways through the code that reads numbers: each law is one unfolding of a definition, with the facts in the form in which the code gives them.
use mathlib.Core.Path.{◌≡◌, refl}
use mathlib.Core.Bool.{Bool, true, false, ◌&&◌}
use mathlib.Core.List.{List, [], ◌∷◌}
use native.Mathlib.Omega.{arith}
use Prim.Native.Nat.{ℕ, ◌+◌, ◌*◌, ◌-◌, ◌≤◌, ◌<◌}
use borrow.Author.Rules.{rules}
use borrow.Author.Tests.{leb-true}
use lib.Dec.{leb}
use lib.ListN.{length, get_or, drop, drop_of_length-le}
use Rattle.kit.specs.Pick.{pick}
use Rattle.kit.specs.Out.{Out, ◌&◌}
use Rattle.kit.proofs.Laws.{yes!, no!, tests, drop_next}
use Rattle.text.specs.Numbers.{is_digit, with_digit, digits_from, number_in, number_behind}

-- ---- a digit

both_left : (a b : Bool) → (a && b) ≡ true → a ≡ true
both_left true b h = refl
both_left false b h = h

pub digit_low : (d : ℕ) → is_digit d ≡ true → 48 ≤ d
digit_low d h = leb-true 48 d (both_left (leb 48 d) (leb d 57) h)

pub digit_is : {b : Bool} (d : ℕ) → b ≡ is_digit d → b ≡ true → is_digit d ≡ true
digit_is d is h = rw (← is) h

module _ (number digit : ℕ) where
  pub digit_more : number * 10 + (digit - 48) < 4294967296 → number * 10 + (digit - 48) ≡ with_digit number digit
  unfolding with_digit
  digit_more h = yes! _ (omega tests) refl

  pub digit_full : 4294967296 ≤ number * 10 + (digit - 48) → 4294967296 ≡ with_digit number digit
  unfolding with_digit
  digit_full h = no! _ (omega tests) refl

pub ruleset digit_ways = (digit_low, digit_is, digit_more, digit_full, rules)

-- ---- digits, one by one

module _ (line : List ℕ) (end value : ℕ) (T : Out ℕ (List ℕ)) (inv : digits_from (drop end line) value ≡ T) where
  pub digits_end : length line ≤ end → (value & drop end line) ≡ T
  unfolding digits_from
  digits_end h = let e = drop_of_length-le line {i = end} h in rw e (rw e at inv)

  module _ (h : end < length line) (b : Bool) (is : b ≡ is_digit (get_or line end 0)) where
    turn : pick b (digits_from (drop (end + 1) line) (with_digit value (get_or line end 0))) (value & (get_or line end 0 ∷ drop (end + 1) line)) ≡ T
    unfolding digits_from
    turn = rw is (rw (drop_next line end 0 h) at inv)

    pub digits_on : (v : ℕ) → v ≡ with_digit value (get_or line end 0) → b ≡ true → digits_from (drop (end + 1) line) v ≡ T
    unfolding pick
    digits_on v e q = rw e (rw q at turn)

    pub digits_stop : b ≡ false → (value & drop end line) ≡ T
    unfolding pick
    digits_stop q = rw (drop_next line end 0 h) (rw q at turn)

pub ruleset digits_ways = (digits_end, digits_on, digits_stop, digit_is, rules)

-- ---- a number, and one behind a mark

pub none_left : (line : List ℕ) → ◌≡◌ {A = Out ℕ (List ℕ)} (0 & drop (length line) line) (0 & [])
none_left line = let e = drop_of_length-le line {i = length line} (omega arith) in rw e

module _ (line : List ℕ) (at : ℕ) (p : Out ℕ (List ℕ)) where
  pub number_past : length line ≤ at → p ≡ (0 & []) → p ≡ number_in (drop at line)
  unfolding number_in
  number_past h e = rw (drop_of_length-le line {i = at} h) e

  pub behind_past : (mark : ℕ) → length line ≤ at → p ≡ (0 & []) → p ≡ number_behind mark (drop at line)
  unfolding number_behind
  behind_past mark h e = rw (drop_of_length-le line {i = at} h) e

  module _ (h : at < length line) where
    module _ (b : Bool) (is : b ≡ is_digit (get_or line at 0)) where
      pub number_digits : b ≡ true → p ≡ digits_from (drop at line) 0 → p ≡ number_in (drop at line)
      unfolding number_in
      number_digits q e = rw (drop_next line at 0 h) (yes! _ (rw (← is) q) (rw (drop_next line at 0 h) at e))

      pub number_none : b ≡ false → p ≡ (0 & []) → p ≡ number_in (drop at line)
      unfolding number_in
      number_none q e = rw (drop_next line at 0 h) (no! _ (rw (← is) q) e)

    module _ (mark : ℕ) where
      pub behind_mark : get_or line at 0 ≡ mark → p ≡ number_in (drop (at + 1) line) → p ≡ number_behind mark (drop at line)
      unfolding number_behind
      behind_mark q e = rw (drop_next line at 0 h) (yes! _ (omega tests) e)

      pub behind_other : (get_or line at 0 ≡ mark → ⊥) → p ≡ (0 & []) → p ≡ number_behind mark (drop at line)
      unfolding number_behind
      behind_other q e = rw (drop_next line at 0 h) (no! _ (omega tests) e)

pub ruleset number_ways = (none_left, number_past, number_digits, number_none, behind_past, behind_mark, behind_other, rules)
