-- The ways through the code: each law is one unfolding of a definition, with the facts in the form in which the code gives them.
use Rattle.std.specs.Prelude.{Option, Some, None, ℕ}
use mathlib.Core.Path.{◌≡◌, refl, ◌∙◌}
use mathlib.Core.List.{List, [], ◌∷◌}
use native.Mathlib.Omega.{arith}
use Prim.Native.Nat.{ℕ, ◌+◌, ◌*◌, ◌-◌, ◌≤◌, ◌<◌}
use borrow.Author.Rules.{rules}
use lib.ListN.{length, get_or, drop, drop_of_length-le}
use Rattle.kit.proofs.Laws.{yes!, no!, tests, drop_next}
use Rattle.do_show.specs.Numbers.{with_digit, parsed_then, with_digits, number_in}

module _ (number digit : ℕ) where
  pub digit_below : digit < 48 → None ≡ with_digit number digit
  unfolding with_digit
  digit_below h = yes! _ (omega tests) refl

  module _ (low : 48 ≤ digit) where
    pub digit_above : 57 < digit → None ≡ with_digit number digit
    unfolding with_digit
    digit_above h = no! _ (omega tests) (yes! _ (omega tests) refl)

    module _ (high : digit ≤ 57) where
      pub digit_more : number * 10 + (digit - 48) < 4294967296 → Some (number * 10 + (digit - 48)) ≡ with_digit number digit
      unfolding with_digit
      digit_more h = no! _ (omega tests) (no! _ (omega tests) (yes! _ (omega tests) refl))

      pub digit_full : 4294967296 ≤ number * 10 + (digit - 48) → None ≡ with_digit number digit
      unfolding with_digit
      digit_full h = no! _ (omega tests) (no! _ (omega tests) (no! _ (omega tests) refl))

pub text_empty : (text : List ℕ) → length text ≡ 0 → None ≡ number_in text
unfolding number_in
text_empty [] h = refl
text_empty (d ∷ ds) h = absurd (omega arith)

pub text_start : (text : List ℕ) → (length text ≡ 0 → ⊥) → with_digits (drop 0 text) 0 ≡ number_in text
unfolding number_in
text_start [] h = absurd (h refl)
text_start (d ∷ ds) h = refl

module _ (text : List ℕ) (i number : ℕ) (T : Option ℕ) (inv : with_digits (drop i text) number ≡ T) where
  pub text_end : length text ≤ i → Some number ≡ T
  unfolding with_digits
  text_end h = rw (drop_of_length-le text {i = i} h) at inv

  module _ (h : i < length text) (p : Option ℕ) (got : p ≡ with_digit number (get_or text i 0)) where
    turn : parsed_then p (with_digits (drop (i + 1) text)) ≡ T
    unfolding with_digits
    turn = rw got (rw (drop_next text i 0 h) at inv)

    pub text_on : (longer : ℕ) → p ≡ Some longer → with_digits (drop (i + 1) text) longer ≡ T
    unfolding parsed_then
    text_on longer q = rw q at turn

    pub text_stop : p ≡ None → (X : Option ℕ) → X ≡ None → X ≡ T
    unfolding parsed_then
    text_stop q X x = x ∙ (rw q at turn)

pub ruleset ways = (digit_below, digit_above, digit_more, digit_full, rules)

-- The laws of a loop end in any `T`, so a search tries them everywhere: it has its own set.
pub ruleset text_ways = (text_empty, text_start, text_end, text_on, text_stop, rules)
