-- The ways through the code: each law is one unfolding of a definition, with the facts in the form in which the code gives them.
use mathlib.Core.Path.{◌≡◌, refl}
use mathlib.Core.Bool.{Bool, true, false}
use mathlib.Core.List.{List}
use Prim.Native.Nat.{ℕ, ◌+◌, ◌≤◌, ◌<◌}
use borrow.Author.Rules.{rules}
use lib.ListN.{length, get_or, drop, drop_of_length-le}
use Rattle.kit.specs.Pick.{pick}
use Rattle.kit.proofs.Laws.{yes!, no!, tests, drop_next}
use Rattle.known.specs.Text.{is_text_byte, is_text}
use Rattle.known.specs.Known.{known_of}
use Rattle.known.specs.declared.file.Known.TheVariants.{NoForm, Whole, Resolved, Broken}

-- ---- text

module _ (bytes : List ℕ) (i : ℕ) (T : Bool) (inv : is_text (drop i bytes) ≡ T) where
  pub bytes_end : length bytes ≤ i → true ≡ T
  unfolding is_text
  bytes_end h = rw (drop_of_length-le bytes {i = i} h) at inv

  module _ (h : i < length bytes) (b : Bool) (is : b ≡ is_text_byte (get_or bytes i 0)) where
    turned : pick b (is_text (drop (i + 1) bytes)) false ≡ T
    unfolding is_text
    turned = rw is (rw (drop_next bytes i 0 h) at inv)

    pub bytes_on : b ≡ true → is_text (drop (i + 1) bytes) ≡ T
    unfolding pick
    bytes_on q = rw q at turned

    pub bytes_stop : b ≡ false → false ≡ T
    unfolding pick
    bytes_stop q = rw q at turned

-- ---- what a file is

module _ (number : ℕ) (resolved : Bool) where
  pub known_none : number ≡ 1 → NoForm ≡ known_of number resolved
  unfolding known_of
  known_none h = yes! _ (omega tests) refl

  module _ (n : number ≡ 1 → ⊥) where
    pub known_whole : 5 < number → Whole ≡ known_of number resolved
    unfolding known_of
    known_whole h = no! _ (omega tests) (yes! _ (omega tests) refl)

    module _ (m : number ≤ 5) where
      pub known_resolved : resolved ≡ true → Resolved ≡ known_of number resolved
      unfolding known_of
      known_resolved h = no! _ (omega tests) (no! _ (omega tests) (yes! _ h refl))

      pub known_broken : resolved ≡ false → Broken ≡ known_of number resolved
      unfolding known_of
      known_broken h = no! _ (omega tests) (no! _ (omega tests) (no! _ h refl))

pub ruleset ways = (known_none, known_whole, known_resolved, known_broken, rules)

-- The laws of a loop end in any `T`, so a search tries them everywhere: it has its own set.
pub ruleset bytes_ways = (bytes_end, bytes_on, bytes_stop, rules)
