-- The ways through what is below the run: bytes compared, rows counted, the working area zeroed.
use Rattle.std.specs.Prelude.{Result, Ok, Err}
use mathlib.Core.Path.{◌≡◌, refl, ◌∙◌}
use mathlib.Core.Bool.{Bool, true, false}
use mathlib.Core.List.{List}
use native.Mathlib.Omega.{arith}
use native.Mathlib.Nat.{sub-zero}
use Prim.Native.Nat.{ℕ, ◌+◌, ◌-◌, ◌≤◌, ◌<◌}
use borrow.Author.Rules.{rules}
use lib.Dec.{eqb}
use lib.ListN.{length, get_or, take, drop, replicate, drop_of_length-le}
use Rattle.kit.proofs.Laws.{tests, left_suc, drop_next, yes!, no! }
use Rattle.rules.specs.Answer.{same_numbers}
use Rattle.stores.specs.Zeros.{zero_from}
use Rattle.resolver.specs.Meaning.{meaning}
use Rattle.sheet.specs.Run.{rows_written}
use Rattle.refusal.specs.declared.Refused.{Refused}

-- ---- bytes compared, from the i-th on

pub begins_start : (bytes area : List ℕ) → same_numbers (drop 0 bytes) (take (length bytes - 0) (drop 0 area)) ≡ same_numbers bytes (take (length bytes) area)
begins_start bytes area = rw sub-zero

module _ (bytes area : List ℕ) (i : ℕ) (T : Bool) (inv : same_numbers (drop i bytes) (take (length bytes - i) (drop i area)) ≡ T) where
  pub begins_end : length bytes ≤ i → true ≡ T
  unfolding same_numbers
  begins_end h = let z : length bytes - i ≡ 0 = omega arith in rw (drop_of_length-le bytes h, z) at inv

  module _ (h : i < length bytes) where
    pub begins_short : length area ≤ i → false ≡ T
    unfolding same_numbers
    begins_short f = rw (drop_next bytes i 0 h, drop_of_length-le area f, left_suc i (length bytes) h) at inv

    module _ (f : i < length area) where
      pub begins_not : (get_or bytes i 0 ≡ get_or area i 0 → ⊥) → false ≡ T
      unfolding same_numbers
      begins_not e = let t : eqb (get_or bytes i 0) (get_or area i 0) ≡ false = omega tests in rw (drop_next bytes i 0 h, drop_next area i 0 f, left_suc i (length bytes) h, t) at inv

      pub begins_on : get_or bytes i 0 ≡ get_or area i 0 → same_numbers (drop (i + 1) bytes) (take (length bytes - (i + 1)) (drop (i + 1) area)) ≡ T
      unfolding same_numbers
      begins_on e = let t : eqb (get_or bytes i 0) (get_or area i 0) ≡ true = omega tests in rw (drop_next bytes i 0 h, drop_next area i 0 f, left_suc i (length bytes) h, t) at inv

-- ---- rows that were written

module _ (a : Result ℕ Refused) where
  pub rows_accepted : (rows : ℕ) → a ≡ Ok rows → rows ≡ rows_written (meaning a).plain
  unfolding rows_written
  rows_accepted rows q = rw q (yes! _ refl refl)

  module _ (r : Refused) (q : a ≡ Err r) where
    pub rows_placed : r.refusal.number ≡ 0 → r.refusal.place ≡ rows_written (meaning a).plain
    unfolding rows_written
    rows_placed h = let t : eqb r.refusal.number 0 ≡ true = omega tests in rw q (yes! _ t refl)

    pub rows_refused : (r.refusal.number ≡ 0 → ⊥) → 0 ≡ rows_written (meaning a).plain
    unfolding rows_written
    rows_refused h = let t : eqb r.refusal.number 0 ≡ false = omega tests in rw q (no! _ t refl)

-- ---- zeros

pub all_zero : (l m o : List ℕ) → length l ≡ length o → m ≡ zero_from l 0 → m ≡ replicate (length o) 0
unfolding zero_from
all_zero l m o e h = h ∙ rw (sub-zero, e)

pub ruleset ways = (begins_start, begins_end, begins_short, begins_not, begins_on, rows_accepted, rows_placed, rows_refused, all_zero, rules)
