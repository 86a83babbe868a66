-- What is told besides: the ways through the code.
use Rattle.std.specs.Prelude.{Result, Ok, Err, ℕ}
use mathlib.Core.Path.{◌≡◌, refl, sym, ◌∙◌}
use mathlib.Core.Bool.{Bool, true, false}
use mathlib.Core.List.{List, [], ◌∷◌}
use native.Mathlib.Omega.{arith}
use Prim.Native.Nat.{ℕ, ◌+◌, ◌*◌, ◌≤◌, ◌<◌}
use borrow.Author.Rules.{rules}
use lib.Dec.{leb}
use lib.ListN.{length, set, drop}
use Rattle.kit.proofs.Laws.{tests}
use Rattle.rules.specs.Tools.{when◌then◌else◌}
use Rattle.rules.specs.Versions.{base}
use Rattle.rules.specs.Answer.{answer, output}
use Rattle.refusal.specs.declared.Refusal.{Refusal}
use Rattle.refusal.specs.declared.Told.{Told}
use Rattle.refusal.specs.Refusals.{tells}
use Rattle.resolver.specs.Meaning.{meaning, ruled}
use Rattle.ferhevok.specs.Packed.{packed}
use Rattle.ferhevok.specs.Telling.{answer_told, output_told, told_after}
use Rattle.refusal.specs.declared.Refused.{Refused}

-- ---- put_told

module _ (t : Told) (old : List ℕ) where
  pub told_not : length old < 2 → old ≡ told_after t old
  unfolding told_after when◌then◌else◌
  told_not h = let e : leb 2 (length old) ≡ false = omega tests in rw e

pub told_put : (old : List ℕ) (space first : ℕ) → 2 ≤ length old → set (set old 0 space) 1 first ≡ told_after (tells space first) old
unfolding told_after when◌then◌else◌
told_put [] space first h = absurd (omega arith)
told_put (a ∷ []) space first h = absurd (omega arith)
told_put (a ∷ b ∷ old) space first h = let e : leb 2 (length (a ∷ b ∷ old)) ≡ true = omega tests in rw e

-- ---- telling

module _ (a : Result ℕ Refused) (old new : List ℕ) where
  pub tells_accepted : (n : ℕ) → a ≡ Ok n → new ≡ told_after (tells 0 0) old → new ≡ told_after (meaning a).told old
  tells_accepted n e h = rw e h

  pub tells_refused : (r : Refusal) (t : Told) → a ≡ Err (record { refusal = r; told = t }) → new ≡ told_after (tells t.space t.first) old → new ≡ told_after (meaning a).told old
  tells_refused r t e h = rw e h

-- ---- wnt_resolve_told

module _ (form out told : List ℕ) (a : Result ℕ Refused) (r : ℕ) (said : r ≡ packed (meaning a).plain) where
  -- nothing can be told
  module _ (short : length told < 2) (q : meaning a ≡ ruled (answer base form 0)) where
    none : leb 2 (length told) ≡ false
    none = omega tests

    pub short_answer : r ≡ packed (ruled (answer_told form (length out) (length told))).plain
    unfolding answer_told when◌then◌else◌
    short_answer = rw none (rw q at said)

    pub short_told : (new : List ℕ) → new ≡ told_after (meaning a).told told → new ≡ told_after (ruled (answer_told form (length out) (length told))).told told
    unfolding answer_told when◌then◌else◌
    short_told new h = rw none (rw q at h)

  module _ (long : 2 ≤ length told) (q : meaning a ≡ ruled (answer base form (length out))) where
    both : leb 2 (length told) ≡ true
    both = omega tests

    pub long_answer : r ≡ packed (ruled (answer_told form (length out) (length told))).plain
    unfolding answer_told when◌then◌else◌
    long_answer = rw both (rw q at said)

    pub long_told : (new : List ℕ) → new ≡ told_after (meaning a).told told → new ≡ told_after (ruled (answer_told form (length out) (length told))).told told
    unfolding answer_told when◌then◌else◌
    long_told new h = rw both (rw q at h)

pub short_output : (form out told : List ℕ) → length told < 2 → out ≡ output_told form out (length told)
unfolding output_told when◌then◌else◌
short_output form out told h = let e : leb 2 (length told) ≡ false = omega tests in rw e

pub long_output : (form out new told : List ℕ) → 2 ≤ length told → new ≡ output base form out → new ≡ output_told form out (length told)
unfolding output_told when◌then◌else◌
long_output form out new told h q = let e : leb 2 (length told) ≡ true = omega tests in rw e q

pub ruleset tell_ways = (told_not, told_put, tells_accepted, tells_refused, rules)

pub ruleset told_ways = (short_answer, short_output, short_told, long_answer, long_output, long_told, rules)
