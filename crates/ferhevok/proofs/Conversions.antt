-- The number that each answer of a conversion is packed into.
use Rattle.std.specs.Prelude.{Result, Ok, Err, ℕ}
use mathlib.Core.Path.{◌≡◌, refl, ap, ◌∙◌}
use Prim.Native.Nat.{ℕ, ◌+◌, ◌*◌}
use borrow.Author.Rules.{rules}
use Rattle.rules.specs.Answer.{AnswerOf}
use Rattle.refusal.specs.declared.Refusal.{Refusal}
use Rattle.convert.specs.Meaning.{meaning}
use Rattle.ferhevok.specs.Packed.{packed_answer}

module _ (a : Result ℕ Refusal) where
  pub packs_rows : (n : ℕ) → a ≡ Ok n → n ≡ packed_answer (meaning a)
  unfolding meaning
  packs_rows n e = rw e

  pub packs_why : (r : Refusal) (n : ℕ) → a ≡ Err r → n ≡ r.number * 4294967296 + r.place → n ≡ packed_answer (meaning a)
  unfolding meaning
  packs_why r n e h = rw e h

pub ruleset rows = (packs_rows, packs_why, rules)

pub rows_ruled : (a : Result ℕ Refusal) (x : AnswerOf ℕ) (r : ℕ) → meaning a ≡ x → r ≡ packed_answer (meaning a) → r ≡ packed_answer x
rows_ruled a x r e h = h ∙ ap packed_answer e
