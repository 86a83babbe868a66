-- The number that each answer of a comparison is packed into.
use Rattle.std.specs.Prelude.{Result, Ok, Err, ℕ}
use mathlib.Core.Path.{◌≡◌, refl, ap, ◌∙◌}
use Prim.Native.Nat.{ℕ, ◌+◌, ◌*◌}
use borrow.Author.Rules.{rules}
use Rattle.rules.specs.Answer.{AnswerOf}
use Rattle.refusal.specs.declared.Refusal.{Refusal}
use Rattle.diff.specs.Meaning.{meaning}
use Rattle.ferhevok.specs.Packed.{packed_answer}

module _ (a : Result ℕ Refusal) where
  pub packs_listed : (n : ℕ) → a ≡ Ok n → n ≡ packed_answer (meaning a)
  unfolding meaning
  packs_listed n e = rw e

  pub packs_refusal : (r : Refusal) (n : ℕ) → a ≡ Err r → n ≡ r.number * 4294967296 + r.place → n ≡ packed_answer (meaning a)
  unfolding meaning
  packs_refusal r n e h = rw e h

pub ruleset lists = (packs_listed, packs_refusal, rules)

pub lists_ruled : (a : Result ℕ Refusal) (x : AnswerOf ℕ) (r : ℕ) → meaning a ≡ x → r ≡ packed_answer (meaning a) → r ≡ packed_answer x
lists_ruled a x r e h = h ∙ ap packed_answer e
