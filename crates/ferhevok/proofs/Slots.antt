-- The number that each answer to a binding sheet is packed into.
use Rattle.std.specs.Prelude.{Result, Ok, Err, ℕ}
use mathlib.Core.Path.{◌≡◌}
use native.Mathlib.Omega.{arith}
use Prim.Native.Nat.{ℕ, ◌+◌, ◌*◌}
use borrow.Author.Rules.{rules}
use Rattle.refusal.specs.declared.Refusal.{Refusal}
use Rattle.binding.specs.Sheet.{SheetAnswer}
use Rattle.sheet.specs.Meaning.{meaning, ruled}
use Rattle.ferhevok.specs.Packed.{packed}

module _ (a : Result ℕ Refusal) where
  pub packs_answered : (n : ℕ) → a ≡ Ok n → n ≡ packed (meaning a)
  packs_answered n e = rw e (omega arith)

  pub packs_unanswered : (r : Refusal) (n : ℕ) → a ≡ Err r → n ≡ r.number * 4294967296 + r.place → n ≡ packed (meaning a)
  packs_unanswered r n e h = rw e h

pub ruleset packs_slots = (packs_answered, packs_unanswered, rules)

pub packs_sheet : (a : Result ℕ Refusal) (x : SheetAnswer) (r : ℕ) → meaning a ≡ ruled x → r ≡ packed (meaning a) → r ≡ packed (ruled x)
packs_sheet a x r e h = rw e at h
