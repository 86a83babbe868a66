-- The number that each verdict is packed into.
use Rattle.std.specs.Prelude.{Result, Ok, Err}
use mathlib.Core.Path.{◌≡◌, refl, ap, ◌∙◌}
use Prim.Native.Nat.{ℕ, ◌+◌, ◌*◌}
use borrow.Author.Rules.{rules}
use Rattle.refusal.specs.declared.Refusal.{Refusal}
use Rattle.checking.specs.Check.{Verdict as Ruled}
use Rattle.claim_check.specs.Meaning.{meaning, ruled}
use Rattle.claim_check.specs.declared.Verdict.TheVariants.{Yes, No}
use Rattle.ferhevok.specs.Packed.{packed_verdict}
use Rattle.claim_check.specs.declared.Verdict.{Verdict}

module _ (v : Result Verdict Refusal) where
  pub packs_yes : v ≡ Ok Yes → 0 ≡ packed_verdict (meaning v)
  packs_yes e = rw e

  pub packs_no : (condition row n : ℕ) → v ≡ Ok (No condition row) → n ≡ (100 + condition) * 4294967296 + row → n ≡ packed_verdict (meaning v)
  packs_no condition row n e h = rw e h

  pub packs_refusal : (r : Refusal) (n : ℕ) → v ≡ Err r → n ≡ r.number * 4294967296 + r.place → n ≡ packed_verdict (meaning v)
  packs_refusal r n e h = rw e h

pub ruleset verdicts = (packs_yes, packs_no, packs_refusal, rules)

pub packs_verdict : (v : Result Verdict Refusal) (x : Ruled) (r : ℕ) → meaning v ≡ ruled x → r ≡ packed_verdict (meaning v) → r ≡ packed_verdict (ruled x)
packs_verdict v x r e h = rw e at h
