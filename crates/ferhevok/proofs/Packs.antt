-- The number that each answer is packed into.
use Rattle.std.specs.Prelude.{Result, Ok, Err, ℕ}
use mathlib.Core.Path.{◌≡◌}
use native.Mathlib.Omega.{arith}
use Prim.Native.Nat.{ℕ, ◌+◌, ◌*◌}
use borrow.Author.Rules.{rules}
use Rattle.rules.specs.Answer.{Answer as Ruled}
use Rattle.refusal.specs.declared.Refusal.{Refusal}
use Rattle.refusal.specs.declared.Told.{Told}
use Rattle.resolver.specs.Meaning.{Said, meaning, ruled}
use Rattle.mending.specs.Mend.{Mending}
use Rattle.mend.specs.Meaning as mending
use Rattle.moving.specs.MovedAnswer.{MovedAnswer}
use Rattle.moved_list.specs.declared.Listed.{Listed}
use Rattle.moved.specs.Meaning as moved
use Rattle.ferhevok.specs.Packed.{packed, packed_mending}
use Rattle.refusal.specs.declared.Refused.{Refused}

module _ (a : Result ℕ Refused) where
  pub packs_accepted : (n : ℕ) → a ≡ Ok n → n ≡ packed (meaning a).plain
  packs_accepted n e = rw e (omega arith)

  pub packs_refused : (r : Refusal) (t : Told) (n : ℕ) → a ≡ Err (record { refusal = r; told = t }) → n ≡ r.number * 4294967296 + r.place → n ≡ packed (meaning a).plain
  packs_refused r t n e h = rw e h

pub ruleset packs = (packs_accepted, packs_refused, rules)

pub packs_ruled : (a : Result ℕ Refused) (x : Ruled) (r : ℕ) → meaning a ≡ ruled x → r ≡ packed (meaning a).plain → r ≡ packed (ruled x).plain
packs_ruled a x r e h = rw e at h

-- of the way back
pub packs_back : (a : Result ℕ Refused) (n : Said) (r : ℕ) → meaning a ≡ n → r ≡ packed (meaning a).plain → r ≡ packed n.plain
packs_back a n r e h = rw e at h

-- ---- of a mending

module _ (a : Result ℕ Refusal) where
  pub packs_mended : (n : ℕ) → a ≡ Ok n → n ≡ packed_mending (mending.meaning a)
  packs_mended n e = rw e (omega arith)

  pub packs_unmended : (r : Refusal) (n : ℕ) → a ≡ Err r → n ≡ r.number * 4294967296 + r.place → n ≡ packed_mending (mending.meaning a)
  packs_unmended r n e h = rw e h

pub ruleset packs_mending = (packs_mended, packs_unmended, rules)

pub packs_mend : (a : Result ℕ Refusal) (x : Mending) (r : ℕ) → mending.meaning a ≡ mending.ruled x → r ≡ packed_mending (mending.meaning a) → r ≡ packed_mending (mending.ruled x)
packs_mend a x r e h = rw e at h

-- ---- of moved numbers

module _ (a : Result Listed Refusal) where
  pub packs_listed : (n : Listed) (r : ℕ) → a ≡ Ok n → r ≡ n.apart * 65536 + n.moved → r ≡ packed (moved.meaning a)
  packs_listed n r e h = rw e (omega (arith, h))

  pub packs_unlisted : (r : Refusal) (n : ℕ) → a ≡ Err r → n ≡ r.number * 4294967296 + r.place → n ≡ packed (moved.meaning a)
  packs_unlisted r n e h = rw e h

pub ruleset packs_lists = (packs_listed, packs_unlisted, rules)

pub packs_moved : (a : Result Listed Refusal) (x : MovedAnswer) (r : ℕ) → moved.meaning a ≡ moved.ruled x → r ≡ packed (moved.meaning a) → r ≡ packed (moved.ruled x)
packs_moved a x r e h = rw e at h
