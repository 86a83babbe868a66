-- The calls of members answer the rules' answers, packed.
use mathlib.Core.Path.{◌≡◌, ◌∙◌}
use mathlib.Core.Bool.{Bool}
use mathlib.Core.List.{List}
use Prim.Native.Nat.{ℕ, ◌+◌, ◌*◌}
use borrow.Author.Rules.{rules}
use Rattle.rules.specs.Versions.{Setting}
use Rattle.batching.specs.Batch.{member_answer, member_output}
use Rattle.batching.specs.BatchCalls.{room_with, member_call, member_leaves}
use Rattle.refusal.specs.declared.Refusal.{Refusal}
use Rattle.resolver.specs.Meaning.{numbers, ruled}
use Rattle.member.proofs.Ways.{packed_as}

module _ (settings : List Setting) (prelude member out : List ℕ) (short : Bool) (area room : ℕ) where
  pub member_called : (said : Refusal) (r : ℕ) → numbers said.number said.place ≡ (ruled (member_answer settings prelude (room_with short area) member room)).plain → r ≡ said.number * 4294967296 + said.place → r ≡ member_call settings short prelude area member room
  unfolding member_call
  member_called said r e q = q ∙ packed_as (member_answer settings prelude (room_with short area) member room) said.number said.place e

  pub member_left : (new : List ℕ) → new ≡ member_output settings prelude (room_with short area) member out → new ≡ member_leaves settings short prelude area member out
  unfolding member_leaves
  member_left new e = e

pub ruleset members = (member_called, member_left, rules)
