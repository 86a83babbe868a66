-- The ways through the code: a batch without room for its prelude leaves all as it was, and one that asks for a setting is of that setting alone.
use mathlib.Core.Path.{◌≡◌, refl, sym, ap, ◌∙◌, subst}
use mathlib.Core.Bool.{Bool, true, false, ◌||◌}
use mathlib.Core.List.{List, [], ◌∷◌, ◌++◌, append-nil}
use native.Mathlib.Omega.{arith}
use Prim.Native.Nat.{ℕ, ◌≤◌, ◌<◌}
use lib.ListN.{length, take, drop, drop_of_length-le}
use lib.Seq.{take_all, length-take-le}
use Rattle.rules.specs.Tools.{when◌then◌else◌, between}
use Rattle.rules.specs.Versions.{Setting, all}
use Rattle.rules.specs.Answer.{output, output_inside}
use Rattle.rules.proofs.Laws.InputLaws.{Usual}
use Rattle.read_form.proofs.Laws.OutputLength.{output_length}
use Rattle.batching.specs.Batch.{after_prelude, shares_after, batch_answer, batch_outputs}
use Rattle.batching.specs.BatchBytes.{cut, bad_members, few_bytes, Buffers, answers_after, bytes_answer, bytes_buffers}
use Rattle.batching.specs.BatchCalls.{room_with, batch_call, batch_leaves}
use Rattle.batching.proofs.Laws.CallLaws.{short_prelude}
use Rattle.limits.specs.Held.{setting}
use Rattle.names.specs.Table.{Slot}
use Rattle.resolver_with.specs.Asked.{asked}
use Rattle.resolver_with.specs.Areas.{lent_of}
use Rattle.resolver_with.proofs.Asked.{setting_asked}
use Rattle.resolver_with.proofs.Runs.{able_at}
use Rattle.member.proofs.Ways.{none_long}
use Rattle.member_with.specs.Areas.{is_small, Large}
use Rattle.member_with.proofs.Ways.{not_small}

-- ---- room_in

module _ (small : Bool) (room : ℕ) where
  pub room_none : small ≡ true → 0 ≡ room_with small room
  unfolding room_with when◌then◌else◌
  room_none e = rw e

  pub room_whole : small ≡ false → room ≡ room_with small room
  unfolding room_with when◌then◌else◌
  room_whole e = rw e

-- ---- a batch without room for its prelude

module _ (s : Setting) (usual : Usual s) (prelude members lengths outs answers : List ℕ) where
  abbrev none : Buffers
  none = record { prelude = []; outs = outs; answers = answers }

  no_output : output (s ∷ []) prelude [] ≡ []
  no_output = let l : length (output (s ∷ []) prelude []) ≡ 0 = unfold output in output_length [] (s ∷ []) (usual, tt) prelude [] in none_long (output (s ∷ []) prelude []) l

  none_left : bytes_buffers (s ∷ []) prelude members lengths none ≡ none
  unfolding bytes_buffers batch_outputs batch_answer shares_after answers_after after_prelude when◌then◌else◌
  none_left = go (bad_members lengths members || few_bytes lengths (length answers)) refl (between 1 8 (length (cut lengths members))) refl
    where
      go : (b : Bool) → (bad_members lengths members || few_bytes lengths (length answers)) ≡ b → (c : Bool) → between 1 8 (length (cut lengths members)) ≡ c → bytes_buffers (s ∷ []) prelude members lengths none ≡ none
      go true e c f = rw e
      go false e true f = rw (e, f, no_output, (short_prelude (s ∷ []) prelude).2)
      go false e false f = rw (e, f)

-- ---- batch_with

-- a batch is of the setting that its prelude asks for, whichever others are in force
asked_call : (prelude members lengths : List ℕ) (prelude_room room answers_room : ℕ) → bytes_answer all prelude members lengths prelude_room room answers_room ≡ bytes_answer (asked prelude ∷ []) prelude members lengths prelude_room room answers_room
unfolding bytes_answer batch_answer
asked_call prelude members lengths prelude_room room answers_room = rw (setting_asked prelude)

asked_leaves : (prelude members lengths : List ℕ) (old : Buffers) → bytes_buffers all prelude members lengths old ≡ bytes_buffers (asked prelude ∷ []) prelude members lengths old
unfolding bytes_buffers batch_outputs batch_answer output output_inside
asked_leaves prelude members lengths old = rw (setting_asked prelude)

module _ (i : ℕ) (prelude : List ℕ) (asks : setting i ≡ asked prelude) (resolved : List ℕ) (e n : List Slot) (k c m : List ℕ) (small : Bool) (tested : small ≡ is_small (setting i).version (lent_of e n k c m)) (room : ℕ)
    (is : room ≡ room_with small (length resolved)) (less : room ≤ length resolved) where
  front : length (take room resolved) ≡ room_with small (length resolved)
  front = length-take-le room resolved less ∙ is

  pub large_in : Large i (length (take room resolved)) (lent_of e n k c m)
  large_in h = sym tested ∙ not_small false small (length resolved) (subst (λ (x : ℕ). 0 < x) front h)

  tested_asked : small ≡ is_small (asked prelude).version (lent_of e n k c m)
  tested_asked = tested ∙ ap (λ (s : Setting). is_small s.version (lent_of e n k c m)) asks

  module _ (members lengths outs answers : List ℕ) where
    pub with_answers : (r : ℕ) → r ≡ batch_call (setting i ∷ []) false prelude members lengths (record { prelude = take room resolved; outs = outs; answers = answers })
        → r ≡ batch_call all (is_small (asked prelude).version (lent_of e n k c m)) prelude members lengths (record { prelude = resolved; outs = outs; answers = answers })
    unfolding batch_call room_with when◌then◌else◌
    with_answers r q = rw (asked_call prelude members lengths (room_with (is_small (asked prelude).version (lent_of e n k c m)) (length resolved)) (length outs) (length answers), ← asks, ← tested) (q ∙ rw front)

    leaves : (b : Bool) → room ≡ room_with b (length resolved) → (new : Buffers) → new ≡ batch_leaves (setting i ∷ []) false prelude members lengths (record { prelude = take room resolved; outs = outs; answers = answers })
        → record { prelude = new.prelude ++ drop room resolved; outs = new.outs; answers = new.answers } ≡ batch_leaves (setting i ∷ []) b prelude members lengths (record { prelude = resolved; outs = outs; answers = answers })
    unfolding batch_leaves room_with when◌then◌else◌
    leaves true is_none new q =
        let none-changed : new ≡ record { prelude = []; outs = outs; answers = answers } = rw (is_none, none_left (setting i) (able_at i).usual prelude members lengths outs answers) at q in
        rw is_none (ap (λ (b : Buffers). record { prelude = b.prelude ++ resolved; outs = b.outs; answers = b.answers }) none-changed)
    leaves false is_all new q =
        let all-of-it : take room resolved ≡ resolved = take_all room resolved (omega arith) in
        let none-of-it : drop room resolved ≡ [] = drop_of_length-le resolved {i = room} (omega arith) in
        rw (none-of-it, append-nil new.prelude) (rw all-of-it at q)

    pub with_leaves : (new : Buffers) → new ≡ batch_leaves (setting i ∷ []) false prelude members lengths (record { prelude = take room resolved; outs = outs; answers = answers })
        → record { prelude = new.prelude ++ drop room resolved; outs = new.outs; answers = new.answers } ≡ batch_leaves all (is_small (asked prelude).version (lent_of e n k c m)) prelude members lengths (record { prelude = resolved; outs = outs; answers = answers })
    unfolding batch_leaves
    with_leaves new q = rw (asked_leaves prelude members lengths (record { prelude = resolved; outs = outs; answers = answers }), ← asks, ← tested) (leaves small is new q)
