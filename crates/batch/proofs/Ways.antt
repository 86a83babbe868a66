-- Ways through a batch.
use Rattle.std.specs.Prelude.{Result}
use mathlib.Core.Path.{◌≡◌, refl, sym, ap, ◌∙◌, subst}
use mathlib.Core.Bool.{Bool, true, false}
use mathlib.Core.List.{List, [], ◌∷◌, ◌++◌, append-nil}
use native.Mathlib.Omega.{arith}
use native.Mathlib.Nat.{mul-le-mul_right, mul_comm, mul-one, div-add-mod', lt_trans, lt_of_le_of_lt}
use Prim.Native.Nat.{ℕ, ◌+◌, ◌*◌, ◌-◌, ◌/◌, ◌^◌, ◌≤◌, ◌<◌}
use mir.Syntax.{w8, w64}
use mir.Val.{Fits}
use lib.Dec.{leb, lit<}
use lib.ListN.{length, get_or, take, drop, length-drop, drop_of_length-le}
use lib.Seq.{sets, length-take-le, take_all}
use borrow.Author.Rules.{rules}
use Rattle.kit.proofs.Laws.{sets_seam}
use Rattle.rules.specs.Tools.{when◌then◌else◌}
use Rattle.rules.specs.Versions.{Setting}
use Rattle.rules.specs.Rows.{bytes}
use Rattle.rules.specs.Tree.{Scope}
use Rattle.rules.specs.Answer.{answer, output}
use Rattle.rules.specs.Laws.ToolLaws.{and_right, leb_le}
use Rattle.rules.proofs.Laws.InputLaws.{Usual}
use Rattle.limits.specs.Held.{setting}
use Rattle.batching.specs.Batch.{root_of, prelude_of, inside_answer, inside_output, member_answers, member_outputs, share_of, after_prelude, shares_after, batch_answer, batch_outputs}
use Rattle.batching.specs.BatchBytes.{cut, packed, answers_bytes, packed_batch, bad_members, few_bytes, Buffers, answers_after, bytes_answer, bytes_buffers}
use Rattle.batching.specs.BatchCalls.{room_with, batch_call, batch_leaves}
use Rattle.batching.proofs.Laws.BytesLaws.{cut_count, bad_members_lem, few_bytes_lem, good_count, answers_length, members_length, enough}
use Rattle.refusal.specs.declared.Refusal.{Refusal}
use Rattle.names.specs.Table.{Slot}
use Rattle.resolver.specs.Meaning.{numbers, Said, meaning, ruled}
use Rattle.resolver_with.proofs.Runs.{able_at}
use Rattle.resolver_with.specs.Areas.{lent_of, roomy}
use Rattle.resolver_with.specs.With.{Ran}
use Rattle.inside.specs.Areas.{SuitsIf}
use Rattle.inside.specs.Run.{RootIn, Resolves}
use Rattle.member.proofs.Prelude.{Resolved}
use Rattle.member.proofs.Ways.{packed_as, is_told, lent_ran, lent_left, lent_found}
use Rattle.batch.specs.Shares.{InFront, InShare, InShares}
use Rattle.batch.proofs.Turns.{next_share, outs_from, outs_start, outs_turn, outs_end, answers_from, answers_turn, answers_end}
use Rattle.refusal.specs.declared.Refused.{Refused}

-- ---- in_front

pub fronted : (one : Setting) (root form rest new : List ℕ) (share : ℕ) → share ≤ length rest → (a : Result ℕ Refused) → Resolves one root form (take share rest) new a
    → (s : Refusal) → numbers s.number s.place ≡ (meaning a).plain → (r : ℕ) → r ≡ s.number * 4294967296 + s.place
    → InFront one root form share rest (new ++ drop share rest) r
fronted one root form rest new share fits a resolves s told r e = λ t i.
    let h = resolves t i in
    let long = length-take-le share rest fits in (
      e ∙ (packed_as (inside_answer one (root_of t) form (length (take share rest))) s.number s.place (told ∙ ap (λ (x : Said). x.plain) h.0) ∙ ap (λ (n : ℕ). packed (inside_answer one (root_of t) form n)) long),
      ap (λ (l : List ℕ). l ++ drop share rest) h.1,
    )

-- ---- in_share

-- a share lies within the buffer
pub share_fits : (i count room share : ℕ) → i < count → share ≡ room / count → i * share + share ≤ room
share_fits i count room share h e =
    let a : (i + 1) * share ≤ count * share = mul-le-mul_right {m = i + 1} {n = count} share (omega arith) in
    let b : count * share ≤ room = rw e (omega (arith, div-add-mod' room count, mul_comm count (room / count))) in
    omega (arith, a, b, next_share i share)

pub start_low : (i count room share : ℕ) → i < count → share ≡ room / count → i * share ≤ room
start_low i count room share h e = let f = share_fits i count room share h e in omega (arith, f)

-- where it begins does not wrap, since the buffer does not
pub start_fits : (i count room share : ℕ) → i < count → share ≡ room / count → room * 1 < 2 ^ 63 → Fits w64 (i * share)
start_fits i count room share h e q =
    let low = start_low i count room share h e in
    let small : room < 2 ^ 63 = subst (λ (n : ℕ). n < 2 ^ 63) (mul-one room) q in
    record { fits = lt_trans (lt_of_le_of_lt low small) (lit< tt) }

pub room_left : (outs : List ℕ) (i count share : ℕ) → i < count → share ≡ length outs / count → share ≤ length (take (length outs - i * share) (drop (i * share) outs))
room_left outs i count share h e =
    let f = share_fits i count (length outs) share h e in
    let d = length-drop (i * share) outs in
    let l = length-take-le (length outs - i * share) (drop (i * share) outs) (omega (arith, d)) in
    omega (arith, f, l)

-- the rest of the buffer is lent from the share's start on, and comes back as `front`
pub shared : (one : Setting) (root members lengths outs front answers answers' form : List ℕ) (i share r : ℕ) → share ≡ length outs / length lengths → form ≡ get_or (cut lengths members) i []
    → InFront one root form share (take (length outs - i * share) (drop (i * share) outs)) front r → answers' ≡ sets answers (8 * i) (bytes 8 r)
    → InShare one root members lengths i outs (take (i * share) outs ++ (front ++ drop (length outs - i * share) (drop (i * share) outs))) answers answers'
shared one root members lengths outs front answers answers' form i share r e f fronts g = λ t h.
    let d = length-drop (i * share) outs in
    let whole : take (length outs - i * share) (drop (i * share) outs) ≡ drop (i * share) outs = take_all (length outs - i * share) (drop (i * share) outs) (omega (arith, d)) in
    let none_left : drop (length outs - i * share) (drop (i * share) outs) ≡ [] = drop_of_length-le (drop (i * share) outs) {i = length outs - i * share} (omega (arith, d)) in
    let q = rw whole at (fronts t h) in
    rw (← e, ← f) (
      ap (λ (l : List ℕ). take (i * share) outs ++ l) (ap (λ (l : List ℕ). front ++ l) none_left ∙ (append-nil front ∙ q.1)),
      g ∙ ap (λ (n : ℕ). sets answers (8 * i) (bytes 8 n)) q.0,
    )

pub ruleset shares = (start_low, start_fits, room_left, shared, rules)

-- ---- in_shares

-- every setting is usual
pub usual_at : (i : ℕ) → Usual (setting i)
usual_at i = (able_at i).usual

-- what is to be done from the i-th member on leaves what all of it leaves
abbrev pub Left : Setting → (root members lengths outs₀ answers₀ : List ℕ) (i : ℕ) (outs answers : List ℕ) → Type 0
Left one root members lengths outs₀ answers₀ i outs answers =
    let share = length outs₀ / length lengths in
    let forms = cut lengths members in
    (t : Scope) → RootIn one.version t root
    → (outs_from one (root_of t) share forms i outs ≡ member_outputs one (root_of t) share forms outs₀)
    × (answers_from one (root_of t) share forms i answers ≡ sets answers₀ 0 (answers_bytes (member_answers one (root_of t) share forms)))

module _ (one : Setting) (root members lengths outs₀ answers₀ : List ℕ) where
  pub left_start : Left one root members lengths outs₀ answers₀ 0 outs₀ answers₀
  left_start = λ t h. (outs_start one (root_of t) (length outs₀ / length lengths) (cut lengths members) outs₀, refl)

  module _ (i : ℕ) (outs answers : List ℕ) (left : Left one root members lengths outs₀ answers₀ i outs answers) (same : length outs ≡ length outs₀) where
    pub left_turn : Usual one → (outs' answers' : List ℕ) → i < length lengths → InShare one root members lengths i outs outs' answers answers' → Left one root members lengths outs₀ answers₀ (i + 1) outs' answers'
    left_turn usual outs' answers' h turn = λ t q.
        let forms = cut lengths members in
        let share = length outs₀ / length lengths in
        let there : i < length forms = rw cut_count h in
        let made = rw same at (turn t q) in
        let fits : i * share + share ≤ length outs = rw same (share_fits i (length lengths) (length outs₀) share h refl) in (
          outs_turn one (root_of t) share forms usual i outs _ outs' there fits refl made.0 ∙ (left t q).0,
          answers_turn one (root_of t) share forms i _ answers answers' there refl made.1 ∙ (left t q).1,
        )

    pub left_end : length lengths ≤ i → InShares one root members lengths outs₀ outs answers₀ answers
    left_end h = λ t q.
        let forms = cut lengths members in
        let share = length outs₀ / length lengths in
        let none_left : length forms ≤ i = rw cut_count h in (
          sym (outs_end one (root_of t) share forms i outs none_left) ∙ (left t q).0,
          sym (answers_end one (root_of t) share forms i answers none_left) ∙ (left t q).1,
        )

pub ruleset lefts = (left_start, left_turn, left_end, usual_at, rules)

-- ---- resolve_all

module _ (i : ℕ) (prelude area : List ℕ) (e n : List Slot) (k c m : List ℕ) (suits : SuitsIf i (length area) e n k c m) (said : Refusal) (a : Result ℕ Refused) (told : numbers said.number said.place ≡ (meaning a).plain)
    (area' : List ℕ) (ran : Ran (setting i) (roomy (setting i).version (lent_of e n k c m)) prelude area area' a) where
  abbrev one : Setting
  one = setting i

  ran_one : meaning a ≡ ruled (answer (one ∷ []) prelude (length area))
  ran_one = lent_ran i prelude area e n k c m suits said a told area' ran

  -- the prelude is refused
  module _ (h : said.number ≡ 0 → ⊥) (forms : List (List ℕ)) where
    pub told_batch : (room r : ℕ) → r ≡ said.number * 4294967296 + said.place → r ≡ packed_batch (after_prelude (prelude_of (one ∷ []) prelude (length area)) forms room)
    unfolding packed_batch after_prelude
    told_batch room r e = rw (is_told one prelude area said a told ran_one h).1 e

    pub told_shares : (old : List ℕ) → old ≡ shares_after (prelude_of (one ∷ []) prelude (length area)) forms old
    unfolding shares_after
    told_shares old = rw (is_told one prelude area said a told ran_one h).1

    pub told_bytes : (room : ℕ) (old : List ℕ) → old ≡ answers_after (after_prelude (prelude_of (one ∷ []) prelude (length area)) forms room) old
    unfolding answers_after after_prelude
    told_bytes room old = rw (is_told one prelude area said a told ran_one h).1

  -- it is accepted
  module _ (h : said.number ≡ 0) (all : (j : ℕ) → Fits w8 (get_or prelude j 0)) where
    there : Resolved one prelude area said.place
    there = lent_found i prelude area e n k c m suits said a told area' ran h all

    pub done_batch : (forms : List (List ℕ)) (room r : ℕ) → r ≡ said.number * 4294967296 + said.place → r ≡ packed_batch (after_prelude (prelude_of (one ∷ []) prelude (length area)) forms room)
    unfolding packed_batch after_prelude
    done_batch forms room r e = let rows : said.number * 4294967296 + said.place ≡ said.place = omega (arith, h) in rw there.is (e ∙ (rows ∙ there.count_is))

    module _ (members lengths root outs outs' answers answers' : List ℕ) (rows : root ≡ take (16 * said.place) (drop one.version.header area'))
        (all_done : InShares one root members lengths outs outs' answers answers') where
      inside : (outs' ≡ member_outputs one (root_of there.tree) (share_of (cut lengths members) (length outs)) (cut lengths members) outs)
          × (answers' ≡ sets answers 0 (answers_bytes (member_answers one (root_of there.tree) (share_of (cut lengths members) (length outs)) (cut lengths members))))
      unfolding share_of
      inside = rw cut_count (all_done there.tree (subst (RootIn one.version there.tree) (sym (rows ∙ ap (λ (o : List ℕ). take (16 * said.place) (drop one.version.header o)) (lent_left i prelude area e n k c m suits said a told area' ran))) there.root))

      pub done_shares : outs' ≡ shares_after (prelude_of (one ∷ []) prelude (length area)) (cut lengths members) outs
      unfolding shares_after
      done_shares = rw there.is inside.0

      pub done_bytes : 8 * length lengths ≤ length answers → answers' ≡ answers_after (after_prelude (prelude_of (one ∷ []) prelude (length area)) (cut lengths members) (length outs)) answers
      unfolding answers_after after_prelude
      done_bytes fits =
          let given = member_answers one (root_of there.tree) (share_of (cut lengths members) (length outs)) (cut lengths members) in
          let long : length (answers_bytes given) ≤ length answers =
          omega (arith, answers_length given, members_length one (root_of there.tree) (share_of (cut lengths members) (length outs)) (cut lengths members), cut_count lengths members) in
          rw there.is (inside.1 ∙ sets_seam [] answers (answers_bytes given) 0 refl long)

-- ---- batch

-- `bad` and `few` are what the code found of the members and of the answers' room
module _ (members lengths : List ℕ) (bad : Bool) (found-bad : bad ≡ bad_members lengths members) where
  pub few_members : bad ≡ false → length lengths ≤ 8
  few_members e = rw cut_count at (leb_le (length (cut lengths members)) 8 (and_right (leb 1 (length (cut lengths members))) (leb (length (cut lengths members)) 8) (good_count lengths members (sym found-bad ∙ e))))

  module _ (settings : List Setting) (prelude : List ℕ) (old : Buffers) (r : ℕ) where
    pub bad_answers : bad ≡ true → r ≡ 2 * 4294967296 → r ≡ batch_call settings false prelude members lengths old
    unfolding batch_call room_with packed_batch when◌then◌else◌
    bad_answers e q = rw (bad_members_lem settings prelude members lengths (sym found-bad ∙ e) (length old.prelude) (length old.outs) (length old.answers) old).0 (q ∙ (omega arith))

  pub bad_leaves : (settings : List Setting) (prelude : List ℕ) (old : Buffers) → bad ≡ true → old ≡ batch_leaves settings false prelude members lengths old
  unfolding batch_leaves when◌then◌else◌
  bad_leaves settings prelude old e = sym (bad_members_lem settings prelude members lengths (sym found-bad ∙ e) 0 0 0 old).1

  module _ (few : Bool) (room : ℕ) (found_few : few ≡ few_bytes lengths room) where
    pub room_enough : few ≡ false → 8 * length lengths ≤ room
    room_enough e = enough lengths room (sym found_few ∙ e)

    module _ (settings : List Setting) (prelude : List ℕ) (old : Buffers) (is_room : room ≡ length old.answers) where
      pub short_answers : (r : ℕ) → bad ≡ false → few ≡ true → r ≡ 3 * 4294967296 → r ≡ batch_call settings false prelude members lengths old
      unfolding batch_call room_with packed_batch when◌then◌else◌
      short_answers r e f q = rw (few_bytes_lem settings prelude members lengths (sym found-bad ∙ e) (length old.prelude) (length old.outs) old (ap (few_bytes lengths) (sym is_room) ∙ (sym found_few ∙ f))).0 (q ∙ (omega arith))

      pub short_leaves : bad ≡ false → few ≡ true → old ≡ batch_leaves settings false prelude members lengths old
      unfolding batch_leaves when◌then◌else◌
      short_leaves e f = sym (few_bytes_lem settings prelude members lengths (sym found-bad ∙ e) 0 0 old (ap (few_bytes lengths) (sym is_room) ∙ (sym found_few ∙ f))).1

      module _ (e : bad ≡ false) (f : few ≡ false) where
        good : bad_members lengths members ≡ false
        good = sym found-bad ∙ e

        room_there : few_bytes lengths (length old.answers) ≡ false
        room_there = ap (few_bytes lengths) (sym is_room) ∙ (sym found_few ∙ f)

        pub all_answers : (r : ℕ) → r ≡ packed_batch (after_prelude (prelude_of settings prelude (length old.prelude)) (cut lengths members) (length old.outs)) → r ≡ batch_call settings false prelude members lengths old
        unfolding batch_call room_with bytes_answer batch_answer when◌then◌else◌
        all_answers r q = rw (good, room_there, good_count lengths members good) q

        pub all_leaves : (new : Buffers) → new.prelude ≡ output settings prelude old.prelude → new.outs ≡ shares_after (prelude_of settings prelude (length old.prelude)) (cut lengths members) old.outs
            → new.answers ≡ answers_after (after_prelude (prelude_of settings prelude (length old.prelude)) (cut lengths members) (length old.outs)) old.answers
            → new ≡ batch_leaves settings false prelude members lengths old
        unfolding batch_leaves bytes_buffers batch_outputs batch_answer when◌then◌else◌
        all_leaves new p o a = rw (good, room_there, good_count lengths members good, ← p, ← o, ← a)

pub ruleset wholes = (few_members, room_enough, bad_answers, bad_leaves, short_answers, short_leaves, all_answers, all_leaves, rules)
