-- Of a batch in bytes: its members are cut apart whole, what is refused ahead of the prelude touches nothing, and each member's share and eight
-- bytes of answer depend on no other member.
use Rattle.std.specs.Prelude.{◌≡◌, refl, Bool, true, false, not, ◌||◌, ℕ, zero, suc, ◌+◌, ◌*◌, ◌≤◌, eqb, length, take, drop}
use Rattle.std.proofs.Common.{ap, ap₂, sym, ◌∙◌, arith, ltb-false, length-append, take-append-drop, length-drop, take_at, drop_at, drop-drop, take_all, length-take-le}
use Rattle.std.proofs.Math.Option.{Option, none, some}
use mathlib.Core.List.{List, [], ◌∷◌, ◌++◌, append_assoc}
use Rattle.std.proofs.Math.ListN.{get_elem?}
use Rattle.rules.specs.Tools.{when◌then◌else◌, between}
use Rattle.rules.specs.Versions.{Setting}
use Rattle.rules.specs.Rows.{bytes, Row}
use Rattle.rules.specs.Rules.{Env}
use Rattle.rules.specs.Answer.{AnswerOf, accepted, Answer, output}
use Rattle.batching.specs.Batch.{BatchAnswer, refused, done, Prelude, root_of, prelude_of, share_of, member_answers, member_answer, member_output, after_prelude, batch_answer, batch_outputs}
use Rattle.batching.specs.BatchBytes.{sum, cut, packed, answers_bytes, bad_members, few_bytes, Buffers, answers_after, bytes_answer, bytes_buffers}
use Rattle.rules.proofs.Laws.Output.OutBytes.{bytes_length}
use Rattle.rules.specs.Laws.ToolLaws.{false_not}
use Rattle.rules.specs.Laws.Results.{no_option, some_same}
use Rattle.rules.proofs.Laws.InputLaws.{AllUsual}
use Rattle.read_form.proofs.Laws.OutputLength.{output_length}
use Rattle.batching.proofs.Laws.BatchLaws.{members_answers, share_at, prelude_output, shares}
use Rattle.batching.proofs.Laws.MemberLaws.{as_alone, writes_as_alone}

-- ---- the members

pub cut_count : (lengths members : List ℕ) → length (cut lengths members) ≡ length lengths
unfolding cut
cut_count [] members = refl
cut_count (n ∷ ns) members = ap suc (cut_count ns (drop n members))

unfoldable pub joined : List (List ℕ) → List ℕ
joined [] = []
joined (m ∷ ms) = m ++ joined ms

-- No byte is left out, and each form is as long as is said.
pub cut_whole : (lengths members : List ℕ) → sum lengths ≡ length members → joined (cut lengths members) ≡ members
unfolding joined cut sum
cut_whole [] [] e = refl
cut_whole [] (b ∷ members) e = absurd (omega arith)
cut_whole (n ∷ ns) members e =
    let l = length-drop n members in
    ap (λ (r : List ℕ). take n members ++ r) (cut_whole ns (drop n members) (omega arith)) ∙ take-append-drop n members

pub cut_length : (lengths members : List ℕ) (i n : ℕ) (m : List ℕ) → sum lengths ≡ length members → get_elem? lengths i ≡ some n → get_elem? (cut lengths members) i ≡ some m → length m ≡ n
unfolding cut sum
cut_length [] members i n m e f g = no_option n f
cut_length (k ∷ ns) members zero n m e f g =
    ap length (sym (some_same (take k members) m g)) ∙ length-take-le k members (omega arith) ∙ some_same k n f
cut_length (k ∷ ns) members (suc i) n m e f g = let l = length-drop k members in cut_length ns (drop k members) i n m (omega arith) f g

-- ---- ahead of the prelude

module _ (settings : List Setting) (prelude members lengths : List ℕ) where
  pub bad_members_lem : bad_members lengths members ≡ true → (prelude_room room answers_room : ℕ) (old : Buffers)
      → (bytes_answer settings prelude members lengths prelude_room room answers_room ≡ refused 2 0 []) × (bytes_buffers settings prelude members lengths old ≡ old)
  unfolding bytes_answer bytes_buffers when◌then◌else◌
  bad_members_lem e prelude_room room answers_room old = (rw e, rw e)

  pub few_bytes_lem : bad_members lengths members ≡ false → (prelude_room room : ℕ) (old : Buffers) → few_bytes lengths (length old.answers) ≡ true
      → (bytes_answer settings prelude members lengths prelude_room room (length old.answers) ≡ refused 3 0 []) × (bytes_buffers settings prelude members lengths old ≡ old)
  unfolding bytes_answer bytes_buffers when◌then◌else◌
  few_bytes_lem e prelude_room room old f = (rw (e, f), rw (e, f))

-- ---- the answers

-- the eight bytes of a member
abbrev pub eight : (i : ℕ) → List ℕ → List ℕ
eight i l = take 8 (drop (8 * i) l)

-- one more behind the first
eight_on : (i : ℕ) (first rest : List ℕ) → length first ≡ 8 → eight (suc i) (first ++ rest) ≡ eight i rest
eight_on i first rest h =
    let n : 8 * suc i ≡ 8 + 8 * i = omega arith in
    rw n (ap (take 8) (sym (drop-drop (8 * i) 8 (first ++ rest)) ∙ ap (drop (8 * i)) (drop_at first rest 8 h)))

answers_eight : (answers : List Answer) (i : ℕ) (a : Answer) (rest : List ℕ) → get_elem? answers i ≡ some a → eight i (answers_bytes answers ++ rest) ≡ bytes 8 (packed a)
unfolding answers_bytes
answers_eight [] i a rest e = no_option a e
answers_eight (b ∷ answers) zero a rest e =
    let q = bytes_length 8 (packed b) in
    ap (take 8) (append_assoc (bytes 8 (packed b)) (answers_bytes answers) rest) ∙ take_at (bytes 8 (packed b)) (answers_bytes answers ++ rest) 8 q ∙ ap (λ (x : Answer). bytes 8 (packed x)) (some_same b a e)
answers_eight (b ∷ answers) (suc i) a rest e =
    ap (eight (suc i)) (append_assoc (bytes 8 (packed b)) (answers_bytes answers) rest)
    ∙ eight_on i (bytes 8 (packed b)) (answers_bytes answers ++ rest) (bytes_length 8 (packed b)) ∙ answers_eight answers i a rest e

-- ---- each member's part

-- what the eight bytes of a member hold: its answer, or what they held if the prelude is refused
abbrev pub eight_after : AnswerOf Prelude → Answer → (old : List ℕ) → List ℕ
eight_after (AnswerOf.refused number place carried) a old = old
eight_after (accepted p) a old = bytes 8 (packed a)

pub good_count : (lengths members : List ℕ) → bad_members lengths members ≡ false → between 1 8 (length (cut lengths members)) ≡ true
unfolding bad_members
good_count lengths members e = rw cut_count (go (between 1 8 (length lengths)) (not (eqb (sum lengths) (length members))) e)
  where
    go : (b c : Bool) → (not b || c) ≡ false → b ≡ true
    go true c e = refl
    go false c e = false_not (sym e)

answers_after_lem : (o : AnswerOf Prelude) (A : BatchAnswer) (i : ℕ) (a : Answer) (old : List ℕ)
    → ((n p : ℕ) (c : List ℕ) → o ≡ AnswerOf.refused n p c → A ≡ refused n p c) → ((p : Prelude) → o ≡ accepted p → (rows : List Row) × (answers : List Answer) × (A ≡ done rows answers) × (get_elem? answers i ≡ some a))
    → eight i (answers_after A old) ≡ eight_after o a (eight i old)
unfolding answers_after
answers_after_lem (AnswerOf.refused n p c) A i a old f g = rw (f n p c refl)
answers_after_lem (accepted q) A i a old f g =
    let G = g q refl in
    rw G.2 (answers_eight G.1 i a (drop (length (answers_bytes G.1)) old) G.3)

module _ (settings : List Setting) (usual : AllUsual settings) (prelude members lengths : List ℕ) (old : Buffers) (good : bad_members lengths members ≡ false) (room : few_bytes lengths (length old.answers) ≡ false)
    (i : ℕ) (m : List ℕ) (there : get_elem? (cut lengths members) i ≡ some m) where
  -- the length of a share
  abbrev pub share : ℕ
  share = share_of (cut lengths members) (length old.outs)

  count : between 1 8 (length (cut lengths members)) ≡ true
  count = good_count lengths members good

  -- A member's share holds what it would hold by itself,
  pub own_share : share_at i share (bytes_buffers settings prelude members lengths old).outs ≡ member_output settings prelude (length old.prelude) m (share_at i share old.outs)
  unfolding bytes_buffers when◌then◌else◌
  own_share = rw (good, room) (writes_as_alone settings prelude (cut lengths members) count i m there usual old.prelude old.outs)

  batch_refused : (n p : ℕ) (c : List ℕ) → prelude_of settings prelude (length old.prelude) ≡ AnswerOf.refused n p c → batch_answer settings prelude (cut lengths members) (length old.prelude) (length old.outs) ≡ refused n p c
  unfolding batch_answer after_prelude when◌then◌else◌
  batch_refused n p c e = rw (count, e)

  batch_done : (q : Prelude) → prelude_of settings prelude (length old.prelude) ≡ accepted q
      → (rows : List Row) × (answers : List Answer) × (batch_answer settings prelude (cut lengths members) (length old.prelude) (length old.outs) ≡ done rows answers)
      × (get_elem? answers i ≡ some (member_answer settings prelude (length old.prelude) m share))
  batch_done q e = go (batch_answer settings prelude (cut lengths members) (length old.prelude) (length old.outs)) refl
    where
      alone : get_elem? (members_answers (batch_answer settings prelude (cut lengths members) (length old.prelude) (length old.outs))) i ≡ some (member_answer settings prelude (length old.prelude) m share)
      alone = as_alone settings prelude (cut lengths members) count i m there (length old.prelude) (length old.outs) q e

      go : (A : BatchAnswer) → batch_answer settings prelude (cut lengths members) (length old.prelude) (length old.outs) ≡ A
          → (rows : List Row) × (answers : List Answer) × (batch_answer settings prelude (cut lengths members) (length old.prelude) (length old.outs) ≡ done rows answers)
          × (get_elem? answers i ≡ some (member_answer settings prelude (length old.prelude) m share))
      go (refused n p c) f = no_option (member_answer settings prelude (length old.prelude) m share) (ap (λ (A : BatchAnswer). get_elem? (members_answers A) i) (sym f) ∙ alone)
      go (done rows answers) f = (rows, answers, f, ap (λ (A : BatchAnswer). get_elem? (members_answers A) i) (sym f) ∙ alone)

  -- and its eight bytes the answer that it would get.
  pub own_answer : eight i (bytes_buffers settings prelude members lengths old).answers
      ≡ eight_after (prelude_of settings prelude (length old.prelude)) (member_answer settings prelude (length old.prelude) m share) (eight i old.answers)
  unfolding bytes_buffers when◌then◌else◌
  own_answer =
      rw (good, room)
      (answers_after_lem (prelude_of settings prelude (length old.prelude)) _ i (member_answer settings prelude (length old.prelude) m share) old.answers batch_refused batch_done)

-- ---- the buffers keep their lengths

pub answers_length : (answers : List Answer) → length (answers_bytes answers) ≡ 8 * length answers
unfolding answers_bytes
answers_length [] = refl
answers_length (a ∷ answers) = omega (arith, length-append (bytes 8 (packed a)) (answers_bytes answers), bytes_length 8 (packed a), answers_length answers)

pub members_length : (s : Setting) (root : Env) (share : ℕ) (members : List (List ℕ)) → length (member_answers s root share members) ≡ length members
unfolding member_answers
members_length s root share [] = refl
members_length s root share (m ∷ ms) = ap suc (members_length s root share ms)

after_length : (o : AnswerOf Prelude) (members : List (List ℕ)) (room : ℕ) (old : List ℕ) → 8 * length members ≤ length old → length (answers_after (after_prelude o members room) old) ≡ length old
unfolding answers_after after_prelude
after_length (AnswerOf.refused n p c) members room old h = refl
after_length (accepted q) members room old h =
    let given = member_answers q.setting (root_of q.resolved) (share_of members room) members in
    omega (arith, length-append (answers_bytes given) (drop (length (answers_bytes given)) old), length-drop (length (answers_bytes given)) old, answers_length given, members_length q.setting (root_of q.resolved) (share_of members room) members)

pub enough : (lengths : List ℕ) (room : ℕ) → few_bytes lengths room ≡ false → 8 * length lengths ≤ room
unfolding few_bytes
enough lengths room e = ltb-false room (8 * length lengths) e

answers_kept : (settings : List Setting) (prelude : List ℕ) (members : List (List ℕ)) → between 1 8 (length members) ≡ true → (old_prelude outs old : List ℕ) → 8 * length members ≤ length old
    → length (answers_after (batch_answer settings prelude members (length old_prelude) (length outs)) old) ≡ length old
unfolding batch_answer when◌then◌else◌
answers_kept settings prelude members count old_prelude outs old h = rw count (after_length (prelude_of settings prelude (length old_prelude)) members (length outs) old h)

pub record Kept (old new : Buffers) : Type 0 where
  pub prelude : length new.prelude ≡ length old.prelude
  pub outs : length new.outs ≡ length old.outs
  pub answers : length new.answers ≡ length old.answers

pub buffers_kept : (settings : List Setting) → AllUsual settings → (prelude members lengths : List ℕ) (old : Buffers) → Kept old (bytes_buffers settings prelude members lengths old)
unfolding bytes_buffers when◌then◌else◌
buffers_kept settings u prelude members lengths old = go (bad_members lengths members) (few_bytes lengths (length old.answers)) refl refl
  where
    ms : List (List ℕ)
    ms = cut lengths members

    new : Buffers
    new = let outs = batch_outputs settings prelude ms old.prelude old.outs in
        record { prelude = outs.0; outs = outs.1; answers = answers_after (batch_answer settings prelude ms (length old.prelude) (length old.outs)) old.answers }

    answered : bad_members lengths members ≡ false → few_bytes lengths (length old.answers) ≡ false → length new.answers ≡ length old.answers
    answered g r =
        let n : 8 * length ms ≤ length old.answers = rw cut_count (enough lengths (length old.answers) r) in
        answers_kept settings prelude ms (good_count lengths members g) old.prelude old.outs old.answers n

    go : (b c : Bool) → bad_members lengths members ≡ b → few_bytes lengths (length old.answers) ≡ c → Kept old (when b || c then old else new)
    go true c e f = record { prelude = refl; outs = refl; answers = refl }
    go false true e f = record { prelude = refl; outs = refl; answers = refl }
    go false false e f =
        let count = good_count lengths members e in
        record {
          prelude = ap length (prelude_output settings prelude ms count old.prelude old.outs) ∙ (unfold output in output_length [] settings u prelude old.prelude);
          outs = (shares settings u prelude ms count old.prelude old.outs).same_length;
          answers = answered e f;
        }

-- ---- isolation

-- TWO BATCHES WITH ONE PRELUDE, in buffers of one length: whatever the other members are, and wherever it stands among them, a member whose
-- shares are as long gets the same bytes and the same answer, if its share and its eight bytes held the same.
pub isolated : (settings : List Setting) → AllUsual settings → (prelude members lengths members' lengths' : List ℕ) (old old' : Buffers)
    → bad_members lengths members ≡ false → bad_members lengths' members' ≡ false → few_bytes lengths (length old.answers) ≡ false → few_bytes lengths' (length old'.answers) ≡ false
    → length old.prelude ≡ length old'.prelude
    → (i j : ℕ) (m : List ℕ) → get_elem? (cut lengths members) i ≡ some m → get_elem? (cut lengths' members') j ≡ some m
    → (share : ℕ) → share_of (cut lengths members) (length old.outs) ≡ share → share_of (cut lengths' members') (length old'.outs) ≡ share
    → share_at i share old.outs ≡ share_at j share old'.outs → eight i old.answers ≡ eight j old'.answers
    → (share_at i share (bytes_buffers settings prelude members lengths old).outs ≡ share_at j share (bytes_buffers settings prelude members' lengths' old').outs)
    × (eight i (bytes_buffers settings prelude members lengths old).answers ≡ eight j (bytes_buffers settings prelude members' lengths' old').answers)
isolated settings u prelude members lengths members' lengths' old old' g g' r r' same i j m t t' share e e' held answers =
    let a = rw e at (own_share settings u prelude members lengths old g r i m t) in
    let a' = rw e' at (own_share settings u prelude members' lengths' old' g' r' j m t') in
    let b = rw e at (own_answer settings u prelude members lengths old g r i m t) in
    let b' = rw e' at (own_answer settings u prelude members' lengths' old' g' r' j m t') in (
      a ∙ (rw (same, held) (sym a')),
      b ∙ (rw (same, answers) (sym b')),
    )
