-- Of every batch: its prelude is answered as if it were alone, and each member as if no other were there.
use Rattle.std.specs.Prelude.{◌≡◌, Bool, true, false, length, take, drop}
use Rattle.std.proofs.Math.Path.{refl, ap}
use Rattle.std.proofs.Common.{sym, ◌∙◌, zero-mul, suc-mul, mul_comm, div-add-mod', length-take-le, take_at, drop_at, drop-drop}
use Rattle.std.proofs.Math.Option.{Option, none, some}
use mathlib.Core.List.{List, [], ◌∷◌, ◌++◌}
use Prim.Native.Nat.{ℕ, zero, suc, ◌+◌, ◌*◌, ◌/◌, ◌≤◌}
use native.Mathlib.Omega.{arith}
use Rattle.std.proofs.Math.ListN.{get_elem?, length-append, length-drop}
use Rattle.std.proofs.Math.Seq.{drop-nil}
use Rattle.rules.specs.Tools.{when◌then◌else◌, between}
use Rattle.rules.specs.Versions.{Setting}
use Rattle.rules.specs.Rows.{Row}
use Rattle.rules.specs.Tree.{Scope, flatten}
use Rattle.rules.specs.Rules.{Env}
use Rattle.rules.specs.Answer
use Rattle.rules.specs.Answer.{AnswerOf, accepted, map_answer, Answer, setting_of, form_in, answer_inside, answer, output, output_inside}
use Rattle.batching.specs.Batch
use Rattle.batching.specs.Batch.{BatchAnswer, refused, done, Prelude, root_of, prelude_in, prelude_of, inside_answer, inside_output, member_after, member_writes, share_of, member_answers, member_outputs, after_prelude, shares_after, batch_answer, batch_outputs}
use Rattle.rules.specs.Laws.ToolLaws.{Ok}
use Rattle.rules.specs.Laws.Results.{some_same, no_option}
use Rattle.rules.proofs.Laws.InputLaws.{Usual, AllUsual, setting_usual}
use Rattle.read_form.proofs.Laws.OutputLength.{output_length}

-- ---- what a member gets, by the prelude, its own form and its share alone

-- its answer in a batch, if the prelude is not refused
abbrev pub in_batch : AnswerOf Prelude → (member : List ℕ) (share : ℕ) → Option Answer
in_batch (AnswerOf.refused number place carried) member share = none
in_batch (accepted p) member share = some (member_after (accepted p) member share)

-- ---- the parts of a batch

abbrev pub prelude_answer : BatchAnswer → Answer
prelude_answer (refused number place carried) = AnswerOf.refused number place carried
prelude_answer (done rows members) = accepted rows

abbrev pub members_answers : BatchAnswer → List Answer
members_answers (refused number place carried) = []
members_answers (done rows members) = members

-- the share number `i`
abbrev pub share_at : (i share : ℕ) → List ℕ → List ℕ
share_at i share buffer = take share (drop (i * share) buffer)

-- ---- a bad count of members

pub bad_count : (settings : List Setting) (prelude : List ℕ) (members : List (List ℕ)) → between 1 8 (length members) ≡ false
    → ((prelude_room room : ℕ) → batch_answer settings prelude members prelude_room room ≡ refused 2 0 [])
    × ((old_prelude old : List ℕ) → batch_outputs settings prelude members old_prelude old ≡ (old_prelude, old))
unfolding batch_answer batch_outputs when◌then◌else◌
bad_count settings prelude members e = (λ prelude_room room. rw e, λ old_prelude old. rw e)

-- ---- the prelude

-- its answer is its form's
pub prelude_answers : (o : Option Setting) (prelude : List ℕ) (members : List (List ℕ)) (prelude_room room : ℕ)
    → prelude_answer (after_prelude (prelude_in o prelude prelude_room) members room) ≡ Answer.answer_for [] o prelude prelude_room
unfolding after_prelude prelude_in Answer.answer_for Answer.answer_in map_answer
prelude_answers none prelude members prelude_room room = refl
prelude_answers (some s) prelude members prelude_room room = go (form_in [] s prelude prelude_room)
  where
    go : (m : AnswerOf Scope) → prelude_answer (after_prelude (map_answer (λ t. record { setting = s; resolved = t }) m) members room) ≡ map_answer flatten m
    go (AnswerOf.refused n p c) = refl
    go (accepted r) = refl

-- so it is refused where its form is
prelude_refused : (m : AnswerOf Prelude) (members : List (List ℕ)) (room n p : ℕ) (c : List ℕ) → prelude_answer (after_prelude m members room) ≡ AnswerOf.refused n p c → (old : List ℕ) → shares_after m members old ≡ old
unfolding after_prelude shares_after
prelude_refused (AnswerOf.refused n' p' c') members room n p c e old = refl
prelude_refused (accepted x) members room n p c e old = let z : ◌≡◌ {A = ℕ} 0 1 = cc in absurd (omega arith)

module _ (settings : List Setting) (prelude : List ℕ) (members : List (List ℕ)) (count : between 1 8 (length members) ≡ true) where
  -- The prelude is answered as if it were alone: the batch is refused exactly if it is, with its number and place.
  pub prelude_alone : (prelude_room room : ℕ) → prelude_answer (batch_answer settings prelude members prelude_room room) ≡ answer settings prelude prelude_room
  unfolding batch_answer answer answer_inside when◌then◌else◌
  prelude_alone prelude_room room = rw count (prelude_answers (setting_of settings prelude) prelude members prelude_room room)

  -- its buffer holds what it would hold then,
  pub prelude_output : (old_prelude old : List ℕ) → (batch_outputs settings prelude members old_prelude old).0 ≡ output settings prelude old_prelude
  unfolding batch_outputs when◌then◌else◌
  prelude_output old_prelude old = rw count

  -- and if it is refused, the members' buffer stays.
  pub refused_prelude : (old_prelude old : List ℕ) (n p : ℕ) (c : List ℕ) → answer settings prelude (length old_prelude) ≡ AnswerOf.refused n p c → (batch_outputs settings prelude members old_prelude old).1 ≡ old
  unfolding batch_outputs answer answer_inside when◌then◌else◌
  refused_prelude old_prelude old n p c e =
      rw count (prelude_refused (prelude_in (setting_of settings prelude) prelude (length old_prelude)) members 0 n p c
      (prelude_answers (setting_of settings prelude) prelude members (length old_prelude) 0 ∙ e) old)

-- ---- the members' answers

answers_at : (s : Setting) (root : Env) (share : ℕ) (members : List (List ℕ)) (i : ℕ) (m : List ℕ) → get_elem? members i ≡ some m
    → get_elem? (member_answers s root share members) i ≡ some (answer_inside (root ∷ []) (s ∷ []) m share)
unfolding member_answers
answers_at s root share [] i m e = no_option m e
answers_at s root share (x ∷ ms) zero m e = ap {B = Option Answer} (λ (y : List ℕ). some (answer_inside (root ∷ []) (s ∷ []) y share)) (some_same x m e)
answers_at s root share (x ∷ ms) (suc i) m e = answers_at s root share ms i m e

after_at : (r : AnswerOf Prelude) (members : List (List ℕ)) (room i : ℕ) (m : List ℕ) → get_elem? members i ≡ some m
    → get_elem? (members_answers (after_prelude r members room)) i ≡ in_batch r m (share_of members room)
unfolding after_prelude
after_at (AnswerOf.refused n p c) members room i m e = refl
after_at (accepted x) members room i m e = answers_at x.setting (root_of x.resolved) (share_of members room) members i m e

module _ (settings : List Setting) (prelude : List ℕ) (members : List (List ℕ)) (count : between 1 8 (length members) ≡ true) (i : ℕ) (m : List ℕ) (there : get_elem? members i ≡ some m) where
  -- A member's answer is a function of the prelude, the member's form and the length of its share.
  pub member_answer_lem : (prelude_room room : ℕ)
      → get_elem? (members_answers (batch_answer settings prelude members prelude_room room)) i ≡ in_batch (prelude_in (setting_of settings prelude) prelude prelude_room) m (share_of members room)
  unfolding batch_answer when◌then◌else◌
  member_answer_lem prelude_room room = rw count (after_at (prelude_in (setting_of settings prelude) prelude prelude_room) members room i m there)

-- ---- the members' shares

next_share : (i share : ℕ) → suc i * share ≡ share + i * share
next_share i share = omega (arith, suc-mul i share)

past_old : (share n : ℕ) (old : List ℕ) → drop (n * share) (drop share old) ≡ drop (suc n * share) old
past_old share n old = drop-drop (n * share) share old ∙ ap (λ (k : ℕ). drop k old) (sym (next_share n share))

fewer : (share n : ℕ) (old : List ℕ) → suc n * share ≤ length old → (share ≤ length old) × (n * share ≤ length (drop share old))
fewer share n old h = (omega (arith, next_share n share), omega (arith, next_share n share, length-drop share old))

-- each share is whole
pub share_whole : (share : ℕ) (members : List (List ℕ)) (i : ℕ) (m old : List ℕ) → get_elem? members i ≡ some m → length members * share ≤ length old → length (share_at i share old) ≡ share
share_whole share [] i m old e h = no_option m e
share_whole share (x ∷ ms) zero m old e h = rw (zero-mul share) (length-take-le share old (fewer share (length ms) old h).0)
share_whole share (x ∷ ms) (suc i) m old e h =
    ap (λ (l : List ℕ). length (take share l)) (sym (past_old share i old)) ∙ share_whole share ms i m (drop share old) e (fewer share (length ms) old h).1

module _ (s : Setting) (root : Env) (share : ℕ) (u : Usual s) where
  -- what one member makes of its share is as long as the share
  share_length : (m old : List ℕ) → share ≤ length old → length (output_inside (root ∷ []) (s ∷ []) m (take share old)) ≡ share
  share_length m old h = output_length (root ∷ []) (s ∷ []) (u, tt) m (take share old) ∙ length-take-le share old h

  -- past the share of the first
  past_first : (n : ℕ) (m old rest : List ℕ) → share ≤ length old
      → drop (suc n * share) (output_inside (root ∷ []) (s ∷ []) m (take share old) ++ rest) ≡ drop (n * share) rest
  past_first n m old rest h =
      let first = output_inside (root ∷ []) (s ∷ []) m (take share old) in
      ap (λ (k : ℕ). drop k (first ++ rest)) (next_share n share)
      ∙ (sym (drop-drop (n * share) share (first ++ rest)) ∙ ap (drop (n * share)) (drop_at first rest share (share_length m old h)))

  outputs_at : (members : List (List ℕ)) (i : ℕ) (m old : List ℕ) → get_elem? members i ≡ some m → length members * share ≤ length old
      → share_at i share (member_outputs s root share members old) ≡ output_inside (root ∷ []) (s ∷ []) m (share_at i share old)
  unfolding member_outputs
  outputs_at [] i m old e h = no_option m e
  outputs_at (x ∷ ms) zero m old e h =
      let f = fewer share (length ms) old h in
      rw (zero-mul share)
      (take_at (output_inside (root ∷ []) (s ∷ []) x (take share old)) _ share (share_length x old f.0)
      ∙ ap (λ (y : List ℕ). output_inside (root ∷ []) (s ∷ []) y (take share old)) (some_same x m e))
  outputs_at (x ∷ ms) (suc i) m old e h =
      let f = fewer share (length ms) old h in
      ap (take share) (past_first i x old _ f.0)
      ∙ (outputs_at ms i m (drop share old) e f.1 ∙ ap (λ (l : List ℕ). output_inside (root ∷ []) (s ∷ []) m (take share l)) (past_old share i old))

  -- bytes behind the last share stay
  outputs_rest : (members : List (List ℕ)) (old : List ℕ) → length members * share ≤ length old
      → drop (length members * share) (member_outputs s root share members old) ≡ drop (length members * share) old
  unfolding member_outputs
  outputs_rest [] old h = refl
  outputs_rest (x ∷ ms) old h =
      let f = fewer share (length ms) old h in
      past_first (length ms) x old _ f.0 ∙ (outputs_rest ms (drop share old) f.1 ∙ past_old share (length ms) old)

  outputs_length : (members : List (List ℕ)) (old : List ℕ) → length members * share ≤ length old → length (member_outputs s root share members old) ≡ length old
  unfolding member_outputs
  outputs_length [] old h = refl
  outputs_length (x ∷ ms) old h =
      let f = fewer share (length ms) old h in
      omega (
        arith,
        length-append (output_inside (root ∷ []) (s ∷ []) x (take share old)) (member_outputs s root share ms (drop share old)),
        share_length x old f.0,
        outputs_length ms (drop share old) f.1,
        length-drop share old,
        f.0,
      )

-- the shares lie within the buffer
pub shares_fit : (members : List (List ℕ)) (room : ℕ) → length members * share_of members room ≤ room
unfolding share_of
shares_fit members room = omega (arith, div-add-mod' room (length members), mul_comm (length members) (room / length members))

-- the setting of a prelude that is not refused is a usual one
abbrev UsualPrelude : AnswerOf Prelude → Type 0
UsualPrelude (AnswerOf.refused number place carried) = Unit {0}
UsualPrelude (accepted p) = Usual p.setting

prelude_usual : (o : Option Setting) (prelude : List ℕ) (room : ℕ) → Ok Usual o → UsualPrelude (prelude_in o prelude room)
unfolding prelude_in map_answer
prelude_usual none prelude room u = tt
prelude_usual (some s) prelude room u = go (form_in [] s prelude room)
  where
    go : (m : AnswerOf Scope) → UsualPrelude (map_answer (λ t. record { setting = s; resolved = t }) m)
    go (AnswerOf.refused n p c) = tt
    go (accepted t) = u

-- What one batch makes of the members' buffer: each member's share is what the member makes of it by itself, and the rest stays.
pub record Shares (r : AnswerOf Prelude) (members : List (List ℕ)) (old new : List ℕ) : Type 0 where
  pub own : (i : ℕ) (m : List ℕ) → get_elem? members i ≡ some m → share_at i (share_of members (length old)) new ≡ member_writes r m (share_at i (share_of members (length old)) old)
  pub rest : drop (length members * share_of members (length old)) new ≡ drop (length members * share_of members (length old)) old
  pub same_length : length new ≡ length old

shares_of : (r : AnswerOf Prelude) → UsualPrelude r → (members : List (List ℕ)) (old : List ℕ) → Shares r members old (shares_after r members old)
unfolding shares_after
shares_of (AnswerOf.refused n p c) u members old = record { own = λ i m e. refl; rest = refl; same_length = refl }
shares_of (accepted p) u members old =
    let share = share_of members (length old) in
    let fit = shares_fit members (length old) in
    record {
      own = λ i m e. outputs_at p.setting (root_of p.resolved) share u members i m old e fit;
      rest = outputs_rest p.setting (root_of p.resolved) share u members old fit;
      same_length = outputs_length p.setting (root_of p.resolved) share u members old fit;
    }

pub shares : (settings : List Setting) → AllUsual settings → (prelude : List ℕ) (members : List (List ℕ)) → between 1 8 (length members) ≡ true → (old_prelude old : List ℕ)
    → Shares (prelude_in (setting_of settings prelude) prelude (length old_prelude)) members old (batch_outputs settings prelude members old_prelude old).1
unfolding batch_outputs when◌then◌else◌
shares settings l prelude members count old_prelude old =
    rw count (shares_of (prelude_in (setting_of settings prelude) prelude (length old_prelude)) (prelude_usual (setting_of settings prelude) prelude (length old_prelude) (setting_usual settings prelude l)) members old)

-- ---- isolation

-- Two batches with one prelude: whatever the other members are, and wherever it stands among them, a member with a share of the same
-- length gets the same answer, and if its share held the same, then it holds the same.
module _ (settings : List Setting) (prelude : List ℕ) (members members' : List (List ℕ)) (count : between 1 8 (length members) ≡ true) (count' : between 1 8 (length members') ≡ true)
    (i j : ℕ) (m : List ℕ) (there : get_elem? members i ≡ some m) (there' : get_elem? members' j ≡ some m) where
  pub same_answer : (prelude_room room room' : ℕ) → share_of members room ≡ share_of members' room'
      → get_elem? (members_answers (batch_answer settings prelude members prelude_room room)) i ≡ get_elem? (members_answers (batch_answer settings prelude members' prelude_room room')) j
  same_answer prelude_room room room' e =
      member_answer_lem settings prelude members count i m there prelude_room room
      ∙ (ap (in_batch (prelude_in (setting_of settings prelude) prelude prelude_room) m) e ∙ sym (member_answer_lem settings prelude members' count' j m there' prelude_room room'))

  pub same_bytes : AllUsual settings → (old_prelude old old' : List ℕ) (share : ℕ) → share_of members (length old) ≡ share → share_of members' (length old') ≡ share
      → share_at i share old ≡ share_at j share old'
      → share_at i share (batch_outputs settings prelude members old_prelude old).1 ≡ share_at j share (batch_outputs settings prelude members' old_prelude old').1
  same_bytes l old_prelude old old' share e e' held =
      let r = prelude_in (setting_of settings prelude) prelude (length old_prelude) in
      let one : share_at i share (batch_outputs settings prelude members old_prelude old).1 ≡ member_writes r m (share_at i share old) = rw e at ((shares settings l prelude members count old_prelude old).own i m there) in
      let two : share_at j share (batch_outputs settings prelude members' old_prelude old').1 ≡ member_writes r m (share_at j share old') = rw e' at ((shares settings l prelude members' count' old_prelude old').own j m there') in
      one ∙ (ap (member_writes r m) held ∙ sym two)
