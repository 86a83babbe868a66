-- Of the two calls: a working area that is too small is refused with 3 behind the prelude's header and length, and nothing changes; a batch gives
-- each member what a call for it alone would give; and a member's part does not depend on the other members.
use Rattle.std.specs.Prelude.{◌≡◌, refl, Bool, true, false, not, ◌||◌, List, [], ℕ, ◌+◌, ◌*◌, ◌≤◌, eqb, leb, ltb, length, take, drop, replicate}
use Rattle.std.proofs.Math.Path.{ap, sym}
use Rattle.std.proofs.Common.{◌∙◌, arith, length-append, take-append-drop, lt-ltb}
use Rattle.std.proofs.Math.Option.{Option, none, some}
use Rattle.std.proofs.Math.ListN.{get_elem?}
use Rattle.std.proofs.lemmas.List.{length-replicate}
use Rattle.rules.specs.Tools.{when◌then◌else◌, between}
use Rattle.rules.specs.Versions.{Setting}
use Rattle.rules.specs.Rows.{bytes}
use Rattle.rules.specs.Reader.{read}
use Rattle.rules.specs.Answer.{AnswerOf, accepted, map_answer, Answer, setting_of, row_count, rows_in, scopes_left, after_reading, form_in}
use Rattle.rules.specs.Laws.ToolLaws.{and_left, leb_le}
use Rattle.rules.proofs.Laws.InputLaws.{AllUsual}
use Rattle.batching.specs.Batch.{Prelude, prelude_in, prelude_of, share_of, member_answer, member_output}
use Rattle.batching.specs.BatchBytes.{cut, packed, bad_members, few_bytes, Buffers}
use Rattle.clearing.specs.Cleared.{cleared}
use Rattle.batching.specs.BatchCalls.{room_with, member_call, member_leaves, batch_leaves}
use Rattle.batching.proofs.Laws.BatchLaws.{share_at}
use Rattle.batching.proofs.Laws.MemberLaws.{enough_work}
use Rattle.batching.proofs.Laws.BytesLaws.{eight, eight_after, own_share, own_answer, isolated}

-- ---- working areas

-- an area keeps its length
pub cleared_length : {A : Type 0} (zero : A) (size : ℕ) (old : List A) → length (cleared zero size old) ≡ length old
unfolding cleared
cleared_length zero size old =
    let n = length-append (replicate (length (take size old)) zero) (drop size old) in
    let m = length-replicate (length (take size old)) zero in
    let k = sym (length-append (take size old) (drop size old)) ∙ ap length (take-append-drop size old) in
    omega (arith, n, m, k)

-- without room a prelude is refused with 1, 2 or 3, at place 0
short_form : (s : Setting) (prelude : List ℕ) → (n : ℕ) × (n ≤ 3) × (form_in [] s prelude 0 ≡ AnswerOf.refused n 0 [])
unfolding form_in when◌then◌else◌
short_form s prelude = go (between 1 s.version.rows rows) (not (eqb (length prelude) (s.version.header + 16 * rows))) refl
  where
    rows : ℕ
    rows = row_count s.version prelude

    go : (b c : Bool) → between 1 s.version.rows rows ≡ b
        → (n : ℕ) × (n ≤ 3) × ((when not b || c then AnswerOf.refused 2 0 [] else when ltb 0 (s.version.header + 64 * rows) then AnswerOf.refused 3 0 [] else after_reading [] s.rules (read s.rules (scopes_left s.version.scopes []) (rows_in s prelude))) ≡ AnswerOf.refused n 0 [])
    go false c e = (2, omega arith, refl)
    go true true e = (2, omega arith, refl)
    go true false e =
        let some_rows = leb_le 1 rows (and_left (leb 1 rows) (leb rows s.version.rows) e) in
        (3, omega arith, rw (lt-ltb 0 (s.version.header + 64 * rows) (omega (arith, some_rows))))

pub short_prelude : (settings : List Setting) (prelude : List ℕ) → (n : ℕ) × (n ≤ 3) × (prelude_of settings prelude 0 ≡ AnswerOf.refused n 0 [])
unfolding prelude_in map_answer
short_prelude settings prelude = go (setting_of settings prelude)
  where
    go : (o : Option Setting) → (n : ℕ) × (n ≤ 3) × (prelude_in o prelude 0 ≡ AnswerOf.refused n 0 [])
    go none = (1, omega arith, refl)
    go (some s) = let F = short_form s prelude in (F.0, F.1, rw F.2)

-- An area that is too small: the member is answered 201, 202 or 203, at place 0, and its output stays.
pub short_member : (settings : List Setting) (prelude member : List ℕ) (area room : ℕ) (old : List ℕ)
    → (n : ℕ) × (n ≤ 3) × (member_call settings true prelude area member room ≡ (200 + n) * 4294967296) × (member_leaves settings true prelude area member old ≡ old)
unfolding member_call member_leaves room_with member_answer member_output packed when◌then◌else◌
short_member settings prelude member area room old = let S = short_prelude settings prelude in (S.0, S.1, rw S.2 (omega arith), rw S.2)

-- ---- a member in a batch, and by itself

module _ (settings : List Setting) (usual : AllUsual settings) (prelude members lengths : List ℕ) (old : Buffers) (good : bad_members lengths members ≡ false) (few : few_bytes lengths (length old.answers) ≡ false)
    (i : ℕ) (m : List ℕ) (there : get_elem? (cut lengths members) i ≡ some m) (q : Prelude) (accepts : prelude_of settings prelude (length old.prelude) ≡ accepted q)
    (area : ℕ) (enough : q.setting.version.header + 64 * row_count q.setting.version prelude ≤ area) where
  abbrev share : ℕ
  share = share_of (cut lengths members) (length old.outs)

  -- Inside an accepted prelude, a member's share and answer are what a call for it alone leaves and answers, in whatever area the prelude is
  -- resolved there.
  pub as_called : (share_at i share (batch_leaves settings false prelude members lengths old).outs ≡ member_leaves settings false prelude area m (share_at i share old.outs))
      × (eight i (batch_leaves settings false prelude members lengths old).answers ≡ bytes 8 (member_call settings false prelude area m share))
  unfolding batch_leaves member_leaves member_call room_with when◌then◌else◌
  as_called =
      let E = enough_work settings prelude (length old.prelude) area q accepts enough m in (
        own_share settings usual prelude members lengths old good few i m there ∙ sym (E.1 (share_at i share old.outs)),
        own_answer settings usual prelude members lengths old good few i m there
            ∙ (ap (λ (o : AnswerOf Prelude). eight_after o (member_answer settings prelude (length old.prelude) m share) (eight i old.answers)) accepts ∙ ap (λ (a : Answer). bytes 8 (packed a)) (sym (E.0 share))),
      )

-- ---- isolation

-- TWO CALLS WITH ONE PRELUDE, in buffers of one length for it and with working areas that both suffice or both do not: whatever the other members
-- are, and wherever it stands among them, a member whose shares are as long is left the same bytes and the same answer, if its share and its eight
-- bytes held the same.
pub isolated_calls : (settings : List Setting) → AllUsual settings → (short : Bool) (prelude members lengths members' lengths' : List ℕ) (old old' : Buffers)
    → bad_members lengths members ≡ false → bad_members lengths' members' ≡ false → few_bytes lengths (length old.answers) ≡ false → few_bytes lengths' (length old'.answers) ≡ false
    → length old.prelude ≡ length old'.prelude
    → (i j : ℕ) (m : List ℕ) → get_elem? (cut lengths members) i ≡ some m → get_elem? (cut lengths' members') j ≡ some m
    → (share : ℕ) → share_of (cut lengths members) (length old.outs) ≡ share → share_of (cut lengths' members') (length old'.outs) ≡ share
    → share_at i share old.outs ≡ share_at j share old'.outs → eight i old.answers ≡ eight j old'.answers
    → (share_at i share (batch_leaves settings short prelude members lengths old).outs ≡ share_at j share (batch_leaves settings short prelude members' lengths' old').outs)
    × (eight i (batch_leaves settings short prelude members lengths old).answers ≡ eight j (batch_leaves settings short prelude members' lengths' old').answers)
unfolding batch_leaves when◌then◌else◌
isolated_calls settings u true prelude members lengths members' lengths' old old' g g' r r' same i j m t t' share e e' held answers = (held, answers)
isolated_calls settings u false prelude members lengths members' lengths' old old' g g' r r' same i j m t t' share e e' held answers =
    isolated settings u prelude members lengths members' lengths' old old' g g' r r' same i j m t t' share e e' held answers
