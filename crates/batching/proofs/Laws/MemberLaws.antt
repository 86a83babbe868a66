-- Of one member by itself: a batch gives it the same answer and the same bytes, and its own refusals are told from the prelude's.
use Rattle.std.specs.Prelude.{◌≡◌, refl, Bool, true, false, not, ◌||◌, List, [], ◌∷◌, ℕ, ◌+◌, ◌*◌, ◌≤◌, ◌<◌, eqb, ltb, length}
use Rattle.std.proofs.Common.{ap, sym, ◌∙◌, subst, arith, le-ltb}
use Rattle.std.proofs.Math.Option.{Option, none, some}
use Rattle.std.proofs.Math.ListN.{get_elem?}
use Rattle.rules.specs.Tools.{when◌then◌else◌, between}
use Rattle.rules.specs.Versions.{RuleSet, Setting}
use Rattle.rules.specs.Tree.{Scope, flatten, RowsRead, bad, deep, form}
use Rattle.rules.specs.Reader.{read}
use Rattle.rules.specs.Rules.{Refusal, twice, not_exported, not_outer, unknown, no_such_scope, too_far, case_twice, not_earlier, number_of, Result, ok, Env, resolve_inside}
use Rattle.rules.specs.Answer
use Rattle.rules.specs.Answer.{AnswerOf, refused, accepted, map_answer, Answer, setting_of, row_count, rows_in, scopes_left, after_reading, form_in, answer_inside}
use Rattle.batching.specs.Batch.{Prelude, root_of, prelude_in, prelude_of, share_of, member_answer, member_output, batch_answer, batch_outputs}
use Rattle.rules.proofs.Laws.InputLaws.{AllUsual}
use Rattle.rules.specs.Laws.ToolLaws.{false_not}
use Rattle.rules.specs.Laws.Results.{if_both}
use Rattle.batching.proofs.Laws.BatchLaws.{members_answers, share_at, member_answer_lem, shares}

no_answer : {X A : Type 0} (n p : ℕ) (c : List ℕ) (a : A) → ◌≡◌ {A = AnswerOf A} (refused n p c) (accepted a) → X
no_answer n p c a e = let z : ◌≡◌ {A = ℕ} 0 1 = cc in absurd (omega arith)

-- ---- in a batch

module _ (settings : List Setting) (prelude : List ℕ) (members : List (List ℕ)) (count : between 1 8 (length members) ≡ true) (i : ℕ) (m : List ℕ) (there : get_elem? members i ≡ some m) where
  -- Where the prelude is not refused, a member's answer is the one that it gets by itself in a buffer as long as its share.
  pub as_alone : (prelude_room room : ℕ) (p : Prelude) → prelude_of settings prelude prelude_room ≡ accepted p
      → get_elem? (members_answers (batch_answer settings prelude members prelude_room room)) i ≡ some (member_answer settings prelude prelude_room m (share_of members room))
  unfolding member_answer
  as_alone prelude_room room p e = member_answer_lem settings prelude members count i m there prelude_room room ∙ rw e

  -- And its share holds what that buffer would hold; if the prelude is refused, both stay.
  pub writes_as_alone : AllUsual settings → (old_prelude old : List ℕ)
      → share_at i (share_of members (length old)) (batch_outputs settings prelude members old_prelude old).1 ≡ member_output settings prelude (length old_prelude) m (share_at i (share_of members (length old)) old)
  unfolding member_output
  writes_as_alone l old_prelude old = (shares settings l prelude members count old_prelude old).own i m there

-- ---- a prelude's refusal is told from a member's

-- a refusal of document 01, or none
abbrev Numbered : {A : Type 0} → AnswerOf A → Type 0
Numbered (refused n p c) = n ≤ 13
Numbered (accepted a) = Unit {0}

numbered_map : {A B : Type 0} (f : A → B) (a : AnswerOf A) → Numbered a → Numbered (map_answer f a)
unfolding map_answer
numbered_map f (refused n p c) h = h
numbered_map f (accepted a) h = tt

numbered_step : (why : Refusal) → number_of why ≤ 13
unfolding number_of
numbered_step (twice space first) = omega arith
numbered_step not_exported = omega arith
numbered_step (not_outer space) = omega arith
numbered_step (unknown space) = omega arith
numbered_step no_such_scope = omega arith
numbered_step too_far = omega arith
numbered_step case_twice = omega arith
numbered_step not_earlier = omega arith

numbered_run : (r : Result (Scope × ℕ)) → Numbered (Answer.resolved r)
unfolding Answer.resolved
numbered_run (Result.refused why p) = numbered_step why
numbered_run (ok r) = tt

numbered_reading : (around : List Env) (rules : RuleSet) (r : RowsRead) → Numbered (after_reading around rules r)
unfolding after_reading
numbered_reading around rules (bad p) = omega arith
numbered_reading around rules (deep p) = omega arith
numbered_reading around rules (form s) = numbered_run (resolve_inside rules around s)

numbered_form : (around : List Env) (s : Setting) (input : List ℕ) (room : ℕ) → Numbered (form_in around s input room)
unfolding form_in
numbered_form around s input room = if_both Numbered _ _ _ (omega arith) (if_both Numbered _ _ _ (omega arith) (numbered_reading around s.rules _))

numbered_for : (around : List Env) (o : Option Setting) (input : List ℕ) (room : ℕ) → Numbered (Answer.answer_for around o input room)
unfolding Answer.answer_for Answer.answer_in
numbered_for around none input room = omega arith
numbered_for around (some s) input room = numbered_map flatten (form_in around s input room) (numbered_form around s input room)

numbered_prelude : (o : Option Setting) (prelude : List ℕ) (room : ℕ) → Numbered (prelude_in o prelude room)
unfolding prelude_in
numbered_prelude none prelude room = omega arith
numbered_prelude (some s) prelude room = numbered_map _ (form_in [] s prelude room) (numbered_form [] s prelude room)

numbered_at : {A : Type 0} (a : AnswerOf A) (n p : ℕ) (c : List ℕ) → Numbered a → a ≡ refused n p c → n ≤ 13
numbered_at a n p c h e = subst Numbered e h

module _ (settings : List Setting) (prelude : List ℕ) (work : ℕ) (member : List ℕ) (room : ℕ) where
  -- A refused prelude: its number plus 200, and its place.
  pub prelude_told : (n p : ℕ) (c : List ℕ) → prelude_of settings prelude work ≡ refused n p c → (member_answer settings prelude work member room ≡ refused (200 + n) p c) × (n ≤ 13)
  unfolding member_answer
  prelude_told n p c e = (rw e, numbered_at (prelude_of settings prelude work) n p c (numbered_prelude (setting_of settings prelude) prelude work) e)

  -- Inside an accepted one the member's refusals are document 01's.
  pub member_told : (q : Prelude) (n p : ℕ) (c : List ℕ) → prelude_of settings prelude work ≡ accepted q → member_answer settings prelude work member room ≡ refused n p c → n ≤ 13
  unfolding member_answer answer_inside
  member_told q n p c e f = numbered_at _ n p c (numbered_for (root_of q.resolved ∷ []) (setting_of (q.setting ∷ []) member) member room) (rw e at f)

-- ---- where the prelude is resolved does not matter, if there is room

enough_form : (s : Setting) (input : List ℕ) (r r' : ℕ) (t : Scope) → form_in [] s input r ≡ accepted t → s.version.header + 64 * row_count s.version input ≤ r' → form_in [] s input r' ≡ accepted t
unfolding form_in when◌then◌else◌
enough_form s input r r' t e h = go (not (between 1 s.version.rows (row_count s.version input)) || not (eqb (length input) (s.version.header + 16 * row_count s.version input))) e
  where
    size : ℕ
    size = s.version.header + 64 * row_count s.version input

    A : AnswerOf Scope
    A = after_reading [] s.rules (read s.rules (scopes_left s.version.scopes []) (rows_in s input))

    roomy : (b b' : Bool) → b' ≡ false → (when b then refused 3 0 [] else A) ≡ accepted t → (when b' then refused 3 0 [] else A) ≡ accepted t
    roomy true b' q e = no_answer 3 0 [] t e
    roomy false true q e = false_not (sym q)
    roomy false false q e = e

    go : (b : Bool) → (when b then refused 2 0 [] else when ltb r size then refused 3 0 [] else A) ≡ accepted t → (when b then refused 2 0 [] else when ltb r' size then refused 3 0 [] else A) ≡ accepted t
    go true e = no_answer 2 0 [] t e
    go false e = roomy (ltb r size) (ltb r' size) (le-ltb r' size h) e

enough_prelude : (o : Option Setting) (prelude : List ℕ) (r r' : ℕ) (q : Prelude) → prelude_in o prelude r ≡ accepted q → q.setting.version.header + 64 * row_count q.setting.version prelude ≤ r' → prelude_in o prelude r' ≡ accepted q
unfolding prelude_in map_answer
enough_prelude none prelude r r' q e h = no_answer 1 0 [] q e
enough_prelude (some s) prelude r r' q e h = go (form_in [] s prelude r) refl e
  where
    go : (a : AnswerOf Scope) → form_in [] s prelude r ≡ a → map_answer (λ t. record { setting = s; resolved = t }) a ≡ accepted q → map_answer (λ t. record { setting = s; resolved = t }) (form_in [] s prelude r') ≡ accepted q
    go (refused n p c) f e = no_answer n p c q e
    go (accepted t) f e =
        let same : ◌≡◌ {A = Prelude} (record { setting = s; resolved = t }) q = cc in
        rw (enough_form s prelude r r' t f (subst (λ (x : Prelude). x.setting.version.header + 64 * row_count x.setting.version prelude ≤ r') (sym same) h)) e

-- In whatever buffer an accepted prelude is resolved that has room for it, the member gets the same.
pub enough_work : (settings : List Setting) (prelude : List ℕ) (work work' : ℕ) (q : Prelude) → prelude_of settings prelude work ≡ accepted q
    → q.setting.version.header + 64 * row_count q.setting.version prelude ≤ work' → (member : List ℕ)
    → ((room : ℕ) → member_answer settings prelude work' member room ≡ member_answer settings prelude work member room)
    × ((old : List ℕ) → member_output settings prelude work' member old ≡ member_output settings prelude work member old)
unfolding member_answer member_output
enough_work settings prelude work work' q e h member =
    let same = enough_prelude (setting_of settings prelude) prelude work work' q e h in
    (λ room. rw (same, e), λ old. rw (same, e))
