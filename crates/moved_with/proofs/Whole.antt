-- The ways through the whole run, in areas that are large enough and in others.
use Rattle.std.specs.Prelude.{Result, Ok, Err, ℕ}
use mathlib.Core.Path.{◌≡◌, refl, ap, sym, ◌∙◌, subst}
use mathlib.Core.Bool.{Bool, true, false, ◌||◌}
use mathlib.Core.Option.{some}
use mathlib.Core.List.{List, []}
use native.Mathlib.Omega.{arith}
use Prim.Native.Nat.{ℕ, ◌+◌, ◌*◌, ◌-◌, ◌≤◌, ◌<◌}
use lib.Dec.{ltb}
use lib.ListN.{length, get_or, drop}
use borrow.Author.Rules.{rules}
use borrow.Author.Tests.{ltb-false}
use mir.Syntax.{w8}
use mir.Val.{Fits}
use Rattle.kit.specs.Out.{◌&◌}
use Rattle.rules.specs.Tools.{when◌then◌else◌}
use Rattle.rules.specs.Versions.{Setting, all}
use Rattle.rules.specs.Rows.{Row}
use Rattle.rules.specs.Answer.{AnswerOf, refused, accepted, setting_of, answer, output}
use Rattle.rules.specs.Laws.RowLaws.{Bytes}
use Rattle.rules.proofs.Laws.InputLaws.{all_usual}
use Rattle.moving.specs.MovedAnswer.{MovedAnswer, moved_answer, rooms_of, Buffers, buffers}
use Rattle.limits.specs.Held.{setting}
use Rattle.refusal.specs.declared.Refusal.{Refusal}
use Rattle.resolver.specs.Meaning.{Numbers, Said, numbers}
use Rattle.resolver.specs.Meaning as resolved
use Rattle.resolver.proofs.Bytes.{all_bytes}
use Rattle.names.specs.Table.{Slot}
use Rattle.resolver_with.specs.Areas.{Lent, roomy, Cleared}
use Rattle.resolver_with.specs.Asked as by
use Rattle.resolver_with.specs.With.{answer_with, output_with}
use Rattle.lent_areas.proofs.InForce.{asked_is, header_asked}
use Rattle.moved_list.specs.declared.Listed.{Listed}
use Rattle.reading_laws.specs.OnBytes
use Rattle.reading_laws.specs.OnBytes.{body, all_within}
use Rattle.moved.specs.Meaning.{meaning, ruled, held}
use Rattle.moved.specs.Run.{rows_of, rows_asked, fronts_t}
use Rattle.moved.proofs.Agrees.{answer_counted, asked, is_short_lem, Short, short, refuses, accepts, no_room_refuses}
use Rattle.moved.proofs.Whole.{is_accepted}
use Rattle.moved_with.specs.With.{moved_with, buffers_with}
use Rattle.refusal.specs.declared.Refused.{Refused}

module _ (form o m a : List ℕ) (lent : Lent) (i rows : ℕ) (asks : setting i ≡ by.asked form) (are : rows ≡ rows_asked i form) where
  abbrev enough : Bool
  enough = roomy (by.asked form).version lent

  abbrev answers : MovedAnswer
  answers = moved_with form (rooms_of (held o m a)) lent

  abbrev leaves : Buffers
  leaves = buffers_with form (held o m a) lent

  rows_asked_lem : asked all form ≡ rows
  unfolding rows_asked
  rows_asked_lem = sym (are ∙ ap rows_of (header_asked i form asks))

  -- what is answered where the areas are large enough, and where they are not
  answers_roomy : enough ≡ true → answers ≡ moved_answer all form (rooms_of (held o m a))
  unfolding moved_with when◌then◌else◌ rooms_of
  answers_roomy e = rw e

  answers_small : enough ≡ false → answers ≡ moved_answer all form (rooms_of (held [] m a))
  unfolding moved_with when◌then◌else◌ rooms_of
  answers_small e = rw e

  leaves_roomy : enough ≡ true → leaves ≡ buffers all form (held o m a)
  unfolding buffers_with when◌then◌else◌
  leaves_roomy e = rw e

  leaves_small : enough ≡ false → leaves ≡ held o m a
  unfolding buffers_with when◌then◌else◌
  leaves_small e = rw e

  resolved_roomy : enough ≡ true → answer_with form (length o) lent ≡ answer all form (length o)
  unfolding answer_with when◌then◌else◌
  resolved_roomy e = rw e

  resolved_small : enough ≡ false → answer_with form (length o) lent ≡ answer all form (length {A = ℕ} [])
  unfolding answer_with when◌then◌else◌
  resolved_small e = rw e

  -- the lists have no room
  module _ (b : Bool) (is : b ≡ (ltb (length m) (16 * rows) || ltb (length a) (12 * rows))) (e : b ≡ true) where
    none_fit : (o : List ℕ) → Short all form o m a
    none_fit o = short all form o m a (subst (λ (k : ℕ). is_short_lem all form o m a k ≡ true) (sym rows_asked_lem) (sym is ∙ e))

    pub short_answers : meaning (Err (record { number = 3; place = 0 })) ≡ ruled answers
    short_answers = go enough refl
      where
        go : (x : Bool) → enough ≡ x → meaning (Err (record { number = 3; place = 0 })) ≡ ruled answers
        go true q = ap ruled (sym (answers_roomy q ∙ (none_fit o).answers))
        go false q = ap ruled (sym (answers_small q ∙ (none_fit []).answers))

    pub short_leaves : held o m a ≡ leaves
    short_leaves = go enough refl
      where
        go : (x : Bool) → enough ≡ x → held o m a ≡ leaves
        go true q = sym (leaves_roomy q ∙ (none_fit o).leaves)
        go false q = sym (leaves_small q)

  module _ (b : Bool) (is : b ≡ (ltb (length m) (16 * rows) || ltb (length a) (12 * rows))) (fit : b ≡ false) where
    pub first_fits : 16 * rows ≤ length m
    first_fits = ltb-false (length m) (16 * rows) (left (ltb (length m) (16 * rows)) (sym is ∙ fit))
      where
        left : (x : Bool) → (x || ltb (length a) (12 * rows)) ≡ false → x ≡ false
        left true e = e
        left false e = refl

    pub second_fits : 12 * rows ≤ length a
    second_fits = ltb-false (length a) (12 * rows) (right (ltb (length m) (16 * rows)) (sym is ∙ fit))
      where
        right : (x : Bool) → (x || ltb (length a) (12 * rows)) ≡ false → ltb (length a) (12 * rows) ≡ false
        right true e = let no_way : ◌≡◌ {A = ℕ} 0 1 = cc in absurd (omega arith)
        right false e = e

    long : (o : List ℕ) → is_short_lem all form o m a (asked all form) ≡ false
    long o = subst (λ (k : ℕ). is_short_lem all form o m a k ≡ false) (sym rows_asked_lem) (sym is ∙ fit)

    module _ (x : Result ℕ Refused) (o' : List ℕ) (said : resolved.meaning x ≡ resolved.ruled (answer_with form (length o) lent)) (left : o' ≡ output_with form o lent) (r : Refusal) (told : numbers r.number r.place ≡ (resolved.meaning x).plain) where
      told_roomy : enough ≡ true → numbers r.number r.place ≡ (resolved.ruled (answer all form (length o))).plain
      told_roomy e = told ∙ ap (λ (s : Said). s.plain) (said ∙ ap resolved.ruled (resolved_roomy e))

      told_small : enough ≡ false → numbers r.number r.place ≡ (resolved.ruled (answer all form (length {A = ℕ} []))).plain
      told_small e = told ∙ ap (λ (s : Said). s.plain) (said ∙ ap resolved.ruled (resolved_small e))

      left_roomy : enough ≡ true → o' ≡ output all form o
      unfolding output_with when◌then◌else◌
      left_roomy e = rw e at left

      left_small : enough ≡ false → o' ≡ o
      unfolding output_with when◌then◌else◌
      left_small e = rw e at left

      -- the resolver refuses
      refused_returns : (r.number ≡ 0 → ⊥) → (meaning (Err r) ≡ ruled answers) × (held o' m a ≡ leaves)
      refused_returns n = go enough refl
        where
          go : (x : Bool) → enough ≡ x → (meaning (Err r) ≡ ruled answers) × (held o' m a ≡ leaves)
          go true q =
              let R = refuses all form o m a (long o) r.number r.place o' (told_roomy q) (left_roomy q) n in
              (R.0 ∙ ap ruled (sym (answers_roomy q)), R.1 ∙ sym (leaves_roomy q))
          go false q =
              let R = refuses all form [] m a (long []) r.number r.place (output all form []) (told_small q) refl n in
              (R.0 ∙ ap ruled (sym (answers_small q)), ap (λ (z : List ℕ). held z m a) (left_small q) ∙ sym (leaves_small q))

      pub refused_answers : (r.number ≡ 0 → ⊥) → meaning (Err r) ≡ ruled answers
      refused_answers n = (refused_returns n).0

      pub refused_leaves : (r.number ≡ 0 → ⊥) → held o' m a ≡ leaves
      refused_leaves n = (refused_returns n).1

      -- it accepts
      module _ (each : (i : ℕ) → Fits w8 (get_or form i 0)) (n : r.number ≡ 0) (l : Listed) (m' a' : List ℕ) (lists : (l & m' & a') ≡ fronts_t (body (setting i) form) (body (setting i) o') m a rows) where
        pub listed_returns : (meaning (Ok l) ≡ ruled answers) × (held o' m' a' ≡ leaves)
        listed_returns = go enough refl
          where
            go : (x : Bool) → enough ≡ x → (meaning (Ok l) ≡ ruled answers) × (held o' m' a' ≡ leaves)
            go true q =
                let Y = is_accepted (answer all form (length o)) r.number r.place (answer_counted all form (length o)) (told_roomy q) n in
                let bs = all_bytes form each in
                let T = OnBytes.trees all all_usual all_within form o bs Y.0 Y.1 in
                let same : setting i ≡ T.setting = asks ∙ asked_is form T.setting T.asked_for in
                let made = accepts all form o m a all_usual all_within bs (long o) Y.0 Y.1 l m' a'
                (lists ∙ (ap (λ (s : Setting). fronts_t (body s form) (body s o') m a rows) same ∙ (ap (λ (z : List ℕ). fronts_t (body T.setting form) (body T.setting z) m a rows) (left_roomy q) ∙ ap (λ (k : ℕ). fronts_t (body T.setting form) (body T.setting (output all form o)) m a k) (sym rows_asked_lem)))) in
                (made.0 ∙ ap ruled (sym (answers_roomy q)), ap (λ (z : List ℕ). held z m' a') (left_roomy q) ∙ (made.1 ∙ sym (leaves_roomy q)))
            go false q =
                let Y = is_accepted (answer all form (length {A = ℕ} [])) r.number r.place (answer_counted all form 0) (told_small q) n in
                no_room_refuses all all_usual all_within form (all_bytes form each) Y.0 Y.1

-- the areas, by the setting that the code goes by
pub cleared_asked : (form : List ℕ) (s : Setting) → s ≡ by.asked form → (e e' n n' : List Slot) (k k' c c' l l' : List ℕ) → Cleared s.version e e' n n' k k' c c' l l' → Cleared (by.asked form).version e e' n n' k k' c c' l l'
cleared_asked form s asks e e' n n' k k' c c' l l' h = subst (λ (x : Setting). Cleared x.version e e' n n' k k' c c' l l') asks h

pub ruleset whole_ways = (short_answers, short_leaves, refused_answers, refused_leaves, cleared_asked, rules)
