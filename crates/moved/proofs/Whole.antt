-- The ways through the whole run, under the settings in force.
use Rattle.std.specs.Prelude.{Result, Ok, Err, ℕ}
use mathlib.Core.Path.{◌≡◌, refl, ap, sym, ◌∙◌, subst}
use mathlib.Core.Bool.{Bool, true, false, ◌||◌}
use mathlib.Core.Option.{none as nothing, some}
use mathlib.Core.List.{List, []}
use native.Mathlib.Omega.{arith}
use Prim.Native.Nat.{ℕ, ◌+◌, ◌*◌, ◌-◌, ◌≤◌, ◌<◌}
use lib.Dec.{ltb}
use lib.ListN.{length, get_or, drop}
use borrow.Author.Rules.{rules}
use mir.Syntax.{w8}
use mir.Val.{Fits}
use Rattle.kit.specs.Pick.{pick}
use Rattle.kit.specs.Out.{◌&◌}
use Rattle.kit.proofs.Laws.{tests}
use Rattle.rules.specs.Tools.{only, ◌or_else◌}
use Rattle.rules.specs.Versions.{Setting, base, version1, today}
use Rattle.rules.specs.Rows.{Row}
use Rattle.rules.specs.Answer
use Rattle.rules.specs.Answer.{AnswerOf, refused, accepted, setting_of, has_header, answer, output}
use Rattle.rules.specs.Laws.ToolLaws.{or-true}
use Rattle.rules.specs.Laws.Results.{some_same, no_option}
use Rattle.rules.proofs.Laws.InputLaws.{base_usual}
use Rattle.moving.specs.MovedAnswer.{MovedAnswer, moved_answer, rooms_of, buffers}
use Rattle.refusal.specs.declared.Refusal.{Refusal}
use Rattle.limits.specs.Held.{setting_in}
use Rattle.form.specs.Header.{header_for, header_to}
use Rattle.resolver.specs.Meaning.{Numbers, numbers}
use Rattle.resolver.specs.Meaning as resolved
use Rattle.resolver.proofs.Bytes.{all_bytes}
use Rattle.moved_list.specs.declared.Listed.{Listed}
use Rattle.reading_laws.specs.OnBytes
use Rattle.reading_laws.specs.OnBytes.{base_within, body}
use Rattle.moved.specs.Meaning.{meaning, ruled, held}
use Rattle.moved.specs.Run.{rows_of, rows_asked, fronts_t}
use Rattle.moved.proofs.Agrees.{Counted, answer_counted, asked, is_short_lem, Short, short, refuses, accepts}
use Rattle.refusal.specs.declared.Refused.{Refused}

-- a header of version 1 has eight bytes
body_is : (input bs : List ℕ) (v : Setting) → setting_of base input ≡ some v → body v bs ≡ bs
unfolding setting_of only ◌or_else◌
body_is input bs v e = go (has_header (record { version = version1; rules = today }) input) e
  where
    go : (b : Bool) → (only b (record { version = version1; rules = today }) or_else nothing) ≡ some v → body v bs ≡ bs
    go true e = ap (λ (u : Setting). body u bs) (sym (some_same _ v e))
    go false e = no_option v e

-- an answer of number 0 is an acceptance
pub is_accepted : (a : AnswerOf (List Row)) (number place : ℕ) → Counted a → numbers number place ≡ (resolved.ruled a).plain → number ≡ 0 → (rs : List Row) × (a ≡ accepted rs)
is_accepted (refused n z c) number place k e q = let same : number ≡ n = ap (λ (x : Numbers). x.number) e in absurd (omega (arith, same, q, k))
is_accepted (accepted rs) number place k e q = (rs, refl)

module _ (form o m a : List ℕ) (rows : ℕ) (are : rows ≡ rows_asked 0 form) where
  abbrev A : MovedAnswer
  A = moved_answer base form (rooms_of (held o m a))

  rows_asked_lem : asked base form ≡ rows
  unfolding rows_asked header_to setting_of setting_in pick only ◌or_else◌
  rows_asked_lem = go (has_header (record { version = version1; rules = today }) form) (sym are)
    where
      go : (b : Bool) → rows_of (header_for (only b (record { version = version1; rules = today })) form) ≡ rows → rows_of (header_for (only b (record { version = version1; rules = today }) or_else nothing) form) ≡ rows
      go true e = e
      go false e = e

  no_room : (ltb (length m) (16 * rows) || ltb (length a) (12 * rows)) ≡ true → (meaning (Err (record { number = 3; place = 0 })) ≡ ruled A) × (held o m a ≡ buffers base form (held o m a))
  no_room e =
      let S = short base form o m a (subst (λ (k : ℕ). is_short_lem base form o m a k ≡ true) (sym rows_asked_lem) e) in
      (ap ruled (sym S.answers), sym S.leaves)

  -- the lists have no room
  module _ (h : length m < 16 * rows) where
    first_short : (ltb (length m) (16 * rows) || ltb (length a) (12 * rows)) ≡ true
    first_short = let t : ltb (length m) (16 * rows) ≡ true = omega tests in ap (λ (b : Bool). b || ltb (length a) (12 * rows)) t

    pub first_answers : meaning (Err (record { number = 3; place = 0 })) ≡ ruled A
    first_answers = (no_room first_short).0

    pub first_leaves : held o m a ≡ buffers base form (held o m a)
    first_leaves = (no_room first_short).1

  module _ (h : length a < 12 * rows) where
    second_short : (ltb (length m) (16 * rows) || ltb (length a) (12 * rows)) ≡ true
    second_short = let t : ltb (length a) (12 * rows) ≡ true = omega tests in ap (λ (b : Bool). ltb (length m) (16 * rows) || b) t ∙ or-true (ltb (length m) (16 * rows))

    pub second_answers : meaning (Err (record { number = 3; place = 0 })) ≡ ruled A
    second_answers = (no_room second_short).0

    pub second_leaves : held o m a ≡ buffers base form (held o m a)
    second_leaves = (no_room second_short).1

  module _ (h : 16 * rows ≤ length m) (k : 12 * rows ≤ length a) (x : Result ℕ Refused) (o' : List ℕ) (said : resolved.meaning x ≡ resolved.ruled (answer base form (length o))) (left : o' ≡ output base form o)
      (r : Refusal) (told : numbers r.number r.place ≡ (resolved.meaning x).plain) where
    roomy : is_short_lem base form o m a (asked base form) ≡ false
    roomy = subst (λ (n : ℕ). is_short_lem base form o m a n ≡ false) (sym rows_asked_lem) (let p : ltb (length m) (16 * rows) ≡ false = omega tests in let q : ltb (length a) (12 * rows) ≡ false = omega tests in rw (p, q))

    -- refused
    pub refused_answers : (r.number ≡ 0 → ⊥) → meaning (Err r) ≡ ruled A
    refused_answers n = (refuses base form o m a roomy r.number r.place o' (told ∙ ap (λ (x : resolved.Said). x.plain) said) left n).0

    pub refused_leaves : (r.number ≡ 0 → ⊥) → held o' m a ≡ buffers base form (held o m a)
    refused_leaves n = (refuses base form o m a roomy r.number r.place o' (told ∙ ap (λ (x : resolved.Said). x.plain) said) left n).1

    -- accepted
    module _ (all : (i : ℕ) → Fits w8 (get_or form i 0)) (n : r.number ≡ 0) (l : Listed) (m' a' : List ℕ) (lists : (l & m' & a') ≡ fronts_t form o' m a rows) where
      same_fronts : {f g : List ℕ} {n : ℕ} → output base form o ≡ o' → form ≡ f → output base form o ≡ g → rows ≡ n → fronts_t form o' m a rows ≡ fronts_t f g m a n
      same_fronts e₁ e₂ e₃ e₄ = rw (← e₁, ← e₂, ← e₃, ← e₄)

      pub lists_written : (meaning (Ok l) ≡ ruled A) × (held o' m' a' ≡ buffers base form (held o m a))
      lists_written =
          let Y = is_accepted (answer base form (length o)) r.number r.place (answer_counted base form (length o)) (told ∙ ap (λ (x : resolved.Said). x.plain) said) n in
          let bs = all_bytes form all in
          let asks = (OnBytes.trees base base_usual base_within form o bs Y.0 Y.1).asked_for in
          let made = accepts base form o m a base_usual base_within bs roomy Y.0 Y.1 l m' a'
          (lists ∙ same_fronts (sym left) (sym (body_is form form _ asks)) (sym (body_is form (output base form o) _ asks)) (sym rows_asked_lem)) in
          (made.0, ap (λ (z : List ℕ). held z m' a') left ∙ made.1)

pub ruleset whole_ways = (first_answers, first_leaves, second_answers, second_leaves, refused_answers, refused_leaves, rules)
