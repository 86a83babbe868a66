-- What is compared: the bytes that the resolver leaves under one setting begin with a resolved form exactly if that is the input's outcome.
use mathlib.Core.Path.{◌≡◌, refl, sym, ap, ◌∙◌, subst}
use mathlib.Core.Bool.{Bool, true, false, ◌&&◌, ◌||◌, not}
use mathlib.Core.Option.{Option, none, some}
use mathlib.Core.List.{List, [], ◌∷◌, ◌++◌, append-nil, append_assoc}
use native.Mathlib.Omega.{arith}
use Prim.Native.Nat.{ℕ, zero, suc, ◌+◌, ◌-◌, ◌*◌, ◌^◌, ◌≤◌, ◌<◌}
use lib.Dec.{eqb, leb, ltb}
use lib.ListN.{length, get_or, take, drop, replicate, length-append, length-replicate}
use lib.Seq.{take_at, take-take, drop_at}
use borrow.Author.Tests.{eqb-true, leb-true, le-ltb}
use Rattle.kit.proofs.Laws.{lt_or_le}
use Rattle.rules.specs.Tools.{when◌then◌else◌, between, only, ◌or_else◌, ◌then◌}
use Rattle.rules.specs.Versions.{Setting, as_claimed}
use Rattle.rules.specs.Rows.{value, Row}
use Rattle.rules.specs.Tree.{Scope, flatten}
use Rattle.rules.specs.Answer
use Rattle.rules.specs.Answer.{AnswerOf, refused, accepted, map_answer, Answer, same_numbers, has_header, setting_of, row_count, form_in, answer_in, answer, form_bytes, header_bytes, rows_bytes, written, output_after, output}
use Rattle.rules.specs.Laws.ToolLaws.{and_left, and_right, false_not}
use Rattle.rules.specs.Laws.RowLaws.{Bytes}
use Rattle.rules.specs.Laws.Results.{some_same, no_option}
use Rattle.rules.proofs.Laws.Output.OutBytes.{header_count}
use Rattle.rules.proofs.Laws.InputLaws.{Usual, Accepted, readings}
use Rattle.read_form.specs.ReadForm.{read_form}
use Rattle.read_form.proofs.Laws.ReadFormLaws.{ReadAs, read_exactly, neither}
use Rattle.read_form.proofs.Laws.OutputLength.{form_length}
use Rattle.unresolving.specs.BackAnswer.{form_of, outcome, is_outcome}
use Rattle.unresolving.proofs.Laws.Answered.{are_same}
use Rattle.unresolve.proofs.Ways.{same_length}

-- ---- bytes that begin with no mark

none_begins : (l rest : List ℕ) → get_or l 0 0 ≡ 0 → same_numbers (take (suc (length rest)) l) (87 ∷ rest) ≡ false
unfolding same_numbers
none_begins [] rest z = refl
none_begins (b ∷ l) rest z = rw z

-- ---- a form, and bytes behind it

numbers_same : (a b : List ℕ) → same_numbers a b ≡ true → a ≡ b
unfolding same_numbers
numbers_same [] [] e = refl
numbers_same [] (y ∷ b) e = false_not e
numbers_same (x ∷ a) [] e = false_not e
numbers_same (x ∷ a) (y ∷ b) e =
    let p = eqb-true x y (and_left (eqb x y) _ e) in
    let q = numbers_same a b (and_right (eqb x y) _ e) in
    rw (p, q)

take_front : (n m : ℕ) (l : List ℕ) → n ≤ m → take n (take m l) ≡ take n l
take_front zero m l h = refl
take_front (suc n) zero l h = absurd (omega arith)
take_front (suc n) (suc m) [] h = refl
take_front (suc n) (suc m) (b ∷ l) h = ap (λ (x : List ℕ). b ∷ x) (take_front n m l (omega arith))

part_front : (k n m : ℕ) (l : List ℕ) → k + n ≤ m → take n (drop k l) ≡ take n (drop k (take m l))
part_front zero n m l h = sym (take_front n m l (omega arith))
part_front (suc k) n zero l h = absurd (omega arith)
part_front (suc k) n (suc m) [] h = refl
part_front (suc k) n (suc m) (b ∷ l) h = part_front k n m l (omega arith)

-- ---- the answer does not hang on the room, if there is enough

not_less : (n : ℕ) → ltb n n ≡ false
not_less n = le-ltb n n (omega arith)

-- ---- what is left

blank_zero : (size : ℕ) (old : List ℕ) → 0 < size → get_or (written size [] old) 0 0 ≡ 0
unfolding written
blank_zero zero old h = absurd (omega arith)
blank_zero (suc n) old h = let e : suc n - 0 ≡ suc n = omega arith in rw e

left_zero : (b : Bool) (size : ℕ) (old : List ℕ) → 0 < size → get_or old 0 0 ≡ 0 → get_or (when b then old else written size [] old) 0 0 ≡ 0
unfolding when◌then◌else◌
left_zero true size old h z = z
left_zero false size old h z = blank_zero size old h

-- ---- under one setting

module _ (one : Setting) where
  -- a header that asks for one of these asks for it
  pub alone_one : (x : List ℕ) (v : Setting) → setting_of (one ∷ []) x ≡ some v → one ≡ v
  unfolding setting_of only ◌or_else◌
  alone_one x v e = go (has_header one x) e
    where
      go : (b : Bool) → (only b one or_else none) ≡ some v → one ≡ v
      go true q = some_same one v q
      go false q = no_option v q

  -- a resolved form begins with a mark
  first_byte : (l : List ℕ) → same_numbers (take 6 l) (Answer.mark one) ≡ true → (rest : List ℕ) × (l ≡ 87 ∷ rest)
  unfolding Answer.mark same_numbers
  first_byte [] e = false_not e
  first_byte (b ∷ l) e = (l, ap (λ (x : ℕ). x ∷ l) (eqb-true b 87 (and_left (eqb b 87) _ e)))

  unmarked : (l claim : List ℕ) → get_or l 0 0 ≡ 0 → same_numbers (take 6 claim) (Answer.mark one) ≡ true → same_numbers (take (length claim) l) claim ≡ false
  unmarked l claim z m = let F = first_byte claim m in rw F.1 (none_begins l F.0 z)

  module _ (U : Usual one) where
    -- the row count stands in the header
    count_in : (l m : List ℕ) → take one.version.header l ≡ take one.version.header m → row_count one.version l ≡ row_count one.version m
    unfolding row_count
    count_in l m e =
        let c = one.version.counting in
        let h = one.version.header in
        let fits = U.header in
        ap value (part_front 6 c h l (omega arith) ∙ ap (λ (x : List ℕ). take c (drop 6 x)) e ∙ sym (part_front 6 c h m (omega arith)))

    pub count_of : (rs : List Row) (z : List ℕ) → length rs ≤ 4 * one.version.rows → row_count one.version (form_bytes one rs ++ z) ≡ length rs
    unfolding form_bytes row_count
    count_of rs z few = rw (append_assoc (header_bytes one (length rs)) (rows_bytes rs) z) (header_count one (length rs) (rows_bytes rs ++ z) (omega (arith, U.countable)))

    same_form : (input : List ℕ) (a : Bool) (x : AnswerOf Scope) → not (between 1 one.version.rows (row_count one.version input)) || not (eqb (length input) (one.version.header + 16 * row_count one.version input)) ≡ a
        → (when a then refused 2 0 [] else when ltb (one.version.header + 64 * one.version.rows) (one.version.header + 64 * row_count one.version input) then refused 3 0 [] else x)
        ≡ (when a then refused 2 0 [] else when ltb (one.version.header + 64 * row_count one.version input) (one.version.header + 64 * row_count one.version input) then refused 3 0 [] else x)
    unfolding when◌then◌else◌
    same_form input true x e = refl
    same_form input false x e =
        let n = row_count one.version input in
        let h = one.version.header in
        let most = one.version.rows in
        let few = leb-true n most (and_right (leb 1 n) (leb n most) (neither (between 1 most n) (eqb (length input) (h + 16 * n)) e).0) in
        rw (le-ltb (h + 64 * most) (h + 64 * n) (omega arith), not_less (h + 64 * n))

    same_answer : (input : List ℕ) → answer_in [] one input (one.version.header + 64 * one.version.rows) ≡ answer_in [] one input (one.version.header + 64 * row_count one.version input)
    unfolding answer_in form_in
    same_answer input = ap (map_answer flatten) (same_form input _ _ refl)

    module _ (claim : List ℕ) (t : Scope) (reads : read_form (as_claimed one) claim ≡ accepted t) where
      as_read : ReadAs (as_claimed one) claim t
      as_read = (read_exactly (as_claimed one) claim t).0 reads

      claim_mark : same_numbers (take 6 claim) (Answer.mark one) ≡ true
      unfolding has_header Answer.mark
      claim_mark = and_right (leb one.version.header (length claim)) _ (and_left _ _ as_read.headed)

      pub claim_long : length claim ≡ one.version.header + 16 * row_count one.version claim
      unfolding row_count
      claim_long = eqb-true (length claim) _ as_read.long

      front_same : (rs : List Row) (z : List ℕ) → length rs ≤ 4 * one.version.rows → same_numbers (take (length claim) (form_bytes one rs ++ z)) claim ≡ same_numbers (form_bytes one rs) claim
      front_same rs z few = go (same_numbers (take (length claim) (form_bytes one rs ++ z)) claim) refl
        where
          long : length (form_bytes one rs) ≡ one.version.header + 16 * length rs
          long = form_length one rs U

          counted : row_count one.version (form_bytes one rs ++ z) ≡ length rs
          counted = count_of rs z few

          go : (b : Bool) → same_numbers (take (length claim) (form_bytes one rs ++ z)) claim ≡ b → b ≡ same_numbers (form_bytes one rs) claim
          go true e =
              let is = numbers_same (take (length claim) (form_bytes one rs ++ z)) claim e in
              let first : take one.version.header (form_bytes one rs ++ z) ≡ take one.version.header claim =
              sym (take_front one.version.header (length claim) (form_bytes one rs ++ z) (omega (arith, claim_long))) ∙ ap (take one.version.header) is in
              let same : length rs ≡ row_count one.version claim = sym counted ∙ count_in (form_bytes one rs ++ z) claim first in
              let all : form_bytes one rs ≡ claim = sym (take_at (form_bytes one rs) z (length claim) (omega (arith, long, claim_long, same))) ∙ is in
              sym (rw all (are_same claim))
          go false e = other (same_numbers (form_bytes one rs) claim) refl
            where
              other : (b : Bool) → same_numbers (form_bytes one rs) claim ≡ b → false ≡ b
              other false q = refl
              other true q =
                  let is = numbers_same (form_bytes one rs) claim q in
                  let whole : take (length claim) (form_bytes one rs ++ z) ≡ claim = take_at (form_bytes one rs) z (length claim) (ap length is) ∙ is in
                  false_not (sym e ∙ rw whole (are_same claim))

      module _ (input old : List ℕ) (bytes : Bytes input) (room : length old ≡ one.version.header + 64 * one.version.rows) (zero_first : get_or old 0 0 ≡ 0) where
        few_rows : (rs : List Row) → setting_of (one ∷ []) input ≡ some one → answer_in [] one input (one.version.header + 64 * one.version.rows) ≡ accepted rs → length rs ≤ 4 * one.version.rows
        unfolding answer Answer.answer_inside Answer.answer_for
        few_rows rs asks e =
            let A = readings (one ∷ []) (U, tt) input old bytes rs (rw (asks, room) e) in
            few A.setting (alone_one input A.setting A.asked_for) A.four A.counted
          where
            few : (v : Setting) → one ≡ v → length rs ≤ 4 * row_count v.version input → row_count v.version input ≤ v.version.rows → length rs ≤ 4 * one.version.rows
            few v q f c =
                let f' : length rs ≤ 4 * row_count one.version input = subst (λ (x : Setting). length rs ≤ 4 * row_count x.version input) (sym q) f in
                let c' : row_count one.version input ≤ one.version.rows = subst (λ (x : Setting). row_count x.version input ≤ x.version.rows) (sym q) c in
                omega arith

        by_answer : setting_of (one ∷ []) input ≡ some one → (x : Answer) → answer_in [] one input (one.version.header + 64 * one.version.rows) ≡ x
            → same_numbers (take (length claim) (output_after one x (one.version.header + 64 * row_count one.version input) old)) claim ≡ is_outcome (form_of one x) claim
        unfolding output_after form_of is_outcome
        by_answer asks (refused n p c) e = unmarked _ claim (left_zero (leb n 5) (one.version.header + 64 * row_count one.version input) old (omega (arith, U.header)) zero_first) claim_mark
        by_answer asks (accepted rs) e = unfold written in front_same rs _ (few_rows rs asks e)

        by_setting : (v : Setting) → setting_of (one ∷ []) input ≡ some v → same_numbers (take (length claim) (output (one ∷ []) input old)) claim ≡ is_outcome (outcome (one ∷ []) input) claim
        unfolding output Answer.output_inside Answer.output_for outcome ◌then◌
        by_setting v asks =
            let v-is = alone_one input v asks in
            let asks' : setting_of (one ∷ []) input ≡ some one = asks ∙ ap {B = Option Setting} some (sym v-is) in
            rw (asks', room, ← same_answer input) (by_answer asks' (answer_in [] one input (one.version.header + 64 * one.version.rows)) refl)

        by_none : setting_of (one ∷ []) input ≡ none → same_numbers (take (length claim) (output (one ∷ []) input old)) claim ≡ is_outcome (outcome (one ∷ []) input) claim
        unfolding output Answer.output_inside Answer.output_for outcome is_outcome ◌then◌
        by_none e = rw e (unmarked old claim zero_first claim_mark)

        pub resolved_is : same_numbers (take (length claim) (output (one ∷ []) input old)) claim ≡ is_outcome (outcome (one ∷ []) input) claim
        resolved_is = go (setting_of (one ∷ []) input) refl
          where
            go : (o : Option Setting) → setting_of (one ∷ []) input ≡ o → same_numbers (take (length claim) (output (one ∷ []) input old)) claim ≡ is_outcome (outcome (one ∷ []) input) claim
            go none e = by_none e
            go (some v) e = by_setting v e
