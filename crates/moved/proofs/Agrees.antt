-- The run against the rules, for any settings: when the lists have no room, when the form is refused, and what the lists hold when it is
-- accepted.
use Rattle.std.specs.Prelude.{Option as CodeOption, Some, None}
use mathlib.Core.Path.{◌≡◌, refl, ap, ap₂, sym, ◌∙◌, subst}
use mathlib.Core.Bool.{Bool, true, false, ◌||◌, not}
use mathlib.Core.Option.{Option, none, some}
use mathlib.Core.List.{List, [], ◌∷◌, ◌++◌, append_assoc}
use native.Mathlib.Omega.{arith}
use native.Mathlib.Nat.{sub-zero}
use Prim.Native.Nat.{ℕ, zero, suc, ◌+◌, ◌*◌, ◌-◌, ◌≤◌, ◌<◌}
use lib.Dec.{eqb, leb, ltb}
use lib.ListN.{length, take, drop, replicate, length-take, length-replicate}
use lib.Seq.{sets, sets-eq, length-take-le}
use borrow.Author.Tests.{ltb-false}
use Rattle.kit.specs.Out.{Out, ◌&◌}
use Rattle.kit.proofs.Laws.{tests}
use Rattle.rules.specs.Tools.{when◌then◌else◌, between}
use Rattle.rules.specs.Versions.{RuleSet, Setting}
use Rattle.rules.specs.Rows.{Row}
use Rattle.rules.specs.Tree.{Scope, flatten, RowsRead, bad, deep, form as tree}
use Rattle.rules.specs.Reader.{read}
use Rattle.rules.specs.Rules
use Rattle.rules.specs.Rules.{Refusal, number_of, Result, ok, resolve}
use Rattle.rules.specs.Answer
use Rattle.rules.specs.Answer.{AnswerOf, refused, accepted, map_answer, setting_of, row_count, rows_in, answer, form_in, output, written, output_after}
use Rattle.rules.specs.Laws.ToolLaws.{and_right, leb_le, or-true, false_not}
use Rattle.rules.specs.Laws.RowLaws.{Bytes}
use Rattle.rules.proofs.Laws.InputLaws.{AllUsual, Accepted}
use Rattle.moving.specs.Moved.{MovedNumber, NoItem}
use Rattle.moving.specs.MovedAnswer
use Rattle.moving.specs.MovedAnswer.{WithLists, MovedAnswer, listed, Rooms, too_short, moved_in, moved_answer, plainly, counts, moved_bytes, apart_bytes, moved_after, apart_after, Buffers, rooms_of, buffers_after, buffers_for, buffers}
use Rattle.moving.proofs.Laws.EntryRows.{same_answer}
use Rattle.stores.specs.Zeros.{zero_from}
use Rattle.form.specs.Header.{header_in, header_for}
use Rattle.form.specs.declared.header.BadHeader.TheVariants.{Wrong, Count}
use Rattle.resolver.specs.Meaning.{Numbers, numbers}
use Rattle.resolver.specs.Meaning as resolved
use Rattle.moved_list.specs.Listing.{entries_from, entries_in, moved_of, apart_of, noted}
use Rattle.moved_list.specs.Listing as listing
use Rattle.moved_list.specs.declared.Listed.{Listed}
use Rattle.moved_list.proofs.Ways.{moved_size, apart_size}
use Rattle.row_parts.specs.Parts as parts
use Rattle.reading_laws.specs.OnBytes
use Rattle.reading_laws.specs.OnBytes.{AllWithin, body}
use Rattle.moved_laws.specs.Agrees.{lists_agree}
use Rattle.moved.specs.Meaning.{ruled, held}
use Rattle.moved.specs.Run.{rows_of, listed_t, before, fronts_t}
use Rattle.numbers.specs.declared.Entry.TheVariants.{Moved, Apart}
use Rattle.numbers.specs.declared.Entry.{Entry}

-- ---- no refusal has the number 0

steps_number : (why : Refusal) → 1 ≤ number_of why
unfolding number_of
steps_number (Rules.twice space first) = omega arith
steps_number Rules.not_exported = omega arith
steps_number (Rules.not_outer space) = omega arith
steps_number (Rules.unknown space) = omega arith
steps_number Rules.no_such_scope = omega arith
steps_number Rules.too_far = omega arith
steps_number Rules.case_twice = omega arith
steps_number Rules.not_earlier = omega arith

abbrev pub Counted : {A : Type 0} → AnswerOf A → Type 0
Counted (refused n z c) = 1 ≤ n
Counted (accepted a) = Unit {0}

steps_counted : (r : Result (Scope × ℕ)) → Counted (Answer.resolved r)
unfolding Answer.resolved
steps_counted (Result.refused why z) = steps_number why
steps_counted (ok r) = tt

if_counted : {A : Type 0} (b : Bool) (x y : AnswerOf A) → Counted x → Counted y → Counted (when b then x else y)
unfolding when◌then◌else◌
if_counted true x y p q = p
if_counted false x y p q = q

reading_counted : (rules : RuleSet) (r : RowsRead) → Counted (Answer.after_reading [] rules r)
unfolding Answer.after_reading
reading_counted rules (bad p) = omega arith
reading_counted rules (deep p) = omega arith
reading_counted rules (tree s) = steps_counted _

flat_counted : (a : AnswerOf Scope) → Counted a → Counted (map_answer flatten a)
unfolding map_answer
flat_counted (refused n z c) p = p
flat_counted (accepted t) p = tt

pub answer_counted : (settings : List Setting) (input : List ℕ) (room : ℕ) → Counted (answer settings input room)
unfolding answer Answer.answer_inside Answer.answer_for Answer.answer_in form_in
answer_counted settings input room = go (setting_of settings input)
  where
    go : (o : Option Setting) → Counted (Answer.answer_for [] o input room)
    go none = omega arith
    go (some v) = flat_counted _ (if_counted _ _ _ (omega arith) (if_counted _ _ _ (omega arith) (reading_counted v.rules _)))

-- ---- how many rows a header asks for

abbrev pub asked : List Setting → List ℕ → ℕ
asked settings input = rows_of (header_for (setting_of settings input) input)

module _ (v : Setting) (input : List ℕ) where
  abbrev wrong_count : Bool
  wrong_count = not (between 1 v.version.rows (row_count v.version input)) || not (eqb (length input) (v.version.header + 16 * row_count v.version input))

  none_asked : wrong_count ≡ true → rows_of (header_for (some v) input) ≡ 0
  unfolding header_for header_in when◌then◌else◌
  none_asked e = rw e

  all_asked : wrong_count ≡ false → rows_of (header_for (some v) input) ≡ row_count v.version input
  unfolding header_for header_in when◌then◌else◌
  all_asked e = rw e

-- ---- zeros and entries

zeros_front : (l : List ℕ) (n : ℕ) → n ≤ length l → zero_from (take n l) 0 ≡ replicate n 0
unfolding zero_from
zeros_front l n h = let long = length-take-le n l h in rw (sub-zero, long)

drop_zeros : (n m : ℕ) → drop {A = ℕ} m (replicate n 0) ≡ replicate (n - m) 0
drop_zeros n zero = ap (λ (k : ℕ). replicate k 0) (sym (sub-zero n))
drop_zeros zero (suc m) = let z : 0 - suc m ≡ 0 = omega arith in rw z
drop_zeros (suc n) (suc m) = let z : suc n - suc m ≡ n - m = omega arith in rw z (drop_zeros n m)

-- entries at the front of zeros, and what lies beyond
written_is : (l bs : List ℕ) (n : ℕ) → n ≤ length l → length bs ≤ n → sets (zero_from (take n l) 0) 0 bs ++ drop n l ≡ written n bs l
unfolding written
written_is l bs n h room =
    let size = length-replicate {A = ℕ} n 0 in
    let here : 0 + length bs ≤ length (replicate {A = ℕ} n 0) = omega (arith, size, room) in
    let behind : 0 + length bs ≡ length bs = omega arith in
    ap (λ (x : List ℕ). sets x 0 bs ++ drop n l) (zeros_front l n h)
    ∙ (ap (λ (x : List ℕ). x ++ drop n l) (sets-eq bs (replicate n 0) 0 here ∙ ap (λ (k : ℕ). bs ++ drop k (replicate n 0)) behind ∙ ap (λ (x : List ℕ). bs ++ x) (drop_zeros n (length bs)))
    ∙ append_assoc bs (replicate (n - length bs) 0) (drop n l))

few_moved : (es : List (CodeOption Entry)) → length (moved_of es) ≤ length es
unfolding moved_of
few_moved [] = omega arith
few_moved (Some (Moved z space meant gets) ∷ es) = let h = few_moved es in omega (arith, h)
few_moved (Some (Apart z space number) ∷ es) = let h = few_moved es in omega (arith, h)
few_moved (None ∷ es) = let h = few_moved es in omega (arith, h)

few_apart : (es : List (CodeOption Entry)) → length (apart_of es) ≤ length es
unfolding apart_of
few_apart [] = omega arith
few_apart (Some (Moved z space meant gets) ∷ es) = let h = few_apart es in omega (arith, h)
few_apart (Some (Apart z space number) ∷ es) = let h = few_apart es in omega (arith, h)
few_apart (None ∷ es) = let h = few_apart es in omega (arith, h)

entries_length : (form out : List ℕ) (row left at : ℕ) → length (entries_from form out row left at) ≡ left
unfolding entries_from
entries_length form out row zero at = refl
entries_length form out row (suc left) at = ap suc (entries_length form out (row + 1) left _)

-- ---- under one setting

module _ (v : Setting) (input o m a : List ℕ) where
  abbrev in_one : MovedAnswer
  in_one = moved_in v input (rooms_of (held o m a))

  abbrev n : ℕ
  n = row_count v.version input

  abbrev after_one : MovedAnswer → Buffers
  after_one x = buffers_after v x n (held o m a)

  lists_short : wrong_count v input ≡ false → (ltb (length m) (16 * n) || ltb (length a) (12 * n)) ≡ true → in_one ≡ refused 3 0 []
  unfolding moved_in too_short rooms_of when◌then◌else◌
  lists_short e s = rw (e, s, or-true (ltb (length o) (v.version.header + 64 * n)))

  -- a refusal leaves the lists
  refused_leaves : (number place : ℕ) (carried : List ℕ) → after_one (refused number place carried) ≡ held (output_after v (refused number place carried) (v.version.header + 64 * n) o) m a
  unfolding buffers_after moved_after apart_after plainly map_answer
  refused_leaves number place carried = refl

  short_leaves : output_after v (refused 3 0 []) (v.version.header + 64 * n) o ≡ o
  unfolding output_after when◌then◌else◌
  short_leaves = refl

  -- the output is that of the resolver
  same_output : (ltb (length m) (16 * n) || ltb (length a) (12 * n)) ≡ false → (after_one in_one).out ≡ Answer.output_for [] (some v) input o
  unfolding buffers_after Answer.output_for rooms_of
  same_output e = ap (λ (x : Answer.Answer). output_after v x (v.version.header + 64 * n) o) (same_answer v input (rooms_of (held o m a)) e)

  wrong_answer : wrong_count v input ≡ true → (in_one ≡ refused 2 0 []) × (Answer.answer_in [] v input (length o) ≡ refused 2 0 [])
  unfolding moved_in Answer.answer_in form_in map_answer when◌then◌else◌
  wrong_answer e = (rw e, rw e)

  wrong_leaves : output_after v (refused 2 0 []) (v.version.header + 64 * n) o ≡ o
  unfolding output_after when◌then◌else◌
  wrong_leaves = refl

-- ---- answers

refused_same : (n z : ℕ) (c : List ℕ) → (resolved.ruled (plainly (refused n z c))).plain ≡ numbers n z
unfolding plainly map_answer
refused_same n z c = refl

accepted_zero : (l : WithLists) → (resolved.ruled (plainly (accepted l))).plain ≡ numbers 0 (length l.rows)
unfolding plainly map_answer
accepted_zero l = refl

same_held : {o m a : List ℕ} {b : Buffers} → o ≡ b.out → m ≡ b.moved → a ≡ b.apart → held o m a ≡ b
same_held p q r = rw (p, q, r)

plain_refused : (n z : ℕ) (c : List ℕ) → plainly (refused n z c) ≡ refused n z c
unfolding plainly map_answer
plain_refused n z c = refl

or_left : (a b : Bool) → a || b ≡ false → a ≡ false
or_left true b e = e
or_left false b e = refl

or_right : (a b : Bool) → a || b ≡ false → b ≡ false
or_right true b e = false_not (sym e)
or_right false b e = e

-- an accepted form has the count that its header says, and room
right_count : (v : Setting) (input : List ℕ) (room : ℕ) (t : Scope) → form_in [] v input room ≡ accepted t → (wrong_count v input ≡ false) × (ltb room (v.version.header + 64 * row_count v.version input) ≡ false)
unfolding form_in when◌then◌else◌
right_count v input room t e = go (wrong_count v input) (ltb room (v.version.header + 64 * row_count v.version input)) _ e
  where
    go : (b c : Bool) (rest : AnswerOf Scope) → (when b then refused 2 0 [] else when c then refused 3 0 [] else rest) ≡ accepted t → (b ≡ false) × (c ≡ false)
    go true c rest e = let no_way : ◌≡◌ {A = ℕ} 0 1 = cc in absurd (omega arith)
    go false true rest e = let no_way : ◌≡◌ {A = ℕ} 0 1 = cc in absurd (omega arith)
    go false false rest e = (refl, refl)

-- where there is no room for an output, nothing is accepted
pub no_room_refuses : {X : Type 0} (settings : List Setting) → AllUsual settings → AllWithin settings → (input : List ℕ) → Bytes input → (rs : List Row) → answer settings input 0 ≡ accepted rs → X
no_room_refuses settings usual within input bs rs e =
    let T = OnBytes.trees settings usual within input [] bs rs e in
    let h = T.usual.header in
    let none_left = ltb-false 0 (T.setting.version.header + 64 * row_count T.setting.version input) (right_count T.setting input 0 T.after T.forms).1 in
    absurd (omega (arith, h, none_left))

lists_made : (v : Setting) (input : List ℕ) (rooms : Rooms) (s t : Scope) (k : ℕ) → wrong_count v input ≡ false → ltb rooms.out (v.version.header + 64 * row_count v.version input) ≡ false
    → (ltb rooms.moved (16 * row_count v.version input) || ltb rooms.apart (12 * row_count v.version input)) ≡ false → read v.rules v.version.scopes (rows_in v input) ≡ tree s → resolve v.rules s ≡ ok (t, k)
    → moved_in v input rooms ≡ accepted (listed s t)
unfolding moved_in too_short MovedAnswer.of_reading Answer.resolved map_answer when◌then◌else◌
lists_made v input rooms s t k e₁ e₂ e₃ r q = rw (e₁, e₂, e₃, r, q)

-- ---- the lists have no room

no_more : (l : List ℕ) (k n : ℕ) → n ≡ 0 → ltb (length l) (k * n) ≡ false
no_more l k n e = let z : k * n ≡ 0 = omega (arith, ap (λ (x : ℕ). k * x) e) in omega (tests, z)

module _ (settings : List Setting) (input o m a : List ℕ) where
  abbrev rows : ℕ
  rows = asked settings input

  abbrev rooms : Rooms
  rooms = rooms_of (held o m a)

  abbrev pub is_short_lem : ℕ → Bool
  is_short_lem k = ltb (length m) (16 * k) || ltb (length a) (12 * k)

  none_short : (k : ℕ) → k ≡ 0 → is_short_lem k ≡ false
  none_short k e = rw (no_more m 16 k e, no_more a 12 k e)

  pub record Short : Type 0 where
    pub answers : moved_answer settings input rooms ≡ refused 3 0 []
    pub leaves : buffers settings input (held o m a) ≡ held o m a

  pub short : is_short_lem rows ≡ true → Short
  unfolding moved_answer MovedAnswer.moved_for buffers buffers_for header_for
  short e = go (setting_of settings input) refl e
    where
      never : {X : Type 0} (k : ℕ) → k ≡ 0 → is_short_lem k ≡ true → X
      never k z s = let no_way : ◌≡◌ {A = ℕ} 0 1 = (let c : false ≡ true = sym (none_short k z) ∙ s in cc) in absurd (omega arith)

      counted : (v : Setting) → setting_of settings input ≡ some v → (b : Bool) → wrong_count v input ≡ b → is_short_lem (rows_of (header_for (some v) input)) ≡ true → Short
      counted v q true w s = never _ (none_asked v input w) s
      counted v q false w s =
          let is = lists_short v input o m a w (subst (λ (k : ℕ). is_short_lem k ≡ true) (all_asked v input w) s) in
          record {
            answers = rw q is;
            leaves = rw (q, is) (refused_leaves v input o m a 3 0 [] ∙ ap (λ (x : List ℕ). held x m a) (short_leaves v input o m a));
          }

      go : (x : Option Setting) → setting_of settings input ≡ x → is_short_lem (rows_of (header_for x input)) ≡ true → Short
      go none q s = never 0 refl s
      go (some v) q s = counted v q (wrong_count v input) refl s

  -- ---- the lists have room

  record Long : Type 0 where
    plain : plainly (moved_answer settings input rooms) ≡ answer settings input (length o)
    leaves : (buffers settings input (held o m a)).out ≡ output settings input o

  long : is_short_lem rows ≡ false → Long
  unfolding moved_answer MovedAnswer.moved_for buffers buffers_for header_for answer Answer.answer_inside Answer.answer_for output Answer.output_inside Answer.output_for rooms_of
  long e = go (setting_of settings input) refl e
    where
      counted : (v : Setting) → setting_of settings input ≡ some v → (b : Bool) → wrong_count v input ≡ b → is_short_lem (rows_of (header_for (some v) input)) ≡ false → Long
      counted v q true w s =
          let W = wrong_answer v input o m a w in
          record {
            plain = rw (q, W.0, W.1) (plain_refused 2 0 []);
            leaves = rw (q, W.0) (ap (λ (b : Buffers). b.out) (refused_leaves v input o m a 2 0 []) ∙ ap (λ (x : Answer.Answer). output_after v x (v.version.header + 64 * row_count v.version input) o) (sym W.1));
          }
      counted v q false w s =
          let room = subst (λ (k : ℕ). is_short_lem k ≡ false) (all_asked v input w) s in
          record { plain = rw q (same_answer v input rooms room); leaves = rw q (same_output v input o m a room) }

      go : (x : Option Setting) → setting_of settings input ≡ x → is_short_lem (rows_of (header_for x input)) ≡ false → Long
      go none q s = record { plain = rw q (plain_refused 1 0 []); leaves = rw q refl }
      go (some v) q s = counted v q (wrong_count v input) refl s

  -- a refusal leaves the lists
  lists_left : (number place : ℕ) (carried : List ℕ) → moved_answer settings input rooms ≡ refused number place carried → ((buffers settings input (held o m a)).moved ≡ m) × ((buffers settings input (held o m a)).apart ≡ a)
  unfolding moved_answer MovedAnswer.moved_for buffers buffers_for
  lists_left number place carried e = go (setting_of settings input) e
    where
      go : (x : Option Setting) → MovedAnswer.moved_for x input rooms ≡ refused number place carried → ((buffers_for x input (held o m a)).moved ≡ m) × ((buffers_for x input (held o m a)).apart ≡ a)
      go none e = (refl, refl)
      go (some v) e = let all = ap (after_one v input o m a) e ∙ refused_leaves v input o m a number place carried in (ap (λ (b : Buffers). b.moved) all, ap (λ (b : Buffers). b.apart) all)

  -- refused by the resolver
  pub refuses : is_short_lem rows ≡ false → (number place : ℕ) (o' : List ℕ) → numbers number place ≡ (resolved.ruled (answer settings input (length o))).plain → o' ≡ output settings input o → (number ≡ 0 → ⊥)
      → (numbers number place ≡ ruled (moved_answer settings input rooms)) × (held o' m a ≡ buffers settings input (held o m a))
  refuses roomy number place o' e q Some-number = go (moved_answer settings input rooms) refl L.plain
    where
      L : Long
      L = long roomy

      go : (x : MovedAnswer) → moved_answer settings input rooms ≡ x → plainly x ≡ answer settings input (length o)
          → (numbers number place ≡ ruled x) × (held o' m a ≡ buffers settings input (held o m a))
      go (refused n z c) w p =
          let left = lists_left n z c w in
          (e ∙ ap (λ (x : Answer.Answer). (resolved.ruled x).plain) (sym p) ∙ refused_same n z c, same_held (q ∙ sym L.leaves) (sym left.0) (sym left.1))
      go (accepted l) w p = let zero_number : number ≡ 0 = ap (λ (x : Numbers). x.number) (e ∙ ap (λ (x : Answer.Answer). (resolved.ruled x).plain) (sym p) ∙ accepted_zero l) in absurd (Some-number zero_number)

  roomy_first : is_short_lem rows ≡ false → 16 * rows ≤ length m
  roomy_first e = ltb-false (length m) (16 * rows) (or_left (ltb (length m) (16 * rows)) _ e)

  roomy_second : is_short_lem rows ≡ false → 12 * rows ≤ length a
  roomy_second e = ltb-false (length a) (12 * rows) (or_right (ltb (length m) (16 * rows)) _ e)

  -- the answer with the lists, where the steps accept
  with_lists : (v : Setting) (s t : Scope) (k : ℕ) → setting_of settings input ≡ some v → is_short_lem rows ≡ false → form_in [] v input (length o) ≡ accepted t → read v.rules v.version.scopes (rows_in v input) ≡ tree s
      → resolve v.rules s ≡ ok (t, k) → (moved_answer settings input rooms ≡ accepted (listed s t)) × (rows ≡ row_count v.version input)
  unfolding moved_answer MovedAnswer.moved_for rooms_of
  with_lists v s t k q roomy f r e =
      let counted = right_count v input (length o) t f in
      let all : rows ≡ row_count v.version input = ap (λ (x : Option Setting). rows_of (header_for x input)) q ∙ all_asked v input counted.0 in
      (rw q (lists_made v input rooms s t k counted.0 counted.1 (subst (λ (n : ℕ). is_short_lem n ≡ false) all roomy) r e), all)

  -- what the lists then hold
  listed_after : (v : Setting) (l : WithLists) → setting_of settings input ≡ some v → moved_answer settings input rooms ≡ accepted l
      → ((buffers settings input (held o m a)).moved ≡ written (16 * row_count v.version input) (moved_bytes l.moved) m) × ((buffers settings input (held o m a)).apart ≡ written (12 * row_count v.version input) (apart_bytes l.apart) a)
  unfolding moved_answer MovedAnswer.moved_for buffers buffers_for buffers_after moved_after apart_after
  listed_after v l q e = let one : moved_in v input rooms ≡ accepted l = rw q at e in (rw (q, one), rw (q, one))

  -- accepted by the resolver
  module _ (usual : AllUsual settings) (within : AllWithin settings) (bs : Bytes input) (roomy : is_short_lem rows ≡ false) (rs : List Row) (e : answer settings input (length o) ≡ accepted rs) where
    abbrev T : Accepted settings input o rs
    T = OnBytes.trees settings usual within input o bs rs e

    abbrev v : Setting
    v = T.setting

    abbrev o' : List ℕ
    o' = output settings input o

    abbrev l : WithLists
    l = listed T.before T.after

    made : (moved_answer settings input rooms ≡ accepted l) × (rows ≡ row_count v.version input)
    unfolding resolve
    made = with_lists v T.before T.after T.next T.asked_for roomy T.forms T.reads T.resolves

    entries : List (CodeOption Entry)
    entries = entries_in (body v input) (body v o')

    agree : (moved_of entries ≡ l.moved) × (apart_of entries ≡ l.apart)
    unfolding listed entries resolve
    agree =
        lists_agree (body v input) (body v o') v.rules T.before T.after T.next T.low T.resolves (OnBytes.rows_before settings usual within input o bs rs e)
        (OnBytes.rows_after_lem settings usual within input o bs rs e) (OnBytes.rows_are settings usual within input o bs rs e)

    few : length entries ≡ rows
    unfolding entries entries_in
    few =
        entries_length (body v input) (body v o') 0 (parts.rows_in (body v input)) 0
        ∙ (OnBytes.rows_are settings usual within input o bs rs e ∙ (OnBytes.count_is settings usual within input o bs rs e ∙ sym made.1))

    -- the lists, made by the code
    abbrev first : List ℕ
    first = sets (zero_from (take (16 * rows) m) 0) 0 (moved_bytes (moved_of entries)) ++ drop (16 * rows) m

    abbrev second : List ℕ
    second = sets (zero_from (take (12 * rows) a) 0) 0 (apart_bytes (apart_of entries)) ++ drop (12 * rows) a

    fronts : fronts_t (body v input) (body v o') m a rows ≡ (listing.listed (0 + length (moved_of entries)) (0 + length (apart_of entries)) & first & second)
    unfolding fronts_t before listed_t noted entries
    fronts = refl

    first_is : first ≡ (buffers settings input (held o m a)).moved
    first_is =
        let n = few_moved entries in
        let size = moved_size (moved_of entries) in
        let long = roomy_first roomy in
        written_is m (moved_bytes (moved_of entries)) (16 * rows) long (omega (arith, n, size, few))
        ∙ (ap₂ (λ (k : ℕ) (x : List MovedNumber). written (16 * k) (moved_bytes x) m) made.1 agree.0 ∙ sym (listed_after v l T.asked_for made.0).0)

    second_is : second ≡ (buffers settings input (held o m a)).apart
    second_is =
        let n = few_apart entries in
        let size = apart_size (apart_of entries) in
        let long = roomy_second roomy in
        written_is a (apart_bytes (apart_of entries)) (12 * rows) long (omega (arith, n, size, few))
        ∙ (ap₂ (λ (k : ℕ) (x : List NoItem). written (12 * k) (apart_bytes x) a) made.1 agree.1 ∙ sym (listed_after v l T.asked_for made.0).1)

    counted : numbers 0 (65536 * length (apart_of entries) + length (moved_of entries)) ≡ ruled (moved_answer settings input rooms)
    unfolding counts
    counted = ap₂ (λ (x : List NoItem) (y : List MovedNumber). numbers 0 (65536 * length x + length y)) agree.1 agree.0 ∙ ap ruled (sym made.0)

    pub accepts : (r : Listed) (m' a' : List ℕ) → (r & m' & a') ≡ fronts_t (body v input) (body v o') m a rows
        → (numbers 0 (65536 * r.apart + r.moved) ≡ ruled (moved_answer settings input rooms)) × (held o' m' a' ≡ buffers settings input (held o m a))
    accepts r m' a' h =
        let all = h ∙ fronts in
        let none_before : (n : ℕ) → 0 + n ≡ n = λ n. omega arith in
        let number : r ≡ listing.listed (0 + length (moved_of entries)) (0 + length (apart_of entries)) = cc in
        let one : m' ≡ first = cc in
        let other : a' ≡ second = cc in
        (ap (λ (x : Listed). numbers 0 (65536 * x.apart + x.moved)) (number ∙ ap₂ listing.listed (none_before _) (none_before _)) ∙ counted, same_held (sym (long roomy).leaves) (one ∙ first_is) (other ∙ second_is))
